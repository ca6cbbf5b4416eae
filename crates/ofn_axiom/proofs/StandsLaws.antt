-- What stands for an expression is read as it, and nothing else is.
use Rattle.std.proofs.Common.{◌≡◌, ◌≢◌, ℕ, Bool, true, false, cond, ◌&&◌, List, [], ◌∷◌, ◌++◌, map, refl, ap, sym, ◌∙◌, append-nil, append_assoc}
use Rattle.std.specs.Prelude.{bytes_eq, Option, Some, None, Result, Ok, Err}
use Rattle.std.specs.Cmp.Lexicographic.{bytes_decides}
use Rattle.ofn_lex.specs.declared.token.Token.{Token}
use Rattle.ofn_lex.specs.declared.token.TokenKind.{TokenKind}
use Rattle.ofn_lex.specs.declared.token.TokenKind.TheVariants as kind
use Rattle.ofn_term.specs.declared.item.Item.{Item}
use Rattle.ofn_heads.specs.declared.head.Head.{Head}
use Rattle.ofn_heads.specs.declared.iri.Named.TheVariants as named
use Rattle.ofn_heads.specs.Names.{name_of_token, name_by_kind, is_iri, is_iri_by_kind, spelling, followed, expanded}
use Rattle.text_names.specs.Prefixes.{Prefixes, iri_of, has_colon, prefix_of, rest_of}
use Rattle.ofn_axiom.specs.declared.fault.OffsetFault.{OffsetFault}
use Rattle.ofn_axiom.specs.declared.fault.OffsetFault.TheVariants as fault
use Rattle.ofn_axiom.specs.declared.types.IriExpr.{IriExpr}
use Rattle.ofn_axiom.specs.declared.types.IriExpr.TheVariants as expr
use Rattle.ofn_axiom.specs.Steps.{◌>>=◌}
use Rattle.ofn_axiom.specs.Given.{Given, given, class_of_iri, property_of_iri, class_named, property_named, all_fit, classes_onto, class_after, with_class, as_intersection, as_restriction, class_group}
use Rattle.ofn_axiom.specs.StandsFor.{thing, nothing, top_property, bottom_property, IsIri, full, short, IsClassName, IsPropertyName, IsProperty, property, IsClass, top, bottom, class, intersection, restriction, AreClasses, none, one_more}
use Rattle.ofn_axiom.proofs.GivenLaws.{atom_gives, group_gives}

-- an IRI is what the token is read as
pub iri_name : (text : List ℕ) (prefixes : Prefixes) (token : Token) (iri : List ℕ) → IsIri text prefixes token iri → name_of_token text prefixes token ≡ named.Iri iri
iri_name text prefixes token iri (full _ k e) = ap (name_by_kind text prefixes token) k ∙ ap (λ (l : List ℕ). named.Iri l) (sym e)
iri_name text prefixes token iri (short _ held k colon declared e) =
    ap (name_by_kind text prefixes token) k
    ∙ ap (λ (b : Bool). cond b (followed (iri_of prefixes (prefix_of (spelling text token))) (rest_of (spelling text token))) named.NoIri) colon
    ∙ ap (λ (o : Option (List ℕ)). followed o (rest_of (spelling text token))) declared
    ∙ ap (λ (l : List ℕ). named.Iri l) (sym e)

-- and an IRI in form
pub iri_fits : (text : List ℕ) (prefixes : Prefixes) (token : Token) (iri : List ℕ) → IsIri text prefixes token iri → is_iri text token ≡ true
iri_fits text prefixes token iri (full _ k e) = ap (is_iri_by_kind text token) k
iri_fits text prefixes token iri (short _ held k colon declared e) = ap (is_iri_by_kind text token) k ∙ colon

-- what a run stands for
run_iri : (text : List ℕ) (prefixes : Prefixes) (token : Token) (iri : List ℕ) → token.kind ≡ kind.Run → expanded prefixes (spelling text token) ≡ named.Iri iri → IsIri text prefixes token iri
run_iri text prefixes token iri k = by (has_colon (spelling text token)) refl
  where
    look : (o : Option (List ℕ)) → has_colon (spelling text token) ≡ true → iri_of prefixes (prefix_of (spelling text token)) ≡ o → followed o (rest_of (spelling text token)) ≡ named.Iri iri → IsIri text prefixes token iri
    look (Some held) colon declared e = short iri held k colon declared (cc)
    look None colon declared e = cc

    by : (b : Bool) → has_colon (spelling text token) ≡ b → cond b (followed (iri_of prefixes (prefix_of (spelling text token))) (rest_of (spelling text token))) named.NoIri ≡ named.Iri iri → IsIri text prefixes token iri
    by true colon e = look (iri_of prefixes (prefix_of (spelling text token))) colon refl e
    by false colon e = cc

-- what is read as an IRI is one
pub name_iri : (text : List ℕ) (prefixes : Prefixes) (token : Token) (iri : List ℕ) → name_of_token text prefixes token ≡ named.Iri iri → IsIri text prefixes token iri
name_iri text prefixes token iri = by token.kind refl
  where
    by : (k : TokenKind) → token.kind ≡ k → name_by_kind text prefixes token k ≡ named.Iri iri → IsIri text prefixes token iri
    by kind.FullIri k e = full iri k (cc)
    by kind.Run k e = run_iri text prefixes token iri k e
    by kind.Open k e = cc
    by kind.Close k e = cc
    by kind.Equals k e = cc
    by kind.Quoted k e = cc
    by kind.Lang k e = cc
    by kind.Carets k e = cc

-- a test of equal bytes fails
pub other_bytes : (xs ys : List ℕ) → xs ≢ ys → bytes_eq xs ys ≡ false
other_bytes xs ys differ = by (bytes_eq xs ys) refl
  where
    by : (b : Bool) → bytes_eq xs ys ≡ b → bytes_eq xs ys ≡ false
    by true e = absurd (differ ((bytes_decides xs ys).0 e))
    by false e = e

-- bytes that are not equal
pub no_bytes : (xs ys : List ℕ) → bytes_eq xs ys ≡ false → xs ≢ ys
no_bytes xs ys e same = let yes = (bytes_decides xs ys).1 same in let both : true ≡ false = sym yes ∙ e in cc

-- a class name is read as itself
pub class_name_read : (iri : List ℕ) → IsClassName iri → class_of_iri iri ≡ expr.Class iri
class_name_read iri is = rw (other_bytes iri thing is.not_thing, other_bytes iri nothing is.not_nothing) refl

-- a property name is read as itself
pub property_name_read : (at : ℕ) (iri : List ℕ) → IsPropertyName iri → property_of_iri at iri ≡ Ok iri
property_name_read at iri is = rw (other_bytes iri top_property is.not_top, other_bytes iri bottom_property is.not_bottom) refl

-- a property is read as itself
pub property_read : (text : List ℕ) (prefixes : Prefixes) (i : Item) (iri : List ℕ) → IsProperty text prefixes i iri → ((given text prefixes i).property ≡ Ok iri) × ((given text prefixes i).fits ≡ true)
property_read text prefixes _ iri (property token _ is name) = (
  ap (λ (g : Given). g.property) (atom_gives text prefixes token)
      ∙ ap (property_named token.start) (iri_name text prefixes token iri is)
      ∙ property_name_read token.start iri name,
  ap (λ (g : Given). g.fits) (atom_gives text prefixes token) ∙ iri_fits text prefixes token iri is,
)

-- what a class expression is has a form that fits
pub class_fits : (text : List ℕ) (prefixes : Prefixes) (i : Item) (c : IriExpr) → IsClass text prefixes i c → (given text prefixes i).fits ≡ true
class_fits text prefixes _ _ (top token is) = ap (λ (g : Given). g.fits) (atom_gives text prefixes token) ∙ iri_fits text prefixes token thing is
class_fits text prefixes _ _ (bottom token is) = ap (λ (g : Given). g.fits) (atom_gives text prefixes token) ∙ iri_fits text prefixes token nothing is
class_fits text prefixes _ _ (class token iri is name) = ap (λ (g : Given). g.fits) (atom_gives text prefixes token) ∙ iri_fits text prefixes token iri is
class_fits text prefixes _ _ (intersection word i is start end classes h cs) = ap (λ (g : Given). g.fits) (group_gives text prefixes word (i ∷ is) start end)
class_fits text prefixes _ _ (restriction word p c start end iri filler h r f) = ap (λ (g : Given). g.fits) (group_gives text prefixes word (p ∷ c ∷ []) start end)

-- each of them fits
pub classes_fit : (text : List ℕ) (prefixes : Prefixes) (is : List Item) (cs : List IriExpr) → AreClasses text prefixes is cs → all_fit (map (given text prefixes) is) ≡ true
classes_fit text prefixes _ _ none = refl
classes_fit text prefixes _ _ (one_more i is c cs first rest) = rw (class_fits text prefixes i c first, classes_fit text prefixes is cs rest) refl

-- two that fit
pub two_fit : {A : Type 0} (a b : Bool) (r s : A) → a ≡ true → b ≡ true → cond (a && b) r s ≡ r
two_fit a b r s e f = rw (e, f) refl

mutual
  -- a class expression is read as what it stands for
  pub class_read : (text : List ℕ) (prefixes : Prefixes) (i : Item) (c : IriExpr) → IsClass text prefixes i c → (given text prefixes i).class ≡ Ok c
  class_read text prefixes _ _ (top token is) = ap (λ (g : Given). g.class) (atom_gives text prefixes token) ∙ ap (class_named token.start) (iri_name text prefixes token thing is)
  class_read text prefixes _ _ (bottom token is) = ap (λ (g : Given). g.class) (atom_gives text prefixes token) ∙ ap (class_named token.start) (iri_name text prefixes token nothing is)
  class_read text prefixes _ _ (class token iri is name) = ap (λ (g : Given). g.class) (atom_gives text prefixes token) ∙ ap (class_named token.start) (iri_name text prefixes token iri is) ∙ ap (λ (c : IriExpr). Ok c) (class_name_read iri name)
  class_read text prefixes _ _ (intersection word i is start end classes h cs) =
      ap (λ (g : Given). g.class) (group_gives text prefixes word (i ∷ is) start end)
      ∙ ap (λ (k : Head). class_group word.start k (map (given text prefixes) (i ∷ is))) h
      ∙ ap (λ (b : Bool). cond b (classes_onto [] (map (given text prefixes) (i ∷ is))) (Err (fault.Shape word.start)) >>= as_intersection) (classes_fit text prefixes (i ∷ is) classes cs)
      ∙ ap (λ (r : Result (List IriExpr) OffsetFault). r >>= as_intersection) (classes_read text prefixes (i ∷ is) classes cs [])
  class_read text prefixes _ _ (restriction word p c start end iri filler h r f) =
      ap (λ (g : Given). g.class) (group_gives text prefixes word (p ∷ c ∷ []) start end)
      ∙ ap (λ (k : Head). class_group word.start k (map (given text prefixes) (p ∷ c ∷ []))) h
      ∙ ap (λ (x : Result (List ℕ × IriExpr) OffsetFault). x >>= as_restriction)
      (two_fit (given text prefixes p).fits (given text prefixes c).fits ((given text prefixes p).property >>= class_after (given text prefixes c)) (Err (fault.Shape word.start)) (property_read text prefixes p iri r).1 (class_fits text prefixes c filler f)
      ∙ ap (λ (x : Result (List ℕ) OffsetFault). x >>= class_after (given text prefixes c)) (property_read text prefixes p iri r).0
      ∙ ap (λ (x : Result IriExpr OffsetFault). x >>= with_class iri) (class_read text prefixes c filler f))

  -- and several, each as its own
  pub classes_read : (text : List ℕ) (prefixes : Prefixes) (is : List Item) (cs : List IriExpr) → AreClasses text prefixes is cs → (done : List IriExpr) → classes_onto done (map (given text prefixes) is) ≡ Ok (done ++ cs)
  classes_read text prefixes _ _ none done = ap (λ (l : List IriExpr). Ok l) (sym (append-nil done))
  classes_read text prefixes _ _ (one_more i is c cs first rest) done =
      ap (λ (x : Result IriExpr OffsetFault). x >>= λ k. classes_onto (done ++ k ∷ []) (map (given text prefixes) is)) (class_read text prefixes i c first)
      ∙ classes_read text prefixes is cs rest (done ++ c ∷ [])
      ∙ ap (λ (l : List IriExpr). Ok l) (append_assoc done (c ∷ []) cs)
