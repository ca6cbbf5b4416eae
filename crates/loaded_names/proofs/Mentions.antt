-- The names that items mention, whose tokens have their forms.
use Rattle.std.proofs.Common.{◌≡◌, ℕ, List, [], ◌∷◌, ◌++◌, All, sym, ap, subst, ◌∙◌}
use Rattle.std.specs.Prelude.{⊤}
use Rattle.ofn_term.specs.declared.item.Item.{Item}
use Rattle.ofn_term.specs.declared.item.Item.TheVariants as item
use Rattle.ofn_heads.specs.declared.head.Head.{Head}
use Rattle.text_names.specs.Prefixes.{Prefixes}
use Rattle.ofn_axiom.specs.declared.types.IriExpr.{IriExpr, fold-IriExpr}
use Rattle.ofn_axiom.specs.declared.types.IriExpr.TheOpen.{IriExpr-F}
use Rattle.ofn_axiom.specs.declared.types.IriExpr.TheFolds.{fold-roll-IriExpr}
use Rattle.ofn_axiom.specs.declared.types.IriExpr.TheVariants as expr
use Rattle.ofn_axiom.specs.declared.types.IriExpr.TheVariants.{rolls-Top, rolls-Bottom, rolls-Class, rolls-And, rolls-Exists}
use Rattle.ofn_axiom.specs.declared.types.IriAxiom.{IriAxiom}
use Rattle.ofn_axiom.specs.declared.types.Direct.{Direct}
use Rattle.ofn_axiom.specs.declared.types.Mention.{Mention}
use Rattle.ofn_axiom.specs.declared.types.Mention.TheVariants as mention
use Rattle.ofn_axiom.specs.Numbers.{mentions, mention_step, all_mentions, properties, axiom_mentions, direct_mentions}
use Rattle.ofn_axiom.specs.StandsFor.{IsProperty, property, AreProperties, IsClass, top, bottom, class, intersection, restriction, AreClasses, none, one_more, IsChain, single, chained, IsAxiomOf, sub_class, equivalent, disjoint, sub_property, equivalent_properties, transitive, reflexive, domain, IsAxiom, stated}
use Rattle.ofn_axiom.specs.DirectItems as items
use Rattle.ofn_axiom.specs.DirectItems.{IsDeclaredAs, IsEntity, entity, IsDeclaration, declaration, IsDirect, note, declares, states}
use Rattle.loaded_names.proofs.Bytes.{Passes}
use Rattle.loaded_names.proofs.Written.{Written, AreTokens, first_item, other_items, last_items, first_items, atom_token, inner_tokens}
use Rattle.loaded_names.proofs.Tokens.{HavePassing, iri_passes}

-- the name that is mentioned passes
abbrev pub MentionPasses : Mention → Type 0
MentionPasses (mention.Class name) = All Passes name
MentionPasses (mention.Property name) = All Passes name

-- each of these does
abbrev pub MentionsPass : List Mention → Type 0
MentionsPass [] = ⊤
MentionsPass (m ∷ ms) = MentionPasses m × MentionsPass ms

both_pass : (ms more : List Mention) → MentionsPass ms → MentionsPass more → MentionsPass (ms ++ more)
both_pass [] more h k = k
both_pass (m ∷ ms) more h k = (h.0, both_pass ms more h.1 k)

-- the names of an expression, by its form
top_said : mentions expr.Top ≡ []
unfolding mentions
top_said = ap (fold-IriExpr (List Mention) mention_step) (sym rolls-Top) ∙ fold-roll-IriExpr (List Mention) mention_step IriExpr-F.Top

bottom_said : mentions expr.Bottom ≡ []
unfolding mentions
bottom_said = ap (fold-IriExpr (List Mention) mention_step) (sym rolls-Bottom) ∙ fold-roll-IriExpr (List Mention) mention_step IriExpr-F.Bottom

class_said : (iri : List ℕ) → mentions (expr.Class iri) ≡ mention.Class iri ∷ []
unfolding mentions
class_said iri = ap (fold-IriExpr (List Mention) mention_step) (sym (rolls-Class iri)) ∙ fold-roll-IriExpr (List Mention) mention_step (IriExpr-F.Class iri)

and_said : (classes : List IriExpr) → mentions (expr.And classes) ≡ all_mentions classes
unfolding mentions
and_said classes = ap (fold-IriExpr (List Mention) mention_step) (sym (rolls-And classes)) ∙ fold-roll-IriExpr (List Mention) mention_step (IriExpr-F.And classes)

exists_said : (iri : List ℕ) (filler : IriExpr) → mentions (expr.Exists iri filler) ≡ mention.Property iri ∷ mentions filler
unfolding mentions
exists_said iri filler = ap (fold-IriExpr (List Mention) mention_step) (sym (rolls-Exists iri filler)) ∙ fold-roll-IriExpr (List Mention) mention_step (IriExpr-F.Exists iri filler)

module _ (written : Written) (text : List ℕ) (prefixes : Prefixes) (held : HavePassing prefixes) where
  abbrev Are : List Item → Type 0
  Are items = AreTokens written text items

  -- the name of a property
  property_passes : (i : Item) (iri : List ℕ) → Are (i ∷ []) → IsProperty text prefixes i iri → All Passes iri
  property_passes _ _ are (property token iri is name) = iri_passes text prefixes token iri held (atom_token written text token [] are) is

  properties_pass : (is : List Item) (iris : List (List ℕ)) → Are is → AreProperties text prefixes is iris → MentionsPass (properties iris)
  properties_pass [] [] are h = tt
  properties_pass [] (iri ∷ iris) are h = absurd h
  properties_pass (i ∷ is) [] are h = absurd h
  properties_pass (i ∷ is) (iri ∷ iris) are h =
      (property_passes i iri (first_item written text i is are) h.0, properties_pass is iris (other_items written text i is are) h.1)

  mutual
    -- the names of a class expression
    class_passes : (i : Item) (c : IriExpr) → Are (i ∷ []) → IsClass text prefixes i c → MentionsPass (mentions c)
    class_passes _ _ are (top token is) = subst MentionsPass (sym top_said) tt
    class_passes _ _ are (bottom token is) = subst MentionsPass (sym bottom_said) tt
    class_passes _ _ are (class token iri is name) =
        subst MentionsPass (sym (class_said iri)) (iri_passes text prefixes token iri held (atom_token written text token [] are) is, tt)
    class_passes _ _ are (intersection word i is start end classes at rest) =
        subst MentionsPass (sym (and_said classes)) (classes_pass (i ∷ is) classes (inner_tokens written text word (i ∷ is) start end [] are) rest)
    class_passes _ _ are (restriction word p c start end iri filler at first rest) =
        let inner = inner_tokens written text word (p ∷ c ∷ []) start end [] are in
        subst MentionsPass (sym (exists_said iri filler))
        (property_passes p iri (first_item written text p (c ∷ []) inner) first, class_passes c filler (other_items written text p (c ∷ []) inner) rest)

    classes_pass : (is : List Item) (cs : List IriExpr) → Are is → AreClasses text prefixes is cs → MentionsPass (all_mentions cs)
    classes_pass _ _ are none = tt
    classes_pass _ _ are (one_more i is c cs first rest) =
        both_pass (mentions c) (all_mentions cs) (class_passes i c (first_item written text i is are) first) (classes_pass is cs (other_items written text i is are) rest)

  -- those of a chain
  chain_passes : (i : Item) (iris : List (List ℕ)) → Are (i ∷ []) → IsChain text prefixes i iris → MentionsPass (properties iris)
  chain_passes _ _ are (single i iri is) = (property_passes i iri are is, tt)
  chain_passes _ _ are (chained word i j is start end iris at rest) =
      properties_pass (i ∷ j ∷ is) iris (inner_tokens written text word (i ∷ j ∷ is) start end [] are) rest

  -- those of an axiom
  operands_pass : (h : Head) (is : List Item) (a : IriAxiom) → Are is → IsAxiomOf text prefixes h is a → MentionsPass (axiom_mentions a)
  operands_pass _ _ _ are (sub_class i j c d first rest) =
      both_pass (mentions c) (mentions d) (class_passes i c (first_item written text i (j ∷ []) are) first) (class_passes j d (other_items written text i (j ∷ []) are) rest)
  operands_pass _ _ _ are (equivalent i is cs rest) = classes_pass (i ∷ is) cs are rest
  operands_pass _ _ _ are (disjoint i is cs rest) = classes_pass (i ∷ is) cs are rest
  operands_pass _ _ _ are (sub_property i j chain s first rest) =
      both_pass (properties chain) (mention.Property s ∷ []) (chain_passes i chain (first_item written text i (j ∷ []) are) first)
      (property_passes j s (other_items written text i (j ∷ []) are) rest, tt)
  operands_pass _ _ _ are (equivalent_properties i is rs rest) = properties_pass (i ∷ is) rs are rest
  operands_pass _ _ _ are (transitive i r is) = (property_passes i r are is, tt)
  operands_pass _ _ _ are (reflexive i r is) = (property_passes i r are is, tt)
  operands_pass _ _ _ are (domain i j r c first rest) =
      (property_passes i r (first_item written text i (j ∷ []) are) first, class_passes j c (other_items written text i (j ∷ []) are) rest)

  axiom_passes : (i : Item) (a : IriAxiom) → Are (i ∷ []) → IsAxiom text prefixes i a → MentionsPass (axiom_mentions a)
  axiom_passes _ _ are (stated word h annotations operands start end a at notes of) =
      operands_pass h operands a (last_items written text annotations operands (inner_tokens written text word (annotations ++ operands) start end [] are)) of

  -- those of a declaration
  declared_passes : (h : Head) (iri : List ℕ) (d : Direct) → All Passes iri → IsDeclaredAs h iri d → MentionsPass (direct_mentions d)
  declared_passes _ _ _ p (items.class iri name) = (p, tt)
  declared_passes _ _ _ p (items.property iri name) = (p, tt)
  declared_passes _ _ _ p items.top_class = tt
  declared_passes _ _ _ p items.bottom_class = tt
  declared_passes _ _ _ p items.top = tt
  declared_passes _ _ _ p items.bottom = tt
  declared_passes _ _ _ p (items.data_property iri) = tt
  declared_passes _ _ _ p (items.annotation_property iri) = tt
  declared_passes _ _ _ p (items.datatype iri) = tt
  declared_passes _ _ _ p (items.individual iri) = tt

  entity_passes : (i : Item) (d : Direct) → Are (i ∷ []) → IsEntity text prefixes i d → MentionsPass (direct_mentions d)
  entity_passes _ _ are (entity word token start end h iri d at is kind) =
      declared_passes h iri d (iri_passes text prefixes token iri held (atom_token written text token [] (inner_tokens written text word (item.Atom token ∷ []) start end [] are)) is) kind

  declaration_passes : (i : Item) (d : Direct) → Are (i ∷ []) → IsDeclaration text prefixes i d → MentionsPass (direct_mentions d)
  declaration_passes _ _ are (declaration word annotations e start end d at notes of) =
      entity_passes e d (first_items written text e annotations [] (inner_tokens written text word (annotations ++ e ∷ []) start end [] are)) of

  -- those of a direct item
  pub direct_passes : (i : Item) (d : Direct) → Are (i ∷ []) → IsDirect text prefixes i d → MentionsPass (direct_mentions d)
  direct_passes _ _ are (note word is start end h at notes) = tt
  direct_passes _ _ are (declares i d is) = declaration_passes i d are is
  direct_passes _ _ are (states i a is) = axiom_passes i a are is
