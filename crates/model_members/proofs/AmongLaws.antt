-- Members of expressions among given elements.
use Rattle.std.proofs.Common.{◌≡◌, ◌<◌, ℕ, List, [], ◌∷◌, ◌++◌, length, All, Contains, sym, subst, arith}
use Rattle.std.specs.Prelude.{◌↔◌}
use Rattle.std.specs.List.{filter}
use Rattle.std.proofs.lemmas.List.Elements.{All-nil, All-push, All-contains, Contains-push}
use Rattle.el_logic.specs.declared.types.Expr.{Expr}
use Rattle.el_logic.specs.declared.types.Expr.TheVariants.{And, Exists}
use Rattle.el_logic.specs.declared.types.Axiom.TheVariants.{Domain}
use Rattle.el_logic.specs.declared.types.Interp.{Interp}
use Rattle.el_logic.specs.Meaning.{IsInterp, IsMember, AreRelated, Holds, pairs_of}
use Rattle.model_members.specs.declared.sets.Members.TheVariants.{Listed}
use Rattle.model_members.specs.Lists.{AreTurned}
use Rattle.model_members.specs.Numbers.{has_number}
use Rattle.model_members.specs.Inside.Pairs.{Lead}
use Rattle.model_members.specs.Inside.Sets.{AreElements, AreListed, IsSetOf}
use Rattle.model_members.proofs.SetLaws.{in_both}
use Rattle.model_members.proofs.ClassLaws.{front_of, set_listed}
use Rattle.model_members.proofs.KeptLaws.{listed_same}
use Rattle.model_members.proofs.PropertyLaws.{pairs_below}

-- all elements are listed among themselves
pub listed_all : (P : ℕ → Type 0) (numbers kept : List ℕ) (size : ℕ) → AreElements size numbers → kept ≡ numbers → ((x : ℕ) → Contains numbers x → P x)
    → AreListed (λ x. Contains numbers x × P x) kept
listed_all P numbers kept size elements is each = subst (AreListed (λ x. Contains numbers x × P x)) (sym is) (record {
  ascending = elements.0;
  same = λ x. ((λ there. (there, each x there)), (λ both. both.0));
})

-- none are, where nothing passes
pub listed_none : (P : ℕ → Type 0) (numbers kept : List ℕ) → kept ≡ [] → ((x : ℕ) → ¬ (P x)) → AreListed (λ x. Contains numbers x × P x) kept
listed_none P numbers kept is none = subst (AreListed (λ x. Contains numbers x × P x)) (sym is) (record {
  ascending = λ k within. absurd (omega arith);
  same = λ x. ((λ there. absurd (omega (arith, there.1))), (λ both. absurd (none x both.1)));
})

-- those that others have too
pub listed_common : (size : ℕ) (numbers others kept : List ℕ) → AreElements size numbers → kept ≡ filter (has_number others) numbers
    → AreListed (λ x. Contains numbers x × Contains others x) kept
listed_common size numbers others kept elements is =
    let both = in_both size numbers others elements in
    subst (AreListed (λ x. Contains numbers x × Contains others x)) (sym is) (record { ascending = both.ordered.0; same = both.same })

-- no operand is tested yet
pub among_start : (i : Interp) (numbers all : List ℕ) → AreElements i.size numbers → all ≡ numbers → AreListed (λ x. Contains numbers x × All (IsMember i x) []) all
among_start i numbers all elements is = listed_all (λ x. All (IsMember i x) []) numbers all i.size elements is (λ x there. All-nil (IsMember i x))

-- one operand more
pub among_more : (i : Interp) (numbers all read fewer : List ℕ) (done : List Expr) (next : Expr) → AreListed (λ x. Contains numbers x × All (IsMember i x) done) all → read ≡ all
    → AreListed (λ x. Contains read x × IsMember i x next) fewer → AreListed (λ x. Contains numbers x × All (IsMember i x) (done ++ next ∷ [])) fewer
among_more i numbers all read fewer done next so_far is kept = record {
  ascending = kept.ascending;
  same = λ x. (
    (λ there.
        let has = (kept.same x).0 there in
        let was = (so_far.same x).0 (subst (λ (xs : List ℕ). Contains xs x) is has.0) in
        (was.0, All-push (IsMember i x) done next was.1 has.1)),
    (λ (there, each). (kept.same x).1 (
      subst (λ (xs : List ℕ). Contains xs x) (sym is) ((so_far.same x).1 (there, front_of (IsMember i x) done next each)),
      All-contains (IsMember i x) (done ++ next ∷ []) next each (Contains-push done next),
    )),
  );
}

-- what properties lead to are elements
pub reached_elements : (i : Interp) (role : ℕ) (numbers reached : List ℕ) → IsInterp (length i.classes) (length i.roles) i
    → AreListed (λ y. (x : ℕ) × Contains numbers x × AreRelated i role x y) reached → AreElements i.size reached
reached_elements i role numbers reached fits listed =
    (set_listed i.size (λ y. (x : ℕ) × Contains numbers x × AreRelated i role x y) reached listed
    (λ y (x, there, related). (pairs_below i role x y fits related).1)).ordered

-- those that belong to each operand are the members of the intersection
pub among_all : (i : Interp) (numbers all : List ℕ) (operands : List Expr) → AreElements i.size numbers
    → ((x : ℕ) → IsMember i x (And operands) ↔ ((x < i.size) × All (IsMember i x) operands))
    → AreListed (λ x. Contains numbers x × All (IsMember i x) operands) all → AreListed (λ x. Contains numbers x × IsMember i x (And operands)) all
among_all i numbers all operands elements means listed =
    listed_same (λ x. Contains numbers x × All (IsMember i x) operands) (λ x. Contains numbers x × IsMember i x (And operands)) all
    (λ x. (
      (λ (there, each). (there, (means x).1 (All-contains (λ y. y < i.size) numbers x elements.1 there, each))),
      (λ (there, member). (there, ((means x).0 member).1)),
    ))
    listed

-- of what is reached from the numbers, the ends are just the members of the filler
pub ends_found : (i : Interp) (role : ℕ) (steps : List (ℕ × ℕ)) (numbers reached read ends : List ℕ) (filler : Expr) → steps ≡ pairs_of i role
    → AreListed (λ y. (x : ℕ) × Contains numbers x × Lead steps x y) reached → read ≡ reached → AreListed (λ y. Contains read y × IsMember i y filler) ends
    → (x y : ℕ) → Contains numbers x → AreRelated i role x y → Contains ends y ↔ IsMember i y filler
ends_found i role steps numbers reached read ends filler own listed is found x y there related = (
  (λ ending. ((found.same y).0 ending).1),
  (λ member. (found.same y).1 (
    subst (λ (xs : List ℕ). Contains xs y) (sym is) ((listed.same y).1 (x, there, subst (λ (ps : List (ℕ × ℕ)). Lead ps x y) (sym own) related)),
    member,
  )),
)

-- those from which a step leads to one of these ends are the members of the restriction
pub among_leading : (i : Interp) (role : ℕ) (steps : List (ℕ × ℕ)) (numbers ends kept : List ℕ) (filler : Expr) → steps ≡ pairs_of i role
    → ((x : ℕ) → IsMember i x (Exists role filler) ↔ ((y : ℕ) × AreRelated i role x y × IsMember i y filler))
    → ((x y : ℕ) → Contains numbers x → AreRelated i role x y → Contains ends y ↔ IsMember i y filler)
    → AreListed (λ x. Contains numbers x × ((y : ℕ) × Lead steps x y × Contains ends y)) kept
    → AreListed (λ x. Contains numbers x × IsMember i x (Exists role filler)) kept
among_leading i role steps numbers ends kept filler own means are listed =
    listed_same (λ x. Contains numbers x × ((y : ℕ) × Lead steps x y × Contains ends y)) (λ x. Contains numbers x × IsMember i x (Exists role filler)) kept
    (λ x. (
      (λ (there, leads).
          let (y, led, ending) = leads in
          let related : AreRelated i role x y = subst (λ (ps : List (ℕ × ℕ)). Lead ps x y) own led in
          (there, (means x).1 (y, related, (are x y there related).0 ending))),
      (λ (there, member).
          let (y, related, filled) = (means x).0 member in
          (there, (y, subst (λ (ps : List (ℕ × ℕ)). Lead ps x y) (sym own) related, (are x y there related).1 filled))),
    ))
    listed

-- the members of an expression among elements that have them all
pub set_among : (i : Interp) (e : Expr) (numbers kept : List ℕ) → AreElements i.size numbers → ((x : ℕ) → IsMember i x e → Contains numbers x)
    → AreListed (λ x. Contains numbers x × IsMember i x e) kept → IsSetOf i.size (λ x. IsMember i x e) (Listed kept)
set_among i e numbers kept elements all listed =
    set_listed i.size (λ x. IsMember i x e) kept (record {
      ascending = listed.ascending;
      same = λ x. ((λ there. ((listed.same x).0 there).1), (λ member. (listed.same x).1 (all x member, member)));
    })
    (λ x member. All-contains (λ y. y < i.size) numbers x elements.1 (all x member))

-- where a property's pairs begin are elements
pub begin_elements : (i : Interp) (role : ℕ) (numbers : List ℕ) → IsInterp (length i.classes) (length i.roles) i
    → AreListed (λ x. (y : ℕ) × AreRelated i role x y) numbers → AreElements i.size numbers
begin_elements i role numbers fits listed =
    (set_listed i.size (λ x. (y : ℕ) × AreRelated i role x y) numbers listed (λ x (y, related). (pairs_below i role x y fits related).0)).ordered

-- a property that leads anywhere leads to an element
pub before_whole : (i : Interp) (role : ℕ) (numbers : List ℕ) → IsInterp (length i.classes) (length i.roles) i → AreListed (λ x. (y : ℕ) × AreRelated i role x y) numbers
    → IsSetOf i.size (λ x. (y : ℕ) × AreRelated i role x y × (y < i.size)) (Listed numbers)
before_whole i role numbers fits listed =
    set_listed i.size (λ x. (y : ℕ) × AreRelated i role x y × (y < i.size)) numbers
    (listed_same (λ x. (y : ℕ) × AreRelated i role x y) (λ x. (y : ℕ) × AreRelated i role x y × (y < i.size)) numbers
    (λ x. ((λ (y, related). (y, related, (pairs_below i role x y fits related).1)), (λ (y, related, below). (y, related)))) listed)
    (λ x (y, related, below). (pairs_below i role x y fits related).0)

-- what is reached from some ends by the pairs turned round leads to them
pub before_listed : (i : Interp) (role : ℕ) (turned : List (ℕ × ℕ)) (ends numbers : List ℕ) → IsInterp (length i.classes) (length i.roles) i → AreTurned turned (pairs_of i role)
    → AreListed (λ x. (y : ℕ) × Contains ends y × Lead turned y x) numbers
    → IsSetOf i.size (λ x. (y : ℕ) × AreRelated i role x y × Contains ends y) (Listed numbers)
before_listed i role turned ends numbers fits back listed =
    set_listed i.size (λ x. (y : ℕ) × AreRelated i role x y × Contains ends y) numbers
    (listed_same (λ x. (y : ℕ) × Contains ends y × Lead turned y x) (λ x. (y : ℕ) × AreRelated i role x y × Contains ends y) numbers
    (λ x. ((λ (y, there, led). (y, (back x y).0 led, there)), (λ (y, related, there). (y, there, (back x y).1 related)))) listed)
    (λ x (y, related, there). (pairs_below i role x y fits related).0)

-- a property has a domain exactly if all that it leads on from are members
pub domain_by : (i : Interp) (role : ℕ) (class : Expr) (numbers : List ℕ) → AreListed (λ x. (y : ℕ) × AreRelated i role x y) numbers
    → ((x : ℕ) → Contains numbers x → IsMember i x class) ↔ Holds i (Domain role class)
domain_by i role class numbers listed = (
  (λ each x y related. each x ((listed.same x).1 (y, related))),
  (λ holds x there. let (y, related) = (listed.same x).0 there in holds x y related),
)
