-- Sets of members, and what they show of axioms over classes.
use Rattle.std.proofs.Common.{◌≡◌, ◌+◌, ◌<◌, ℕ, List, [], ◌∷◌, ◌++◌, length, get_or, take, drop, All, Contains, ◌⊎◌, ⊎_elim, inl, inr, sym, subst, ap, ◌∙◌, rules, arith}
use Rattle.std.proofs.lemmas.List.{take_more, drop_more, take-append-drop}
use Rattle.std.proofs.lemmas.List.Elements.{All-nil, All-push, All-head, All-tail, All-weaker, All-contains, All-contains_itself, Contains-append_left, Contains-append_right, Contains-append_cases, Contains-push, Contains-push_cases}
use Rattle.el_logic.specs.declared.types.Expr.{Expr}
use Rattle.el_logic.specs.declared.types.Interp.{Interp}
use Rattle.el_logic.specs.declared.types.Axiom.TheVariants.{Equivalent}
use Rattle.el_logic.specs.Meaning.{IsMember, IsWithin, AreDisjoint, AreApart, AreRelated, Holds}
use Rattle.model_members.specs.declared.sets.Members.{Members}
use Rattle.model_members.specs.declared.sets.Members.TheVariants.{Whole, Listed}
use Rattle.model_members.specs.Inside.Sets.{Has, HasMembers, IsSet, IsSetOf, AreListed}

-- a list up to its next element, and whole around it
pub take_next : {X : Type 0} (xs : List X) (k : ℕ) (x : X) → k < length xs → x ≡ get_or xs k x → take (k + 1) xs ≡ take k xs ++ x ∷ []
take_next xs k x within is = take_more xs k x within ∙ ap (λ y. take k xs ++ y ∷ []) (sym is)

pub split_at : {X : Type 0} (xs : List X) (k : ℕ) (x : X) → k < length xs → x ≡ get_or xs k x → xs ≡ take k xs ++ x ∷ drop (k + 1) xs
split_at xs k x within is = sym (take-append-drop k xs) ∙ ap (λ rest. take k xs ++ rest) (drop_more xs k x within ∙ ap (λ y. y ∷ drop (k + 1) xs) (sym is))

-- what is in a set is an element
pub has_below : (size : ℕ) (set : Members) (x : ℕ) → IsSet size set → Has size set x → x < size
has_below size Whole x ordered has = has
has_below size (Listed numbers) x ordered has = All-contains (λ y. y < size) numbers x ordered.1 has

-- a list of just those that pass, if all of those are elements, is their set
pub set_listed : (size : ℕ) (Passes : ℕ → Type 0) (numbers : List ℕ) → AreListed Passes numbers → ((x : ℕ) → Passes x → x < size) → IsSetOf size Passes (Listed numbers)
set_listed size Passes numbers listed below = record {
  ordered = (listed.ascending, All-weaker (Contains numbers) (λ x. x < size) (λ x there. below x ((listed.same x).0 there)) numbers (All-contains_itself numbers));
  same = listed.same;
}

-- sets of those that pass are those of what passes the same
pub set_same : (size : ℕ) (P Q : ℕ → Type 0) (set : Members) → ((x : ℕ) → P x → Q x) → ((x : ℕ) → Q x → P x) → IsSetOf size P set → IsSetOf size Q set
set_same size P Q set there back is = record {
  ordered = is.ordered;
  same = λ x. ((λ has. there x ((is.same x).0 has)), (λ passes. (is.same x).1 (back x passes)));
}

-- the empty set
pub set_none : (size : ℕ) (Passes : ℕ → Type 0) (numbers : List ℕ) → numbers ≡ [] → ((x : ℕ) → ¬ (Passes x)) → IsSetOf size Passes (Listed numbers)
set_none size Passes numbers empty none =
    let short : length numbers ≡ 0 = search (rules, empty) in
    record {
      ordered = ((λ k within. absurd (omega arith)), subst (All (λ x. x < size)) (sym empty) (All-nil (λ x. x < size)));
      same = λ x. ((λ there. absurd (omega (arith, there.1))), (λ passes. absurd (none x passes)));
    }

-- of a restriction, by the set of its filler
pub set_leading : (i : Interp) (role : ℕ) (filler : Expr) (ends set : Members) → IsSetOf i.size (λ x. IsMember i x filler) ends
    → IsSetOf i.size (λ x. (y : ℕ) × AreRelated i role x y × Has i.size ends y) set → IsSetOf i.size (λ x. (y : ℕ) × AreRelated i role x y × IsMember i y filler) set
set_leading i role filler ends set is_ends is_set =
    set_same i.size (λ x. (y : ℕ) × AreRelated i role x y × Has i.size ends y) (λ x. (y : ℕ) × AreRelated i role x y × IsMember i y filler) set
    (λ x (y, related, has). (y, related, (is_ends.same y).0 has)) (λ x (y, related, member). (y, related, (is_ends.same y).1 member)) is_set

-- the whole domain, when no operand is known
pub set_start : (i : Interp) → IsSetOf i.size (λ x. (x < i.size) × All (IsMember i x) []) Whole
set_start i = record {
  ordered = tt;
  same = λ x. ((λ below. (below, All-nil (IsMember i x))), (λ both. both.0));
}

-- what holds of more holds of those before
pub front_of : (P : Expr → Type 0) (done : List Expr) (next : Expr) → All P (done ++ next ∷ []) → All P done
front_of P done next all =
    All-weaker (Contains done) P (λ e there. All-contains P (done ++ next ∷ []) e all (Contains-append_left done (next ∷ []) e there)) done (All-contains_itself done)

-- one operand more
pub set_more : (i : Interp) (done : List Expr) (next : Expr) (all one both : Members)
    → IsSetOf i.size (λ x. (x < i.size) × All (IsMember i x) done) all → IsSetOf i.size (λ x. IsMember i x next) one
    → IsSetOf i.size (λ x. Has i.size all x × Has i.size one x) both
    → IsSetOf i.size (λ x. (x < i.size) × All (IsMember i x) (done ++ next ∷ [])) both
set_more i done next all one both so_far is_one is_both =
    set_same i.size (λ x. Has i.size all x × Has i.size one x) (λ x. (x < i.size) × All (IsMember i x) (done ++ next ∷ [])) both
    (λ x has. let was = (so_far.same x).0 has.0 in (was.0, All-push (IsMember i x) done next was.1 ((is_one.same x).0 has.1)))
    (λ x member. (
      (so_far.same x).1 (member.0, front_of (IsMember i x) done next member.1),
      (is_one.same x).1 (All-contains (IsMember i x) (done ++ next ∷ []) next member.1 (Contains-push done next)),
    ))
    is_both

-- expressions with just the members of one set are equivalent
pub all_equivalent : (i : Interp) (set : Members) (operands : List Expr) → All (HasMembers i set) operands → Holds i (Equivalent operands)
all_equivalent i set operands same =
    All-weaker (HasMembers i set) (λ c. All (λ d. IsWithin i c d) operands)
    (λ c of_c. All-weaker (HasMembers i set) (λ d. IsWithin i c d) (λ d of_d x member. (of_d x).0 ((of_c x).1 member)) operands same) operands same

-- one operand more stays apart, if it has no member of those before
pub apart_more : (i : Interp) (done : List Expr) (next : Expr) → AreApart i done → All (λ c. AreDisjoint i c next) done → AreApart i (done ++ next ∷ [])
apart_more i [] next apart new = (All-nil (AreDisjoint i next), tt)
apart_more i (c ∷ cs) next apart new = (
  All-push (AreDisjoint i c) cs next apart.0 (All-head (λ d. AreDisjoint i d next) c cs new),
  apart_more i cs next apart.1 (All-tail (λ d. AreDisjoint i d next) c cs new),
)

-- of operands that are apart, each is disjoint from a later one
pub apart_at : (i : Interp) (done rest : List Expr) (c next : Expr) → AreApart i (done ++ next ∷ rest) → Contains done c → AreDisjoint i c next
apart_at i [] rest c next apart there = absurd (omega (arith, there.1))
apart_at i (d ∷ ds) rest c next apart there = ⊎_elim
    (λ (first : Contains (d ∷ []) c).
    let is : d ≡ c = ⊎_elim (λ (none : Contains [] c). absurd (omega (arith, none.1))) (λ same. same) (Contains-push_cases [] d c first) in
    subst (λ e. AreDisjoint i e next) is (All-contains (AreDisjoint i d) (ds ++ next ∷ rest) next apart.0
    (Contains-append_right ds (next ∷ rest) next (Contains-append_left (next ∷ []) rest next (Contains-push [] next)))))
    (λ later. apart_at i ds rest c next apart.1 later)
    (Contains-append_cases (d ∷ []) ds c there)

-- the members of one operand more are taken too
pub taken_more : (i : Interp) (done : List Expr) (next : Expr) (taken one both : Members)
    → IsSetOf i.size (λ x. (e : Expr) × Contains done e × IsMember i x e) taken → IsSetOf i.size (λ x. IsMember i x next) one
    → IsSetOf i.size (λ x. Has i.size taken x ⊎ Has i.size one x) both
    → IsSetOf i.size (λ x. (e : Expr) × Contains (done ++ next ∷ []) e × IsMember i x e) both
taken_more i done next taken one both so_far is_one is_both =
    set_same i.size (λ x. Has i.size taken x ⊎ Has i.size one x) (λ x. (e : Expr) × Contains (done ++ next ∷ []) e × IsMember i x e) both
    (λ x has. ⊎_elim
    (λ was. let (e, there, member) = (so_far.same x).0 was in (e, Contains-append_left done (next ∷ []) e there, member))
    (λ new. (next, Contains-push done next, (is_one.same x).0 new))
    has)
    (λ x (e, there, member). ⊎_elim
    (λ old. inl ((so_far.same x).1 (e, old, member)))
    (λ new. inr ((is_one.same x).1 (subst (IsMember i x) (sym new) member)))
    (Contains-push_cases done next e there))
    is_both

-- an operand whose set is apart from those taken is disjoint from each before
pub disjoint_from_taken : (i : Interp) (done : List Expr) (next : Expr) (taken one : Members)
    → IsSetOf i.size (λ x. (e : Expr) × Contains done e × IsMember i x e) taken → IsSetOf i.size (λ x. IsMember i x next) one
    → ((x : ℕ) → Has i.size taken x → ¬ (Has i.size one x)) → All (λ e. AreDisjoint i e next) done
disjoint_from_taken i done next taken one so_far is_one apart =
    All-weaker (Contains done) (λ e. AreDisjoint i e next)
    (λ e there x member too. apart x ((so_far.same x).1 (e, there, member)) ((is_one.same x).1 too)) done (All-contains_itself done)

-- sets of one and the other together
pub whole_either : (size : ℕ) (set other : Members) → IsSet size set → IsSet size other → ((x : ℕ) → x < size → Has size set x ⊎ Has size other x) → IsSetOf size (λ x. Has size set x ⊎ Has size other x) Whole
whole_either size set other one two each = record {
  ordered = tt;
  same = λ x. (each x, ⊎_elim (has_below size set x one) (has_below size other x two));
}
