-- The first axiom that doesn't hold, and the first class without a member.
use Rattle.std.proofs.Common.{◌≡◌, ℕ, zero, suc, ◌+◌, ◌<◌, ◌≤◌, List, [], ◌∷◌, ◌++◌, take, length, All, Contains, Option, Some, None, slice_get, append_assoc, ◌^◌, refl, sym, ap, subst, inl, inr, ⊎_elim, arith}
use Rattle.std.specs.Prelude.{◌↔◌, slice_index, flat_map}
use Rattle.std.proofs.lemmas.Bool.{cases_lt}
use Rattle.std.proofs.lemmas.List.{get_or-map}
use Rattle.std.proofs.lemmas.Option.{none-some, same_Some, slice_get_within}
use Rattle.std.proofs.lemmas.List.Elements.{All-head, All-tail, All-append, All-get_or, All-weaker, All-contains, All-contains_itself, Contains-append_left, Contains-append_right}
use Rattle.el_logic.specs.declared.types.Axiom.{Axiom}
use Rattle.el_logic.specs.declared.types.Interp.{Interp}
use Rattle.el_logic.specs.declared.types.Part.{Part}
use Rattle.el_logic.specs.Meaning.{IsInterp, IsMember, Holds, members_of}
use Rattle.fact_table.specs.declared.types.Source.{Source}
use Rattle.case_file.specs.Cases.{CaseView, IsCase, IsMustHave, row_at}
use Rattle.case_file.specs.Incoherence.{name_of, axioms_of_ranks, axioms_for}
use Rattle.case_tables.specs.Keyed.{numbered_from}
use Rattle.concept_store.specs.declared.types.Node.TheVariants.{Class}
use Rattle.concept_store.specs.Order.{AreInOrder}
use Rattle.concept_store.specs.Roles.{AreOver}
use Rattle.model_check.specs.Inside.Lists.{FindsFailingRow, FindsFailingOf}
use Rattle.model_check.specs.Faults.{IsFirstFailing, IsFirstEmpty, row_ranked, sourced_axioms}

module _ (i : Interp) where
  -- an axiom that doesn't hold after others that hold is the first
  pub fails_at : (name : ℕ → Source) (start : ℕ) (axioms : List Axiom) (k : ℕ) (said : Axiom) → All (Holds i) (take k axioms) → slice_get axioms k ≡ Some said
      → ¬ (Holds i said) → IsFirstFailing i (numbered_from name start axioms) (name (start + k))
  fails_at name start [] k said before at fails = absurd (none-some said at)
  fails_at name start (first ∷ axioms) zero said before at fails =
      let here : start ≡ start + 0 = omega arith in
      inl ((λ holds. fails (subst (Holds i) (same_Some first said at) holds)), ap name here)
  fails_at name start (first ∷ axioms) (suc k) said before at fails =
      let later : start + 1 + k ≡ start + suc k = omega arith in
      inr (
        All-head (Holds i) first (take k axioms) before,
        subst (λ n. IsFirstFailing i (numbered_from name (start + 1) axioms) (name n)) later (fails_at name (start + 1) axioms k said (All-tail (Holds i) first (take k axioms) before) at fails),
      )

  -- more axioms after it change nothing
  pub stop : (sourced others : List (Source × Axiom)) (source : Source) → IsFirstFailing i sourced source → IsFirstFailing i (sourced ++ others) source
  stop [] others source first = absurd first
  stop (one ∷ sourced) others source first = ⊎_elim (λ here. inl here) (λ later. inr (later.0, stop sourced others source later.1)) first

  -- nor do axioms that hold before it
  pub skip : (name : ℕ → Source) (start : ℕ) (axioms : List Axiom) (others : List (Source × Axiom)) (source : Source) → All (Holds i) axioms
      → IsFirstFailing i others source → IsFirstFailing i (numbered_from name start axioms ++ others) source
  skip name start [] others source hold first = first
  skip name start (one ∷ axioms) others source hold first =
      inr (All-head (Holds i) one axioms hold, skip name (start + 1) axioms others source (All-tail (Holds i) one axioms hold) first)

  -- what holds of all of two lists holds of the first, and of the second
  first_of : (xs ys : List Axiom) → All (Holds i) (xs ++ ys) → All (Holds i) xs
  first_of xs ys all = All-weaker (Contains xs) (Holds i) (λ x there. All-contains (Holds i) (xs ++ ys) x all (Contains-append_left xs ys x there)) xs (All-contains_itself xs)

  second_of : (xs ys : List Axiom) → All (Holds i) (xs ++ ys) → All (Holds i) ys
  second_of xs ys all = All-weaker (Contains ys) (Holds i) (λ y there. All-contains (Holds i) (xs ++ ys) y all (Contains-append_right xs ys y there)) ys (All-contains_itself ys)

  -- a row that fails after others that hold
  pub row_fails : (case : CaseView) (ranks : List ℕ) (k rank : ℕ) (source : Source) → All (Holds i) (axioms_of_ranks case (take k ranks)) → slice_get ranks k ≡ Some rank
      → IsFirstFailing i (numbered_from (Source.Row rank) 1 (row_ranked case rank)) source
      → IsFirstFailing i (flat_map (λ r. numbered_from (Source.Row r) 1 (row_ranked case r)) ranks) source
  row_fails case [] k rank source before at fails = absurd (none-some rank at)
  row_fails case (first ∷ ranks) zero rank source before at fails =
      stop (numbered_from (Source.Row first) 1 (row_ranked case first)) (flat_map (λ r. numbered_from (Source.Row r) 1 (row_ranked case r)) ranks) source
      (subst (λ r. IsFirstFailing i (numbered_from (Source.Row r) 1 (row_ranked case r)) source) (sym (same_Some first rank at)) fails)
  row_fails case (first ∷ ranks) (suc k) rank source before at fails =
      skip (Source.Row first) 1 (row_ranked case first) (flat_map (λ r. numbered_from (Source.Row r) 1 (row_ranked case r)) ranks) source
      (first_of (row_ranked case first) (axioms_of_ranks case (take k ranks)) before)
      (row_fails case ranks k rank source (second_of (row_ranked case first) (axioms_of_ranks case (take k ranks)) before) at fails)

-- the axioms of the row with a rank
pub row_is : (case : CaseView) (rank : ℕ) → rank < length case.order → row_at case.rows (slice_index case.order rank) ≡ row_ranked case rank
row_is case rank within = sym (get_or-map (row_at case.rows) case.order rank 0 [] within)

-- a class without a list of members has none
pub none_of : (i : Interp) (class x : ℕ) → members_of i class ≡ [] → ¬ (IsMember i x (name_of (class + 2)))
none_of i class x none member =
    let two : class + 2 ≡ suc (suc class) = omega arith in
    let there : Contains (members_of i class) x = subst (λ n. IsMember i x (name_of n)) two member in
    let (k, within, same) = subst (λ xs. Contains xs x) none there in
    absurd (omega arith)

-- one with a list has the first of it
pub some_of : (xs : List ℕ) → ¬ (xs ≡ []) → (x : ℕ) × Contains xs x
some_of [] some = absurd (some refl)
some_of (x ∷ xs) some = (x, (0, omega arith, refl))

-- a node before a class that must have a member has one, if all such classes before it do
pub before_has : (case : CaseView) (i : Interp) (class : ℕ) → IsInterp case.classes case.properties i
    → ((k : ℕ) → k < class → ¬ (Contains case.excused (k + 2)) → (x : ℕ) × Contains (members_of i k) x)
    → (node : ℕ) → node < class + 2 → IsMustHave case node → (x : ℕ) × IsMember i x (name_of node)
before_has case i class fits has node before must = ⊎_elim
    (λ thing. (0, subst (λ n. IsMember i 0 (name_of n)) (sym thing) (let some = fits.inhabited in let l : 0 < i.size = omega arith in l)))
    (λ (k, below, same, kept).
    let at : node ≡ suc (suc k) = omega (arith, same) in
    let member = has k (omega (arith, same, before)) (λ there. kept (subst (Contains case.excused) (sym same) there)) in
    (member.0, subst (λ n. IsMember i member.0 (name_of n)) (sym at) member.1))
    must

-- a class without a member that must have one, after others that have one
pub is_first_empty : (case : CaseView) (i : Interp) (class : ℕ) → IsInterp case.classes case.properties i → class < case.classes → members_of i class ≡ [] → ¬ (Contains case.excused (class + 2))
    → ((k : ℕ) → k < class → ¬ (Contains case.excused (k + 2)) → (x : ℕ) × Contains (members_of i k) x) → IsFirstEmpty case i (class + 2)
is_first_empty case i class fits below none kept has = record {
  must = inr (class, below, refl, kept);
  empty = λ x. none_of i class x none;
  before = before_has case i class fits has;
}

-- all have a member if all classes that must have one do
pub none_empty : (case : CaseView) (i : Interp) (passed : ℕ) → IsInterp case.classes case.properties i → case.classes ≤ passed
    → ((k : ℕ) → k < passed → ¬ (Contains case.excused (k + 2)) → (x : ℕ) × Contains (members_of i k) x)
    → (node : ℕ) → IsMustHave case node → (x : ℕ) × IsMember i x (name_of node)
none_empty case i passed fits end has node must =
    let near : node < passed + 2 = ⊎_elim (λ thing. omega (arith, thing)) (λ (k, below, same, kept). omega (arith, below, same)) must in
    before_has case i passed fits has node near must

-- a row has fewer axioms than 32 bits count
pub row_few : (case : CaseView) → IsCase case → (rank : ℕ) → rank < length case.order → length (row_at case.rows (slice_index case.order rank)) < 2 ^ 31
row_few case is_case rank below =
    let within = All-get_or (λ index. index < length case.rows) case.order rank 0 below is_case.given.indexes in
    (All-get_or (AreOver case.classes case.properties) case.rows (slice_index case.order rank) [] within is_case.given.row_names).few

-- what the rows answer after both documents hold
pub of_rows : (case : CaseView) (i : Interp) (ranks : List ℕ) → All (Holds i) case.left → All (Holds i) case.right → (r : Option Source) → FindsFailingRow case i ranks r → FindsFailingOf case i ranks r
of_rows case i ranks left right None rows = All-append (Holds i) (case.left ++ case.right) (axioms_of_ranks case ranks) (All-append (Holds i) case.left case.right left right) rows
of_rows case i ranks left right (Some source) rows =
    let others = flat_map (λ r. numbered_from (Source.Row r) 1 (row_ranked case r)) ranks in
    subst (λ sourced. IsFirstFailing i sourced source) (sym (append_assoc (numbered_from Source.Left 1 case.left) (numbered_from Source.Right 1 case.right) others))
    (skip i Source.Left 1 case.left (numbered_from Source.Right 1 case.right ++ others) source left (skip i Source.Right 1 case.right others source right rows))

-- one class more has a member, or needs none
pub has_more : (case : CaseView) (i : Interp) (class : ℕ) → ((k : ℕ) → k < class → ¬ (Contains case.excused (k + 2)) → (x : ℕ) × Contains (members_of i k) x)
    → (¬ (Contains case.excused (class + 2)) → (x : ℕ) × Contains (members_of i class) x)
    → (k : ℕ) → k < class + 1 → ¬ (Contains case.excused (k + 2)) → (x : ℕ) × Contains (members_of i k) x
has_more case i class has this k less kept = ⊎_elim
    (λ early. has k early kept)
    (λ late.
    let same : class ≡ k = omega arith in
    subst (λ n. (x : ℕ) × Contains (members_of i n) x) same (this (subst (λ n. ¬ (Contains case.excused (n + 2))) (sym same) kept)))
    (cases_lt k class)

-- the node of a class is a number of 32 bits if the number of nodes is
pub class_fits : (case : CaseView) (nodes class : ℕ) → nodes ≡ length case.store.nodes → nodes < 2 ^ 32 → AreInOrder case.classes case.properties case.store.nodes → class < case.classes → class + 2 < 2 ^ 32
class_fits case nodes class same small order below =
    let within = slice_get_within case.store.nodes (class + 2) (Class class) (order.names class below) in
    omega arith

-- an interpretation of some names has a list for each of its own
pub own_counts : (classes properties : ℕ) (i : Interp) → IsInterp classes properties i → IsInterp (length i.classes) (length i.roles) i
own_counts classes properties i fits = record {
  inhabited = fits.inhabited;
  each_class = refl;
  each_role = refl;
  members_below = fits.members_below;
  pairs_below = fits.pairs_below;
}

-- the first axiom that fails in one interpretation fails first in another that means the same
failing_over : (i j : Interp) → ((a : Axiom) → Holds i a ↔ Holds j a) → (sourced : List (Source × Axiom)) (source : Source) → IsFirstFailing i sourced source → IsFirstFailing j sourced source
failing_over i j means [] source first = absurd first
failing_over i j means (one ∷ sourced) source first = ⊎_elim
    (λ here. inl ((λ holds. here.0 ((means one.1).1 holds)), here.1))
    (λ later. inr ((means one.1).0 later.0, failing_over i j means sourced source later.1))
    first

-- and so of both documents and the rows
pub finds_over : (case : CaseView) (i j : Interp) (ranks : List ℕ) → ((a : Axiom) → Holds i a ↔ Holds j a) → (found : Option Source) → FindsFailingOf case i ranks found → FindsFailingOf case j ranks found
finds_over case i j ranks means None all = All-weaker (Holds i) (Holds j) (λ a. (means a).0) (axioms_for case Part.Both ranks) all
finds_over case i j ranks means (Some source) first = failing_over i j means (sourced_axioms case ranks) source first
