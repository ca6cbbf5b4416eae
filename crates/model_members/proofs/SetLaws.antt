-- What the steps of tests on sets show.
use Rattle.std.proofs.Common.{◌≡◌, ◌<◌, ℕ, zero, suc, Bool, true, false, cond, List, [], ◌∷◌, length, Contains, sym, subst, refl, rules, arith}
use Rattle.std.specs.List.{filter}
use Rattle.std.proofs.lemmas.List.Elements.{All-contains, All-filter, All-contains_itself, filter_passes, Contains-append_right, Contains-append_left, Contains-push}
use Rattle.std.proofs.lemmas.List.Kept.{IsStrictlyIncreasing-filter}
use Rattle.model_members.specs.declared.sets.Members.{Members}
use Rattle.model_members.specs.declared.sets.Members.TheVariants.{Listed}
use Rattle.model_members.specs.Numbers.{has_number}
use Rattle.model_members.specs.Inside.Sets.{AreElements, IsSetOf}
use Rattle.model_members.proofs.SearchLaws.{found, finds}

-- what an answer tells of two sets it tells of those that they are
pub of_sets : (Tells : Members → Members → Type 0) (set other one two : Members) → set ≡ one → other ≡ two → Tells one two → Tells set other
of_sets Tells set other one two is_one is_two tells = subst (λ s. Tells s other) (sym is_one) (subst (Tells one) (sym is_two) tells)

-- a list that has no number is empty
pub empty_of : (numbers : List ℕ) → ((x : ℕ) → ¬ (Contains numbers x)) → numbers ≡ []
empty_of [] none = refl
empty_of (x ∷ numbers) none = absurd (none x (Contains-append_left (x ∷ []) numbers x (Contains-push [] x)))

-- and the empty one has none
pub none_of : (numbers : List ℕ) (x : ℕ) → numbers ≡ [] → ¬ (Contains numbers x)
none_of numbers x none there = let short : length numbers ≡ 0 = search (rules, none) in omega (arith, there.1)

-- one more at the front, or not, has what the rest has
kept_behind : (b : Bool) (y : ℕ) (rest : List ℕ) (x : ℕ) → Contains rest x → Contains (cond b (y ∷ rest) rest) x
kept_behind true y rest x there = Contains-append_right (y ∷ []) rest x there
kept_behind false y rest x there = there

-- a filter keeps what passes
kept_by : (p : ℕ → Bool) (xs : List ℕ) (x : ℕ) → Contains xs x → p x ≡ true → Contains (filter p xs) x
kept_by p [] x there passes = absurd (omega (arith, there.1))
kept_by p (y ∷ ys) x (zero, within, is) passes =
    subst (λ b. Contains (cond b (y ∷ filter p ys) (filter p ys)) x) (sym (subst (λ z. p z ≡ true) (sym is) passes))
    (subst (λ z. Contains (y ∷ filter p ys) z) is (Contains-append_left (y ∷ []) (filter p ys) y (Contains-push [] y)))
kept_by p (y ∷ ys) x (suc k, within, is) passes =
    kept_behind (p y) y (filter p ys) x (kept_by p ys x (k, omega arith, is) passes)

-- what others have of elements are those in both
pub in_both : (size : ℕ) (numbers others : List ℕ) → AreElements size numbers → IsSetOf size (λ x. Contains numbers x × Contains others x) (Listed (filter (has_number others) numbers))
in_both size numbers others are = record {
  ordered = (
    IsStrictlyIncreasing-filter (has_number others) numbers are.0,
    All-filter (has_number others) (λ x. x < size) numbers are.1,
  );
  same = λ x. (
    (λ there. (
      All-contains (Contains numbers) (filter (has_number others) numbers) x (All-filter (has_number others) (Contains numbers) numbers (All-contains_itself numbers)) there,
      found others x (All-contains (λ y. has_number others y ≡ true) (filter (has_number others) numbers) x (filter_passes (has_number others) numbers) there),
    )),
    (λ both. kept_by (has_number others) numbers x both.0 (finds others x both.1)),
  );
}
