-- Rows in the order of their confidence.
use Rattle.std.proofs.Common.{◌≡◌, ◌≢◌, true≢false, ℕ, zero, suc, ◌<◌, ◌≤◌, ◌+◌, Bool, true, false, cond, List, [], ◌∷◌, length, map, All, get_or, slice_index, refl, ⊎_elim, inl, inr, subst, sym, ap, ◌∙◌, nat_eq, zero-add, arith}
use Rattle.std.specs.List.{range_with_len, count_by, IsDistinct}
use Rattle.std.specs.List.Sorted.{IsPermutation, IsSortedBy}
use Rattle.std.specs.Cmp.{IsStrictWeakOrder}
use Rattle.std.proofs.lemmas.Bool.{cases_lt, cases_eq, eqb-false, ne_eqb}
use Rattle.std.proofs.lemmas.List.FromFn.{length-range_with_len, get_or-range_with_len}
use Rattle.std.proofs.lemmas.Grind.{get_or_default_zero}
use Rattle.std.proofs.lemmas.Bool.Decides.{nat_tests}
use Rattle.std.proofs.lemmas.List.{length-map, get_or-map}
use Rattle.std.proofs.lemmas.List.Elements.{All-map, All-from_get_or, All-get_or}
use Rattle.std.proofs.lemmas.List.Sums.{sum_by-cons}
use Rattle.std.proofs.lemmas.List.Sorted.{length_permutation, sum_by-IsPermutation, Contains-permutation, All-permutation, IsPermutation-map}
use Rattle.std.proofs.lemmas.Map.Keys.{IsDistinct-from_apart, IsDistinct-IsPermutation, apart_from_distinct}
use Rattle.rank_order.specs.declared.order.RankKey.{RankKey}
use Rattle.rank_order.specs.Order.{IsBefore, is_before, key_at, rank_of, IsRanking}

-- a row before one that is before another
IsBefore-trans : (a b c : RankKey) → IsBefore a b → IsBefore b c → IsBefore a c
IsBefore-trans a b c first second =
    ⊎_elim
    (λ greater. inl (⊎_elim (λ more. omega arith) (λ tie. omega arith) second))
    (λ tie. ⊎_elim (λ more. inl (omega arith)) (λ tie_too. inr (omega arith, omega arith)) second)
    first

-- no two rows are before each other
IsBefore-one_way : (a b : RankKey) → IsBefore a b → ¬ (IsBefore b a)
IsBefore-one_way a b first second =
    ⊎_elim (λ greater. ⊎_elim (λ more. omega arith) (λ tie. omega arith) second) (λ tie. ⊎_elim (λ more. omega arith) (λ tie_too. omega arith) second) first

-- a row that is before passes the test
is_before_yes : (a b : RankKey) → IsBefore a b → is_before a b ≡ true
is_before_yes a b before = grind (arith, nat_tests)

-- a row that is not before fails it
is_before_no : (a b : RankKey) → ¬ (IsBefore a b) → is_before a b ≡ false
is_before_no a b not_before = grind (arith, nat_tests)

-- a test that passes just in front counts the front
count_by_front : (test : ℕ → Bool) (xs : List ℕ) (front : ℕ) → front ≤ length xs → ((k : ℕ) → k < front → test (get_or xs k 0) ≡ true) → ((k : ℕ) → front ≤ k → k < length xs → test (get_or xs k 0) ≡ false) → count_by test xs ≡ front
count_by_front test [] front within passes fails = omega arith
count_by_front test (x ∷ xs) zero within passes fails =
    sum_by-cons (λ y. cond (test y) 1 0) x xs
    ∙ ap (λ answer. cond answer 1 0 + count_by test xs) (fails 0 (omega arith) (omega arith))
    ∙ omega (arith, count_by_front test xs zero (omega arith) (λ k low. absurd (omega arith)) (λ k low high. fails (suc k) (omega arith) (omega arith)))
count_by_front test (x ∷ xs) (suc front) within passes fails =
    sum_by-cons (λ y. cond (test y) 1 0) x xs
    ∙ ap (λ answer. cond answer 1 0 + count_by test xs) (passes 0 (omega arith))
    ∙ omega (arith, count_by_front test xs front (omega arith) (λ k low. passes (suc k) (omega arith)) (λ k low high. fails (suc k) (omega arith) (omega arith)))

module _ (confidences rows : List ℕ) (ranking : IsRanking confidences rows) where
  -- each row is before all that follow
  far_before : (i j : ℕ) → i < j → j < length rows → IsBefore (key_at confidences (slice_index rows i)) (key_at confidences (slice_index rows j))
  far_before i zero low within = absurd (omega arith)
  far_before i (suc j) low within =
      let follows : j + 1 ≡ suc j = omega arith in
      let next = subst (λ k. IsBefore (key_at confidences (slice_index rows j)) (key_at confidences (slice_index rows k))) follows (ranking.in_order j (omega arith)) in
      ⊎_elim (λ earlier. IsBefore-trans (key_at confidences (slice_index rows i)) (key_at confidences (slice_index rows j)) (key_at confidences (slice_index rows (suc j))) (far_before i j earlier (omega arith)) next)
      (λ late. let same : j ≡ i = omega arith in subst (λ k. IsBefore (key_at confidences (slice_index rows k)) (key_at confidences (slice_index rows (suc j)))) same next)
      (cases_lt i j)

  -- the row at a place has that rank
  pub rank_of_place : (place : ℕ) → place < length rows → rank_of confidences (slice_index rows place) ≡ place
  rank_of_place place within =
      let key = key_at confidences (slice_index rows place) in
      sym (sum_by-IsPermutation (λ other. cond (is_before (key_at confidences other) key) 1 0) (range_with_len 0 (length confidences)) rows ranking.each_once)
      ∙ count_by_front (λ other. is_before (key_at confidences other) key) rows place (omega arith)
      (λ k low. is_before_yes (key_at confidences (slice_index rows k)) key (far_before k place low within))
      (λ k low high. is_before_no (key_at confidences (slice_index rows k)) key (λ before. ⊎_elim
      (λ later. IsBefore-one_way key (key_at confidences (slice_index rows k)) (far_before place k later high) before)
      (λ no_later.
      let same : k ≡ place = omega arith in
      let own = subst (λ i. IsBefore (key_at confidences (slice_index rows i)) key) same before in
      IsBefore-one_way key key own own)
      (cases_lt place k)))

  -- a row stands at its rank
  pub row_of_rank : (row : ℕ) → row < length confidences → slice_index rows (rank_of confidences row) ≡ row
  row_of_rank row within =
      let numbers = range_with_len 0 (length confidences) in
      let inside : row < length numbers = omega (arith, length-range_with_len 0 (length confidences)) in
      let found = Contains-permutation numbers rows row ranking.each_once (row, inside, get_or-range_with_len 0 (length confidences) row row within ∙ zero-add row) in
      let at_place : slice_index rows found.0 ≡ row = sym (get_or_default_zero rows found.0 row found.1) ∙ found.2 in
      ap (λ other. slice_index rows (rank_of confidences other)) (sym at_place) ∙ ap (slice_index rows) (rank_of_place found.0 found.1) ∙ at_place

  -- as many rows are ranked as there are confidences
  pub ranked_count : length rows ≡ length confidences
  ranked_count = length_permutation (range_with_len 0 (length confidences)) rows ranking.each_once ∙ length-range_with_len 0 (length confidences)

  -- each is the number of a row
  pub ranked_within : (place : ℕ) → place < length rows → slice_index rows place < length confidences
  ranked_within place within =
      let numbers = range_with_len 0 (length confidences) in
      let all : All (λ row. row < length confidences) numbers = All-from_get_or (λ row. row < length confidences) numbers 0
      (λ i inside. let few : i < length confidences = omega (arith, inside, length-range_with_len 0 (length confidences)) in
      omega (arith, few, get_or-range_with_len 0 (length confidences) i 0 few)) in
      All-get_or (λ row. row < length confidences) rows place 0 within (All-permutation (λ row. row < length confidences) numbers rows ranking.each_once all)

  -- no row is ranked twice
  pub ranked_once : (one other : ℕ) → one < length rows → other < length rows → slice_index rows one ≡ slice_index rows other → one ≡ other
  ranked_once one other first second same = sym (rank_of_place one first) ∙ ap (rank_of confidences) same ∙ rank_of_place other second

-- a row comes before another or after it
one_before : (a b : RankKey) → a.row ≢ b.row → is_before b a ≡ false → IsBefore a b
one_before a b differ not_before = ⊎_elim inl
    (λ le. ⊎_elim
    (λ (less : a.confidence < b.confidence). absurd (let yes = is_before_yes b a (inl less) in true≢false (sym yes ∙ not_before)))
    (λ ge.
    let same : a.confidence ≡ b.confidence = omega arith in
    ⊎_elim (λ (earlier : a.row < b.row). inr (same, earlier))
    (λ later. absurd (let yes = is_before_yes b a (inr (sym same, omega arith)) in true≢false (sym yes ∙ not_before)))
    (cases_lt a.row b.row))
    (cases_lt a.confidence b.confidence))
    (cases_lt b.confidence a.confidence)

-- the test goes one way
before_one_way : (a b : RankKey) → is_before a b ≡ true → is_before b a ≡ false
before_one_way a b before = grind (arith, nat_tests)

-- the test goes along a chain
before_chain : (a b c : RankKey) → is_before a b ≡ false → is_before b c ≡ false → is_before a c ≡ false
before_chain a b c first second = grind (arith, nat_tests)

-- the test is an order
pub in_one_order : IsStrictWeakOrder is_before
in_one_order = record { one_way = before_one_way; chain = before_chain }

-- equality goes both ways
nat_eq-flips : (a b : ℕ) → nat_eq a b ≡ nat_eq b a
nat_eq-flips a b = ⊎_elim (λ same. grind (arith, nat_tests)) (λ differs. grind (arith, nat_tests)) (cases_eq a b)

-- row numbers are distinct
numbers_differ : (count : ℕ) → IsDistinct nat_eq (range_with_len 0 count)
numbers_differ count = IsDistinct-from_apart nat_eq (range_with_len 0 count)
    (λ i j d low inside.
    let within : j < count = omega (arith, length-range_with_len 0 count) in
    ne_eqb (get_or (range_with_len 0 count) i d) (get_or (range_with_len 0 count) j d)
    (λ same. omega (arith, get_or-range_with_len 0 count i d (omega arith), get_or-range_with_len 0 count j d within)))

-- the rows of the keys of all rows
rows_of_keys : (confidences numbers : List ℕ) → map (λ (key : RankKey). key.row) (map (key_at confidences) numbers) ≡ numbers
rows_of_keys confidences [] = refl
rows_of_keys confidences (n ∷ ns) = ap (λ (l : List ℕ). n ∷ l) (rows_of_keys confidences ns)

-- keys of all rows that are sorted by that test rank the rows
module _ (confidences : List ℕ) (keys : List RankKey) (each_once : IsPermutation (map (key_at confidences) (range_with_len 0 (length confidences))) keys) (sorted : IsSortedBy is_before keys) where
  -- the key is that of its own row
  abbrev IsOwn : RankKey → Type 0
  IsOwn key = key_at confidences key.row ≡ key

  -- all row numbers
  abbrev numbers : List ℕ
  numbers = range_with_len 0 (length confidences)

  own : All IsOwn keys
  own = All-permutation IsOwn (map (key_at confidences) numbers) keys each_once (All-map IsOwn (key_at confidences) numbers (All-from_get_or (λ row. IsOwn (key_at confidences row)) numbers 0 (λ i within. refl)))

  -- the sorted rows are all rows
  rows_once : IsPermutation numbers (map (λ (key : RankKey). key.row) keys)
  rows_once =
      subst (λ (ns : List ℕ). IsPermutation ns (map (λ (key : RankKey). key.row) keys)) (rows_of_keys confidences numbers)
      (IsPermutation-map (λ (key : RankKey). key.row) (map (key_at confidences) numbers) keys each_once)

  -- a key for places past the end
  abbrev none : RankKey
  none = key_at confidences 0

  -- the key of the row at a place
  key_is : (k : ℕ) → k < length keys → key_at confidences (slice_index (map (λ (key : RankKey). key.row) keys) k) ≡ get_or keys k none
  key_is k within = ap (key_at confidences) (get_or-map (λ (key : RankKey). key.row) keys k none 0 within) ∙ All-get_or IsOwn keys k none within own

  -- sorted keys give a ranking
  pub ranking_from_sort : IsRanking confidences (map (λ (key : RankKey). key.row) keys)
  ranking_from_sort = record {
    each_once = rows_once;
    in_order = λ k within.
        let rows = map (λ (key : RankKey). key.row) keys in
        let inside : k + 1 < length keys = omega (arith, within, length-map keys (λ (key : RankKey). key.row)) in
        let distinct = IsDistinct-IsPermutation nat_eq nat_eq-flips numbers rows rows_once (numbers_differ (length confidences)) in
        let before : is_before (key_at confidences (slice_index rows (k + 1))) (key_at confidences (slice_index rows k)) ≡ false =
        ap (λ (key : RankKey). is_before key (key_at confidences (slice_index rows k))) (key_is (k + 1) inside)
        ∙ ap (is_before (get_or keys (k + 1) none)) (key_is k (omega arith))
        ∙ sorted k none (omega arith) inside
        in
        one_before (key_at confidences (slice_index rows k)) (key_at confidences (slice_index rows (k + 1)))
        (eqb-false (slice_index rows k) (slice_index rows (k + 1)) (apart_from_distinct nat_eq rows k (k + 1) 0 distinct (omega arith) within)) before;
  }
