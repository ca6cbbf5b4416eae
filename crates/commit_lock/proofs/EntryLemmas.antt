-- Beginnings of lists, the longer of two of them, and the entries that carry one number.
use Rattle.std.proofs.Common.{◌≡◌, ◌≢◌, ◌==◌, ◌≤◌, ℕ, suc, Bool, true, false, List, [], ◌∷◌, ◌++◌, length, nat_le, get_or, drop, refl, sym, ap, ◌∙◌, arith, ne_eqb}
use Rattle.std.specs.List.{All}
use Rattle.std.proofs.lemmas.Bool.{leb-true, leb-false}
use Rattle.std.proofs.lemmas.List.{append_assoc, append-nil, append_cancel_left}
use Rattle.std.proofs.lemmas.List.Elements.{filter-append}
use Rattle.commit_lock.specs.Entries.{IsBeginning, longer, made_by}

module _ {E : Type 0} where
  -- two lists that make the empty list are both empty
  pub both_empty : (one other : List E) → one ++ other ≡ [] → (one ≡ []) × (other ≡ [])
  both_empty [] other is = (refl, is)
  both_empty (x ∷ xs) other is = absurd (cc is)

  -- every list begins with itself
  pub begins_itself : (list : List E) → IsBeginning list list
  begins_itself list = ([], append-nil list)

  -- a list that grows still begins with all that it began with
  pub begins_more : (front whole more : List E) → IsBeginning front whole
      → IsBeginning front (whole ++ more)
  begins_more front whole more begins =
      (begins.0 ++ more, sym (append_assoc front begins.0 more) ∙ ap (λ l. l ++ more) begins.1)

  -- two beginnings of each other are the same list
  pub begins_both_ways : (one other : List E) → IsBeginning one other → IsBeginning other one
      → one ≡ other
  begins_both_ways one other there back =
      let round : one ++ (there.0 ++ back.0) ≡ one ++ [] =
      sym (append_assoc one there.0 back.0)
      ∙ (ap (λ l. l ++ back.0) there.1 ∙ (back.1 ∙ sym (append-nil one))) in
      let none = both_empty there.0 back.0 (append_cancel_left one (there.0 ++ back.0) [] round) in
      sym (append-nil one) ∙ (ap (λ l. one ++ l) (sym none.0) ∙ there.1)

  -- of two beginnings of one list, the longer begins with the shorter
  pub shorter_begins : (one other whole : List E) → IsBeginning one whole → IsBeginning other whole
      → length one ≤ length other → IsBeginning one other
  shorter_begins [] other whole a b le = (other, refl)
  shorter_begins (x ∷ xs) [] whole a b le = absurd (omega arith)
  shorter_begins (x ∷ xs) (y ∷ ys) [] a b le = absurd (cc a.1)
  shorter_begins (x ∷ xs) (y ∷ ys) (z ∷ zs) a b le =
      let rest = shorter_begins xs ys zs (a.0, ap (drop 1) a.1) (b.0, ap (drop 1) b.1) (omega arith) in
      let first_x : x ≡ z = ap (λ l. get_or l 0 z) a.1 in
      let first_y : y ≡ z = ap (λ l. get_or l 0 z) b.1 in
      (rest.0, λ i. (first_x ∙ sym first_y) i ∷ rest.1 i)

  -- by which of the two is longer
  merged_by : (one other whole : List E) → IsBeginning one whole → IsBeginning other whole
      → (test : Bool) → nat_le (length other) (length one) ≡ test
      → IsBeginning (longer one other) whole
      × IsBeginning one (longer one other) × IsBeginning other (longer one other)
  merged_by one other whole a b true is =
      rw is (a, begins_itself one, shorter_begins other one whole b a (leb-true _ _ is))
  merged_by one other whole a b false is =
      let less = leb-false (length other) (length one) is in
      rw is (b, shorter_begins one other whole a b (omega arith), begins_itself other)

  -- the longer of two beginnings of one list is one too, and begins with both
  pub merged : (one other whole : List E) → IsBeginning one whole → IsBeginning other whole
      → IsBeginning (longer one other) whole
      × IsBeginning one (longer one other) × IsBeginning other (longer one other)
  merged one other whole a b = merged_by one other whole a b (nat_le (length other) (length one)) refl

module _ {E : Type 0} (worker : E → ℕ) where
  -- the entries of one number in two lists
  pub made_by-append : (n : ℕ) (one other : List E)
      → made_by worker n (one ++ other) ≡ made_by worker n one ++ made_by worker n other
  made_by-append n one other = filter-append (λ e. worker e == n) one other

  -- entries of another number count nothing
  made_by-none : (n m : ℕ) (entries : List E) → m ≢ n → All (λ e. worker e ≡ m) entries
      → made_by worker n entries ≡ []
  made_by-none n m [] apart all = refl
  made_by-none n m (e ∷ es) apart all =
      let is : worker e ≡ m = all 0 e (omega arith) in
      let other : (worker e == n) ≡ false = ne_eqb (worker e) n (λ same. apart (sym is ∙ same)) in
      rw other (made_by-none n m es apart (λ k d l. all (suc k) d (omega arith)))

  -- entries of another number may be appended
  pub made_by-other : (n m : ℕ) (entries more : List E) → m ≢ n → All (λ e. worker e ≡ m) more
      → made_by worker n (entries ++ more) ≡ made_by worker n entries
  made_by-other n m entries more apart all =
      made_by-append n entries more
      ∙ (ap (λ l. made_by worker n entries ++ l) (made_by-none n m more apart all)
      ∙ append-nil (made_by worker n entries))

  -- a list between two others that have the same entries of a number has them too
  pub made_by-between : (n : ℕ) (front middle whole : List E) → IsBeginning front middle
      → IsBeginning middle whole
      → made_by worker n whole ≡ made_by worker n front
      → made_by worker n whole ≡ made_by worker n middle
  made_by-between n front middle whole a b same =
      let of_front = made_by worker n front in
      let more = made_by worker n a.0 in
      let rest = made_by worker n b.0 in
      let whole_is : made_by worker n whole ≡ made_by worker n middle ++ rest =
      ap (made_by worker n) (sym b.1) ∙ made_by-append n middle b.0 in
      let middle_is : made_by worker n middle ≡ of_front ++ more =
      ap (made_by worker n) (sym a.1) ∙ made_by-append n front a.0 in
      let all : of_front ++ (more ++ rest) ≡ of_front ++ [] =
      sym (append_assoc of_front more rest)
      ∙ (ap (λ l. l ++ rest) (sym middle_is) ∙ (sym whole_is ∙ (same ∙ sym (append-nil of_front)))) in
      let none = both_empty more rest (append_cancel_left of_front (more ++ rest) [] all) in
      whole_is ∙ (ap (λ l. made_by worker n middle ++ l) none.1 ∙ append-nil (made_by worker n middle))

  -- a number that a list has no entries of, no beginning of it has any of
  pub made_by-front : (n : ℕ) (front whole : List E) → IsBeginning front whole
      → made_by worker n whole ≡ [] → made_by worker n front ≡ []
  made_by-front n front whole begins none =
      let parts = sym (made_by-append n front begins.0) ∙ (ap (made_by worker n) begins.1 ∙ none) in
      (both_empty (made_by worker n front) (made_by worker n begins.0) parts).0
