-- Which rows are kept is determined by which ranks are.
use Rattle.std.proofs.Common.{◌≡◌, ℕ, Bool, true, false, List, [], ◌∷◌, map, refl, sym, ◌∙◌, ap, Contains, true≢false}
use Rattle.std.specs.Prelude.{◌==◌, ◌||◌, length, slice_index}
use Rattle.std.specs.List.{list_any, range_with_len}
use Rattle.std.proofs.lemmas.List.Folds.{list_any_at}
use Rattle.std.proofs.lemmas.List.Elements.{Contains-append_left, Contains-append_right, Contains-push}
use Rattle.conflict_logic.specs.Repair.{IsRepair}
use Rattle.diagnosis.specs.Rows.{has_rank_of, keep_of}

-- a test that an element passes is passed by one of any list with it
any_held : (test : ℕ → Bool) (ranks : List ℕ) (rank : ℕ) → Contains ranks rank → test rank ≡ true → list_any test ranks ≡ true
any_held test ranks rank held passes = list_any_at test ranks held.0 rank held.1 (ap test held.2 ∙ passes)

-- a test that an element of one list passes is passed by one of a list with the same elements
any_stays : (test : ℕ → Bool) (ranks others : List ℕ) → ((rank : ℕ) → Contains ranks rank → Contains others rank)
    → list_any test ranks ≡ true → list_any test others ≡ true
any_stays test [] others into h = absurd (true≢false (sym h))
any_stays test (rank ∷ ranks) others into h =
    by (test rank) refl (any_stays test ranks others (λ r held. into r (Contains-append_right (rank ∷ []) ranks r held)))
  where
    by : (passes : Bool) → test rank ≡ passes → (list_any test ranks ≡ true → list_any test others ≡ true) → list_any test others ≡ true
    by true e rest = any_held test others rank (into rank (Contains-append_left (rank ∷ []) ranks rank (Contains-push [] rank))) e
    by false e rest = rest (sym (ap (λ (b : Bool). b || list_any test ranks) e) ∙ h)

-- two truth values, each true if the other is
same_truth : (one other : Bool) → (one ≡ true → other ≡ true) → (other ≡ true → one ≡ true) → one ≡ other
same_truth true other into back = sym (into refl)
same_truth false true into back = back refl
same_truth false false into back = refl

-- two functions that give the same of each element
map_same : {X Y : Type 0} (f g : X → Y) → ((x : X) → f x ≡ g x) → (xs : List X) → map f xs ≡ map g xs
map_same f g same [] = refl
map_same {Y = Y} f g same (x ∷ xs) =
    ap (λ (y : Y). y ∷ map f xs) (same x) ∙ ap (λ (ys : List Y). g x ∷ ys) (map_same f g same xs)

-- two repairs of one family keep the same rows
pub same_keep : (order : List ℕ) (incoherent : List ℕ → Type 0) (count : ℕ) (one other : List ℕ)
    → IsRepair incoherent count one → IsRepair incoherent count other → keep_of order one ≡ keep_of order other
same_keep order incoherent count one other r s =
    map_same (has_rank_of order one) (has_rank_of order other) (λ row. same_truth (has_rank_of order one row) (has_rank_of order other row)
    (any_stays (λ rank. slice_index order rank == row) one other (kept_stays one other r s))
    (any_stays (λ rank. slice_index order rank == row) other one (kept_stays other one s r))) (range_with_len 0 (length order))
  where
    kept_stays : (a b : List ℕ) → IsRepair incoherent count a → IsRepair incoherent count b → (rank : ℕ) → Contains a rank → Contains b rank
    kept_stays a b p q rank held = q.spared_is_kept rank (p.below rank held) (p.kept_is_spared rank held)
