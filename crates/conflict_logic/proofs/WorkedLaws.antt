-- The accused ranks of the two small families.
use Rattle.std.proofs.Common.{◌≡◌, ◌≢◌, ◌⊎◌, ◌<◌, ℕ, List, [], ◌∷◌, Contains, inl, inr, ⊎_elim, subst, sym, arith}
use Rattle.std.proofs.lemmas.Bool.{cases_eq}
use Rattle.conflict_logic.specs.Sets.{IsConflict, IsProperPart}
use Rattle.conflict_logic.specs.Accused.{IsAccused, IsSpared}
use Rattle.conflict_logic.specs.Worked.{IsChained, IsRepeated}
use Rattle.conflict_logic.proofs.SetLemmas.{Contains-cons_head, Contains-cons_tail, Contains-pair_cases}
use Rattle.conflict_logic.proofs.AccusedLaws.{accused_opens, accused_closes}

-- a conflict of two ranks, of which the first is spared, accuses the second
module _ (incoherent : List ℕ → Type 0) where
  pub second_accused : (first second : ℕ) → first < second → IsConflict incoherent (first ∷ second ∷ []) → IsSpared incoherent first → IsAccused incoherent second
  second_accused first second before conflict spared = accused_closes incoherent second (record {
    conflict = first ∷ second ∷ [];
    is_conflict = conflict;
    held = Contains-cons_tail first (second ∷ []) second (Contains-cons_head second []);
    others = λ other held differs. ⊎_elim
        (λ same. (subst (λ rank. rank < second) same before, subst (IsSpared incoherent) same spared))
        (λ same. absurd (differs (sym same)))
        (Contains-pair_cases first second other held);
  })

-- a part of two ranks that holds both lacks neither
not_proper : (first second : ℕ) (part : List ℕ) → IsProperPart part (first ∷ second ∷ []) → Contains part first → Contains part second → ⊥
not_proper first second part proper one two =
    ⊎_elim (λ same. proper.lacked (subst (Contains part) same one)) (λ same. proper.lacked (subst (Contains part) same two))
    (Contains-pair_cases first second proper.missing proper.held)

other_rank : (first second rank : ℕ) (part : List ℕ) → IsProperPart part (first ∷ second ∷ []) → Contains part rank → first ≢ rank → second ≢ rank → ⊥
other_rank first second rank part proper held not_first not_second = ⊎_elim not_first not_second (Contains-pair_cases first second rank (proper.within rank held))

chain_conflict : IsConflict IsChained (0 ∷ 1 ∷ [])
chain_conflict = record {
  together = inl (Contains-cons_head 0 (1 ∷ []), Contains-cons_tail 0 (1 ∷ []) 1 (Contains-cons_head 1 []));
  least = λ part proper incoherent. ⊎_elim
      (λ both. not_proper 0 1 part proper both.0 both.1)
      (λ both. other_rank 0 1 2 part proper both.1 (λ same. omega arith) (λ same. omega arith))
      incoherent;
}

pub chain_spares_its_first : IsSpared IsChained 0
chain_spares_its_first accused =
    let last = accused_opens IsChained 0 accused in
    let not_one : Contains last.conflict 1 → ⊥ = λ held. let before = (last.others 1 held (λ same. omega arith)).0 in omega arith in
    ⊎_elim (λ both. not_one both.1) (λ both. not_one both.0) last.is_conflict.together

pub chain_accuses_its_second : IsAccused IsChained 1
chain_accuses_its_second = second_accused IsChained 0 1 (omega arith) chain_conflict chain_spares_its_first

-- each conflict of the chain holds rank 1, so no other rank is its last
pub chain_accuses_no_other : (rank : ℕ) → IsAccused IsChained rank → rank ≡ 1
chain_accuses_no_other rank accused =
    let last = accused_opens IsChained rank accused in
    let middle : Contains last.conflict 1 = ⊎_elim (λ both. both.1) (λ both. both.0) last.is_conflict.together in
    ⊎_elim (λ same. same) (λ differs. absurd ((last.others 1 middle (λ same. differs (sym same))).1 chain_accuses_its_second)) (cases_eq rank 1)

repeat_conflict_with_one : IsConflict IsRepeated (0 ∷ 1 ∷ [])
repeat_conflict_with_one = record {
  together = inl (Contains-cons_head 0 (1 ∷ []), Contains-cons_tail 0 (1 ∷ []) 1 (Contains-cons_head 1 []));
  least = λ part proper incoherent. ⊎_elim
      (λ both. not_proper 0 1 part proper both.0 both.1)
      (λ both. other_rank 0 1 2 part proper both.1 (λ same. omega arith) (λ same. omega arith))
      incoherent;
}

repeat_conflict_with_two : IsConflict IsRepeated (0 ∷ 2 ∷ [])
repeat_conflict_with_two = record {
  together = inr (Contains-cons_head 0 (2 ∷ []), Contains-cons_tail 0 (2 ∷ []) 2 (Contains-cons_head 2 []));
  least = λ part proper incoherent. ⊎_elim
      (λ both. other_rank 0 2 1 part proper both.1 (λ same. omega arith) (λ same. omega arith))
      (λ both. not_proper 0 2 part proper both.0 both.1)
      incoherent;
}

pub repeat_spares_its_first : IsSpared IsRepeated 0
repeat_spares_its_first accused =
    let last = accused_opens IsRepeated 0 accused in
    let not_later : (rank : ℕ) → 0 < rank → Contains last.conflict rank → ⊥ = λ rank later held. let before = (last.others rank held (λ same. omega arith)).0 in omega arith in
    ⊎_elim (λ both. not_later 1 (omega arith) both.1) (λ both. not_later 2 (omega arith) both.1) last.is_conflict.together

pub repeat_accuses_one : IsAccused IsRepeated 1
repeat_accuses_one = second_accused IsRepeated 0 1 (omega arith) repeat_conflict_with_one repeat_spares_its_first

pub repeat_accuses_two : IsAccused IsRepeated 2
repeat_accuses_two = second_accused IsRepeated 0 2 (omega arith) repeat_conflict_with_two repeat_spares_its_first

-- each conflict of the repeat holds rank 1 or rank 2, which is accused, so it is the last
pub repeat_accuses_no_other : (rank : ℕ) → IsAccused IsRepeated rank → (rank ≡ 1) ⊎ (rank ≡ 2)
repeat_accuses_no_other rank accused =
    let last = accused_opens IsRepeated rank accused in
    let is_last : (other : ℕ) → Contains last.conflict other → IsAccused IsRepeated other → rank ≡ other = λ other held other_accused.
    ⊎_elim (λ same. same) (λ differs. absurd ((last.others other held (λ same. differs (sym same))).1 other_accused)) (cases_eq rank other) in
    ⊎_elim (λ both. inl (is_last 1 both.1 repeat_accuses_one)) (λ both. inr (is_last 2 both.1 repeat_accuses_two)) last.is_conflict.together
