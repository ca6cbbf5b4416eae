-- What valid evidence shows.
use Rattle.std.proofs.Common.{◌≡◌, ℕ, true, ◌<◌, List, [], All, Contains, length, get_or, ap, subst, ◌∙◌}
use Rattle.std.specs.Prelude.{◌↔◌, nat_lt}
use Rattle.std.specs.List.{filter}
use Rattle.std.proofs.lemmas.Bool.{ltb-true}
use Rattle.std.proofs.lemmas.List.Elements.{All-contains, All-contains_itself, All-filter, All-push, All-weaker, filter_passes}
use Rattle.conflict_logic.specs.Sets.{IsClosedUnderAdding}
use Rattle.conflict_logic.specs.Certificate.{IsCertified, IsRefuted}
use Rattle.el_logic.specs.declared.types.Interp.{Interp}
use Rattle.el_logic.specs.declared.types.Part.{Part}
use Rattle.el_logic.specs.Incoherent.{IsIncoherent}
use Rattle.derivation.specs.declared.types.Step.{Step}
use Rattle.derivation.specs.Steps.{IsGoodDerivation}
use Rattle.accuse_core.specs.Marks.{is_kept}
use Rattle.case_file.specs.Cases.{CaseView, IsCase}
use Rattle.case_file.specs.Incoherence.{IsIncoherentFor, axioms_for}
use Rattle.evidence_text.specs.declared.types.Removed.{Removed}
use Rattle.valid_evidence.specs.Rows.{IsOnce, decided_marks, ranks_left, ranks_up_to, rank_of_row, steps_by_rank}
use Rattle.valid_evidence.specs.Items.{IsShownEmpty, HasModelForm, HoldInModel, HaveMembers}
use Rattle.valid_evidence.specs.Shown.{AreIncoherentWith}
use Rattle.valid_evidence.proofs.RankLaws.{ranks_ascend, rank_of_place}
use Rattle.valid_evidence.proofs.RowLaws.{KeptHaveMark, removed_row, kept_is_inside, not_kept}

-- a case that excuses no class is incoherent if its axioms are
abbrev pub ExcusingNone : Type 0
ExcusingNone = (case : CaseView) (part : Part) (ranks : List ℕ) → case.excused ≡ []
    → IsIncoherentFor case part ranks ↔ IsIncoherent case.classes case.properties (axioms_for case part ranks)

-- a good derivation shows incoherence
abbrev pub GoodShow : Type 0
GoodShow = (case : CaseView) (part : Part) (ranks : List ℕ) (steps : List Step) → IsCase case → All (λ rank. rank < length case.order) ranks
    → IsGoodDerivation case part ranks steps → IsIncoherentFor case part ranks

-- more rows stay incoherent
abbrev pub MoreRowsStay : Type 0
MoreRowsStay = (case : CaseView) (part : Part) (ranks more : List ℕ) → ((rank : ℕ) → Contains ranks rank → Contains more rank)
    → IsIncoherentFor case part ranks → IsIncoherentFor case part more

-- of some ranks those before one are before it, and among them
before_is : (kept : List ℕ) (rank other : ℕ) → Contains (filter (λ o. nat_lt o rank) kept) other → (other < rank) × Contains kept other
before_is kept rank other held = (
  ltb-true other rank (All-contains (λ o. nat_lt o rank ≡ true) (filter (λ o. nat_lt o rank) kept) other (filter_passes (λ o. nat_lt o rank) kept) held),
  All-contains (Contains kept) (filter (λ o. nat_lt o rank) kept) other (All-filter (λ o. nat_lt o rank) (Contains kept) kept (All-contains_itself kept)) held,
)

module _ (excusing : ExcusingNone) (good : GoodShow) (more : MoreRowsStay) (law : KeptHaveMark) (case : CaseView) (is : IsCase case) (plain : case.excused ≡ []) where
  -- more ranks never make ranks coherent
  pub is_closed : IsClosedUnderAdding (AreIncoherentWith case)
  is_closed part whole within h =
      (excusing case Part.Both whole plain).0 (more case Part.Both part whole within ((excusing case Part.Both part plain).1 h))

  module _ (once : IsOnce case.order) (removed : List Removed) (each : All (IsShownEmpty case removed) removed) where
    abbrev pub kept : List ℕ
    kept = ranks_left removed case.order

    -- ranks before a rank and it itself are ranks
    up_to_inside : (rank : ℕ) → rank < length case.order → All (λ r. r < length case.order) (ranks_up_to kept rank)
    up_to_inside rank inside =
        All-push (λ r. r < length case.order) (filter (λ o. nat_lt o rank) kept) rank
        (All-weaker (Contains kept) (λ r. r < length case.order) (λ r held. kept_is_inside law removed case.order r held) (filter (λ o. nat_lt o rank) kept)
        (All-filter (λ o. nat_lt o rank) (Contains kept) kept (All-contains_itself kept))) inside

    -- the kept ranks before a removed one refute it
    refuted : (rank : ℕ) → rank < length case.order → ¬ (Contains kept rank) → IsRefuted (AreIncoherentWith case) (Contains kept) rank
    refuted rank inside gone =
        let r = removed_row removed (get_or case.order rank 0) (not_kept law removed case.order rank inside gone) in
        let shown : IsShownEmpty case removed r.0 = All-contains (IsShownEmpty case removed) removed r.0 each r.1 in
        let number : rank_of_row case.order r.0.row ≡ rank = ap (rank_of_row case.order) r.2 ∙ rank_of_place case.order rank once inside in
        let derived : IsGoodDerivation case Part.Both (ranks_up_to kept rank) (steps_by_rank case.order r.0.steps)
        = subst (λ n. IsGoodDerivation case Part.Both (ranks_up_to kept n) (steps_by_rank case.order r.0.steps)) number shown in
        record {
          others = filter (λ o. nat_lt o rank) kept;
          each = before_is kept rank;
          together = (excusing case Part.Both (ranks_up_to kept rank) plain).0
              (good case Part.Both (ranks_up_to kept rank) (steps_by_rank case.order r.0.steps) is (up_to_inside rank inside) derived);
        }

    -- so removed rows with good derivations and a model of the others are a certificate
    pub certified : (model : Interp) → HasModelForm case model → HoldInModel case removed model → HaveMembers case model
        → IsCertified (AreIncoherentWith case) (length case.order) kept
    certified model form holds members = record {
      ascending = ranks_ascend is_kept 0 (decided_marks removed case.order);
      below = λ rank held. kept_is_inside law removed case.order rank held;
      coherent = λ bad.
          let empty = (excusing case Part.Both kept plain).1 bad in
          let member = members empty.0 empty.1 in
          empty.2 model (record { fits = form; holds = holds }) member.0 member.1;
      refuted = refuted;
    }
