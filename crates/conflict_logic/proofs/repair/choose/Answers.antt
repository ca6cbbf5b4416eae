use Rattle.std.proofs.Common.{◌≡◌, ◌<◌, ◌+◌, [], ◌∷◌, ◌++◌, All, subst, sym, ◌∙◌, ap}
use Rattle.std.proofs.lemmas.Bool.{OnTrue_at, OnFalse_at}
use Rattle.std.proofs.lemmas.List.Elements.{Contains-get_or}
use Rattle.conflict_logic.specs.Repair.{IsRepair}
use Rattle.conflict_logic.proofs.RepairLaws.{repair_with, repair_without}
use Rattle.conflict_logic.proofs.repair.choose.Goals as goal
use Rattle.conflict_logic.proofs.repair.choose.Goals.{then-accepted+in_ok-push, else-accepted}

pub accept-requires-clause-later : goal.accept-requires-clause-later
accept-requires-clause-later g c =
    let so_far = c.loop-rank.invariant in
    subst (All (λ before. before < c.loop-rank.rank)) (sym so_far.same) (λ k d within. so_far.repair.below _ (Contains-get_or c.loop-rank.kept.items k d within))

pub loop-rank-preserved : goal.loop-rank-preserved
loop-rank-preserved g c =
    let incoherent = g.T.Family.incoherent c.args.test.now in
    let closed = g.met.T.CoherenceTest.closed c.args.test.now in
    let so_far = c.loop-rank.invariant in
    let rank = c.loop-rank.rank in
    let kept = c.loop-rank.kept.items in
    elim c.if-accepted.branch [
      | then-accepted+in_ok-push w ↦
          let says = OnTrue_at w.if-accepted.true c.in_ok-accepted.ensures.accepted in
          let longer : c.if-accepted.kept.items ≡ kept ++ rank ∷ [] = ◌∙◌ {c = kept ++ rank ∷ []} (ap (λ vec. vec.items) w.kept-is) w.in_ok-push.ensures.items in
          record {
            repair = subst (IsRepair incoherent (rank + 1)) (sym longer) (repair_with incoherent closed rank kept so_far.repair (subst (λ ranks. ¬ (incoherent (ranks ++ rank ∷ []))) so_far.same says.0));
            state = c.in_ok-accepted.ensures.state;
            same = says.1 ∙ ◌∙◌ {c = c.if-accepted.kept.items} (ap (λ ranks. ranks ++ rank ∷ []) so_far.same) (sym longer);
          }
      | else-accepted w ↦
          let says = OnFalse_at w.if-accepted.false c.in_ok-accepted.ensures.refused in
          let unchanged : c.if-accepted.kept.items ≡ kept = ap (λ vec. vec.items) w.kept-is in
          record {
            repair = subst (IsRepair incoherent (rank + 1)) (sym unchanged) (repair_without incoherent closed rank kept so_far.repair (subst (λ ranks. incoherent (ranks ++ rank ∷ [])) so_far.same says.0));
            state = c.in_ok-accepted.ensures.state;
            same = says.1 ∙ so_far.same ∙ sym unchanged;
          }
    ]
