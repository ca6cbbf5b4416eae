use Rattle.std.proofs.Common.{◌≡◌, ◌∷◌, [], ◌++◌, List, sym, ap, ◌∙◌, append_assoc, length, arith}
use Rattle.std.specs.Vec.Iter.{into_iter_items}
use Rattle.spec_workers.specs.declared.types.Worked.{Worked}
use Rattle.diagnosis.proofs.JoinLaws.{joined_more}
use Rattle.diagnosis.proofs.joining.join_parts.Goals as goal

pub loop-worked-preserved : goal.loop-worked-preserved
loop-worked-preserved c =
    let at = c.loop-worked in
    let worked = c.in-Some.worked in
    let left = into_iter_items c.next.new.self in
    let steps : into_iter_items at.worked-iterator ≡ worked ∷ left = c.in-Some.ensures.steps.0 in
    let gone = c.in-Some.ensures.steps.1 in
    let was = at.invariant.count in
    let short = ap length steps in
    record {
      rest =
          append_assoc at.yielded (worked ∷ []) left
          ∙ (ap (λ (l : List Worked). at.yielded ++ l) (sym steps) ∙ at.invariant.rest);
      joined = joined_more c.args.lock.now c.args.word.now at.yielded worked c.args.first.now at.first c.join_part.new.first
          at.invariant.joined c.in_ok-join_part.ensures;
      count = omega (arith, gone, was, short);
    }
