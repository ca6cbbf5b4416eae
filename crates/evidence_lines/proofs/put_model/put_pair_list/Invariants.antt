use Rattle.std.proofs.Common.{◌≡◌, ◌++◌, drop}
use Rattle.line_fields.specs.Lines.{spaced}
use Rattle.evidence_lines.specs.Model.{pair_fields}
use Rattle.evidence_lines.proofs.put_model.put_pair_list.Given as goal

abbrev pub invariant-loop-pair : goal.invariant-loop-pair
invariant-loop-pair l =
    l.text ++ spaced (pair_fields (drop l.pair-index l.pairs)) ≡ l.fn.text ++ spaced (pair_fields l.pairs)
