use Rattle.std.proofs.Common.{◌≡◌, drop}
use Rattle.sssom_rows.specs.Records.{are_texts}
use Rattle.sssom_rows.proofs.records.are_texts.Given as goal

abbrev pub invariant-loop-place : goal.invariant-loop-place
invariant-loop-place l = are_texts (drop l.place l.fields) ≡ are_texts l.fields
