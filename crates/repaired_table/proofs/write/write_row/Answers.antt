use Rattle.repaired_table.proofs.WriteLaws.{one_written}
use Rattle.repaired_table.proofs.write.write_row.Goals as goal

pub returns : goal.returns
returns g c = λ text held.
    let did = c.in-Ok.ensures in
    rw (← c.record.ensures) (one_written _ _ _ text _ held did.setup did.ended did.clean (λ plain. did.bytes held.ended held.clean plain))
