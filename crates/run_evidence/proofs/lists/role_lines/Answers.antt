use Rattle.valid_evidence.specs.Items.{line_of_role}
use Rattle.run_evidence.proofs.Loops.{mapped_more}
use Rattle.run_evidence.proofs.lists.role_lines.Goals as goal

pub loop-r-preserved : goal.loop-r-preserved
loop-r-preserved c =
    let more = mapped_more (line_of_role c.args.properties.now.names) c.args.store.now.roles c.loop-r.r c.role-role.result c.role-role.ensures in
    cc (c.in_ok-push.ensures.items, c.in_ok-line.ensures)
