use Rattle.rule_steps.proofs.RowLaws.{closed_later, begun_later, derived_for_more}
use Rattle.rule_steps.proofs.laws.further_rows_need_only_their_inclusions.Goals as goal

pub returns-clause-closed : goal.returns-clause-closed
returns-clause-closed c grounds olds first p facts rows split closed answered = closed_later grounds olds first p facts rows split closed answered

pub returns-clause-begun : goal.returns-clause-begun
returns-clause-begun c grounds olds first n facts rows split begun = begun_later grounds olds first n facts rows split begun

pub returns-clause-derived : goal.returns-clause-derived
returns-clause-derived c grounds more items wider derived = derived_for_more grounds more items wider derived
