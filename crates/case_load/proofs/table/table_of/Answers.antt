use Rattle.case_load.proofs.TableLaws.{table_stop}
use Rattle.case_load.proofs.table.table_of.Goals as goal

pub returns-in-Err-clause-fault : goal.returns-in-Err-clause-fault
returns-in-Err-clause-fault c = table_stop c.args.most_rows c.args.map.now c.in-Err.fault c.of_table.result c.of_table.ensures c.in-Err.ensures.answer
