use Rattle.rank_order.proofs.ConfidenceLaws.{no_decimal, parts_are, whole_digits, fraction_are_digits, exponent_are, read_from, refused_from}
use Rattle.rank_order.proofs.confidence.Confidence.read.Goals as goal

pub returns-in_default-clause-refused : goal.returns-in_default-clause-refused
returns-in_default-clause-refused c = no_decimal c.args.text.now c.in_default.ensures

pub units_of-requires-clause-whole : goal.units_of-requires-clause-whole
units_of-requires-clause-whole c = whole_digits _ _ (parts_are c.args.text.now c.in-Some.decimal c.in-Some.ensures)

pub units_of-requires-clause-fraction : goal.units_of-requires-clause-fraction
units_of-requires-clause-fraction c = fraction_are_digits _ _ (parts_are c.args.text.now c.in-Some.decimal c.in-Some.ensures)

pub units_of-requires-clause-exponent : goal.units_of-requires-clause-exponent
units_of-requires-clause-exponent c = exponent_are _ _ (parts_are c.args.text.now c.in-Some.decimal c.in-Some.ensures)

pub returns-in-Some-units_of-clause-read : goal.returns-in-Some-units_of-clause-read
returns-in-Some-units_of-clause-read c = read_from _ _ (parts_are c.args.text.now c.in-Some.decimal c.in-Some.ensures) c.in-Some-units_of.units c.in-Some-units_of.ensures.units

pub returns-in-None-clause-refused : goal.returns-in-None-clause-refused
returns-in-None-clause-refused c = refused_from _ _ (parts_are c.args.text.now c.in-Some.decimal c.in-Some.ensures) c.in-None.ensures.none
