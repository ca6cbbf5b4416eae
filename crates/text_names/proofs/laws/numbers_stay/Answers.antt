use Rattle.text_names.proofs.StayLaws.{added_stays, next_stays, held_stays, held_by_more}
use Rattle.text_names.proofs.laws.numbers_stay.Goals as goal

pub returns : goal.returns
returns c = record { added = added_stays; next = next_stays; held = held_stays; held_by_more = held_by_more }
