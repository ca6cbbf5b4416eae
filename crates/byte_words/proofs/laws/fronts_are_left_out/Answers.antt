use Rattle.byte_words.proofs.FrontLaws.{front_found, front_whole, front_missing}
use Rattle.byte_words.proofs.laws.fronts_are_left_out.Goals as goal

pub returns : goal.returns
returns c = record { found = front_found; whole = front_whole; missing = front_missing }
