use Rattle.ofn_heads.proofs.PieceLaws.{piece_whole}
use Rattle.ofn_heads.proofs.laws.pieces_are_of_the_text.Goals as goal

pub returns : goal.returns
returns c = piece_whole
