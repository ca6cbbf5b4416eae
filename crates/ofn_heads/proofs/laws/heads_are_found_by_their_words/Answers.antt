use Rattle.ofn_heads.proofs.Found.{head_found, head_word}
use Rattle.ofn_heads.proofs.laws.heads_are_found_by_their_words.Goals as goal

pub returns : goal.returns
returns c = record { found = head_found; word = head_word }
