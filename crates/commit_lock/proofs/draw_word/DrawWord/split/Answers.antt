use Rattle.std.proofs.Common.{rules}
use Rattle.commit_lock.proofs.DrawSteps.{splits}
use Rattle.commit_lock.proofs.draw_word.DrawWord.split.Goals as goal

pub split_seat-token-requires : goal.split_seat-token-requires
split_seat-token-requires c = (c.requires.word, search rules, splits _ _ _ _ c.args.pass.now.live c.requires.room)
