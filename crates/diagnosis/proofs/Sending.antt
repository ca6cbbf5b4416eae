-- What workers are given and give back may be sent to a thread.
use denote.Param.Send.{IsSend, IsSync, sendable}
use denote.Param.SendFields.{declared_send}
use Rattle.std.proofs.Crossing.{crosses}
use Rattle.book_threads.proofs.Sending.{seat_send}
use Rattle.commit_lock.specs.contracts.draw_word.DrawPass as Pass
use Rattle.commit_lock.specs.contracts.draw_word.DrawWord as Word
use Rattle.commit_lock.proofs.draw_word.DrawPass.TheSendSync as pass
use Rattle.commit_lock.proofs.draw_word.DrawWord.TheSendSync as word
use Rattle.spec_workers.specs.contracts.types.WorkEnd as End
use Rattle.spec_workers.specs.contracts.types.Worked as Worked
use Rattle.diagnosis.specs.contracts.parts.Part as Part

-- a pass may be sent
pub pass_send : IsSend Pass.the_row
pass_send = pass.the_send

-- a draw word may be shared
pub word_sync : IsSync Word.the_row
word_sync = word.the_sync

-- why a worker ended may be sent
pub end_send : IsSend End.the_row
end_send = search (sendable, crosses) depth 40 fits 4000

-- a part may be sent
pub part_send : IsSend Part.the_row
part_send = declared_send Part.the_type (seat_send, (pass_send, tt))

-- what a worker gives back may be sent
pub worked_send : IsSend Worked.the_row
worked_send = declared_send Worked.the_type (seat_send, (pass_send, (end_send, tt)))
