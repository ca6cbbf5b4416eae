use contract.Lifetimes.{Lfts}
use denote.Param.{param}
use denote.Param.Send.{IsSync, sendable}
use Rattle.book_threads.proofs.Parts.{pair_up}
use Rattle.book_threads.proofs.Sending.{lock_sync}
use Rattle.diagnosis.proofs.Sending.{part_send, worked_send, word_sync}
use Rattle.diagnosis.proofs.splitting.work_side_by_side.Given as given
use Rattle.diagnosis.proofs.splitting.work_side_by_side.Lts as lts
use Rattle.diagnosis.proofs.splitting.work_side_by_side.Goals as goal

-- the work of one worker may be shared
work_sync : (g : given.Over) (κs : Lfts 13) → IsSync (param 0 g.row.R) → IsSync (param 1 g.row.G)
    → IsSync (param 4 (lts.arg-0-4 g.row.R g.row.G g.R.laws g.G.laws g.R.Threads-dict g.R.Wait-dict g.G.Gate-dict κs))
work_sync g κs rt gate = search (lock_sync, word_sync, pair_up, sendable) depth 40 fits 20000

pub map_vec-requires-send-J : goal.map_vec-requires-send-J
map_vec-requires-send-J g c κs within = search (part_send, sendable)

pub map_vec-requires-send-X : goal.map_vec-requires-send-X
map_vec-requires-send-X g c κs within = search (worked_send, sendable)

pub map_vec-requires-sync-F : goal.map_vec-requires-sync-F
map_vec-requires-sync-F g c κs within = work_sync g κs c.type_bounds.sync-R c.type_bounds.sync-G
