-- What each change puts at the end of the kept ranks.
use Rattle.std.proofs.Common.{◌≡◌, ℕ, ◌<◌, true, false, List, [], ◌∷◌, ◌++◌, length, set, arith}
use Rattle.std.proofs.lemmas.Bool.{false_from_ne_true}
use Rattle.accuse_core.specs.declared.mark.Mark.{Mark}
use Rattle.accuse_core.specs.Marks.{is_kept, is_decided, is_yes_over, mark_at, kept_of, number_kept, front_of, with_kept, with_block, block_of, settled}
use Rattle.accuse_core.specs.Sound.{AreKeptBeforeFront}
use Rattle.accuse_core.specs.Inside.Tracking.{NoneKeptFrom}
use Rattle.accuse_core.proofs.RankLaws.{ranks_set_failing}
use Rattle.accuse_core.proofs.FrontLaws.{front_within}
use Rattle.accuse_core.proofs.TrackLaws.{undecided_is_not_kept}
use Rattle.accuse_core.proofs.MarkLaws.{into_kept, kept_grows, block_grows}
use Rattle.accuse_core.proofs.SoundLaws.{waits, noted_inside}

none_ahead : (marks : List Mark) → AreKeptBeforeFront marks → NoneKeptFrom marks (front_of marks)
none_ahead marks before rank past = false_from_ne_true (is_kept (mark_at marks rank)) (λ kept. let low = before rank (into_kept marks rank kept) in omega arith)

pub front_grows : (marks : List Mark) → AreKeptBeforeFront marks → front_of marks < length marks
    → kept_of (with_kept marks (front_of marks)) ≡ kept_of marks ++ front_of marks ∷ []
front_grows marks before inside = kept_grows marks (front_of marks) inside (none_ahead marks before)

pub block_adds : (marks : List Mark) (count : ℕ) → AreKeptBeforeFront marks
    → kept_of (with_block marks (front_of marks) count) ≡ kept_of marks ++ block_of marks (front_of marks) count
block_adds marks count before = block_grows marks (front_of marks) count (front_within marks) (none_ahead marks before)

-- a mark that isn't kept, in the place of one that isn't decided, adds nothing
pub set_adds_nothing : (marks : List Mark) (rank : ℕ) (mark : Mark) → is_decided (mark_at marks rank) ≡ false → is_kept mark ≡ false
    → kept_of (set marks rank mark) ≡ kept_of marks
set_adds_nothing marks rank mark undecided not_kept = ranks_set_failing is_kept 0 marks rank mark (undecided_is_not_kept (mark_at marks rank) undecided) not_kept

pub waiting_grows : (marks : List Mark) → AreKeptBeforeFront marks
    → is_yes_over (number_kept marks) (mark_at marks (front_of marks)) ≡ true → kept_of (settled marks) ≡ kept_of marks ++ front_of marks ∷ []
waiting_grows marks before yes_over =
    let k = waits (number_kept marks) (mark_at marks (front_of marks)) yes_over in
    rw yes_over (front_grows marks before (noted_inside marks (front_of marks) k.seen k.is))
