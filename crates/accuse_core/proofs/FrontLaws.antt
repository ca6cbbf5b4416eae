-- The front, and marks that are put in place of others.
use Rattle.std.proofs.Common.{◌≡◌, ℕ, zero, suc, ◌+◌, ◌<◌, ◌≤◌, true, false, cond, ⊎_elim, List, [], ◌∷◌, length, set, drop, sym, subst, ◌∙◌, arith, zero-add, get_or-set_other, get_or-set_same, length-set}
use Rattle.std.specs.List.{prefix_len}
use Rattle.std.proofs.lemmas.Bool.{cond-true, cond-false, cases_Bool, cases_lt, cases_eq, both_ways}
use Rattle.std.proofs.lemmas.List.Sums.{prefix_len_passes, prefix_len_stops, prefix_len-le-length}
use Rattle.std.proofs.lemmas.List.Folds.{prefix_len-set}
use Rattle.accuse_core.specs.declared.mark.Mark.{Mark}
use Rattle.accuse_core.specs.declared.mark.Mark.TheVariants.{Open}
use Rattle.accuse_core.specs.Marks.{is_kept, is_decided, mark_at, front_of}
use Rattle.accuse_core.specs.Inside.Tracking.{NoneKeptFrom}

-- the mark at a rank after one was put in place
pub at_set : (P : Mark → Type 0) (marks : List Mark) (rank : ℕ) (mark : Mark) (other : ℕ) → rank < length marks
    → (other ≡ rank → P mark) → ((other ≡ rank → ⊥) → P (mark_at marks other)) → P (mark_at (set marks rank mark) other)
at_set P marks rank mark other inside here elsewhere = ⊎_elim
    (λ (same : other ≡ rank). subst (λ r. P (mark_at (set marks rank mark) r)) (sym same) (rw get_or-set_same (here same)))
    (λ (differs : other ≡ rank → ⊥). rw get_or-set_other (elsewhere differs))
    (cases_eq other rank)

-- before the front all is decided, and the rank there isn't
pub decided_before : (marks : List Mark) (rank : ℕ) → rank < front_of marks → is_decided (mark_at marks rank) ≡ true
decided_before marks rank before = prefix_len_passes is_decided marks rank Open before

pub open_at_front : (marks : List Mark) → front_of marks < length marks → is_decided (mark_at marks (front_of marks)) ≡ false
open_at_front marks inside = prefix_len_stops is_decided marks Open inside

pub front_within : (marks : List Mark) → front_of marks ≤ length marks
front_within marks = prefix_len-le-length is_decided marks

-- all ranks before a bound are decided: so the front isn't before it
pub front_at_least : (marks : List Mark) (bound : ℕ) → bound ≤ length marks
    → ((rank : ℕ) → rank < bound → is_decided (mark_at marks rank) ≡ true) → bound ≤ front_of marks
front_at_least marks bound inside decided = ⊎_elim
    (λ (low : front_of marks < bound). absurd (both_ways (is_decided (mark_at marks (front_of marks)))
    (prefix_len_stops is_decided marks Open (omega arith)) (decided (front_of marks) low)))
    (λ high. high)
    (cases_lt (front_of marks) bound)

-- with one more rank decided the front doesn't go back
pub front_rises : (marks : List Mark) (rank : ℕ) (mark : Mark) → rank < length marks → is_decided mark ≡ true
    → front_of marks ≤ front_of (set marks rank mark)
front_rises marks rank mark inside holds = front_at_least (set marks rank mark) (front_of marks)
    (rw length-set (prefix_len-le-length is_decided marks))
    (λ other before. at_set (λ m. is_decided m ≡ true) marks rank mark other inside (λ same. holds) (λ differs. prefix_len_passes is_decided marks other Open before))

-- a kept rank at the front moves it
pub front_passes : (marks : List Mark) (mark : Mark) → front_of marks < length marks → is_decided mark ≡ true
    → front_of marks < front_of (set marks (front_of marks) mark)
front_passes marks mark inside holds = front_at_least (set marks (front_of marks) mark) (suc (front_of marks))
    (rw length-set (omega arith))
    (λ other before. at_set (λ m. is_decided m ≡ true) marks (front_of marks) mark other inside (λ same. holds) (λ differs. prefix_len_passes is_decided marks other Open (omega arith)))

-- the search for the front may go on from any rank before which all are decided
pub front_goes_on : (marks : List Mark) (rank : ℕ) → rank ≤ front_of marks → rank + prefix_len is_decided (drop rank marks) ≡ front_of marks
front_goes_on marks zero low = zero-add (front_of marks)
front_goes_on [] (suc rank) low = absurd (omega arith)
front_goes_on (mark ∷ marks) (suc rank) low = ⊎_elim
    (λ (holds : is_decided mark ≡ true).
    let here : cond (is_decided mark) (1 + front_of marks) 0 ≡ 1 + front_of marks = cond-true (is_decided mark) (1 + front_of marks) 0 holds in
    let later = front_goes_on marks rank (omega arith) in omega arith)
    (λ (fails : is_decided mark ≡ false).
    let here : cond (is_decided mark) (1 + front_of marks) 0 ≡ 0 = cond-false (is_decided mark) (1 + front_of marks) 0 fails in absurd (omega arith))
    (cases_Bool (is_decided mark))

-- past the front nothing was kept; so after a mark that isn't kept
pub none_kept_with : (marks : List Mark) (rank first later : ℕ) (mark : Mark) → rank < length marks → is_kept mark ≡ false → first ≤ later
    → NoneKeptFrom marks first → NoneKeptFrom (set marks rank mark) later
none_kept_with marks rank first later mark inside fails above none = λ other past.
    at_set (λ m. is_kept m ≡ false) marks rank mark other inside (λ same. fails) (λ differs. none other (omega arith))

-- and past a rank that is kept
pub none_kept_past : (marks : List Mark) (rank later : ℕ) (mark : Mark) → rank < length marks → rank < later
    → NoneKeptFrom marks rank → NoneKeptFrom (set marks rank mark) later
none_kept_past marks rank later mark inside above none = λ other past.
    at_set (λ m. is_kept m ≡ false) marks rank mark other inside (λ (same : other ≡ rank). absurd (omega arith)) (λ differs. none other (omega arith))

-- and with one undecided mark in the place of another it stays
pub front_stays : (marks : List Mark) (rank : ℕ) (mark : Mark) → is_decided (mark_at marks rank) ≡ false → is_decided mark ≡ false
    → front_of marks ≤ front_of (set marks rank mark)
front_stays marks rank mark old new = let same = prefix_len-set is_decided marks rank mark Open (new ∙ sym old) in omega arith
