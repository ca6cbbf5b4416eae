-- What is decided stays so.
use Rattle.std.proofs.Common.{◌≡◌, ℕ, ◌+◌, ◌<◌, ◌≤◌, true, false, ⊎_elim, List, length, set, refl, ap, sym, ◌∙◌, eqb, ltb, leb, get_or-set_other}
use Rattle.std.proofs.lemmas.Bool.{cases_lt, cases_eq, cases_Bool, both_ways}
use Rattle.accuse_core.specs.declared.mark.Mark.{Mark}
use Rattle.accuse_core.specs.declared.mark.Mark.TheVariants.{Open, Yes, Kept, Removed}
use Rattle.accuse_core.specs.declared.event.Event.{Event}
use Rattle.accuse_core.specs.Marks.{is_decided, is_yes_over, mark_at, number_kept, front_of, kept_unless_removed, with_block, settled}
use Rattle.accuse_core.specs.Events.{outcome, on_take, on_take_front, on_no, on_yes}
use Rattle.accuse_core.proofs.BlockLaws.{block_before, block_within, block_past}
use Rattle.accuse_core.proofs.MarkLaws.{open_past}
use Rattle.accuse_core.proofs.SoundLaws.{waits}

-- a decided rank stays as it is where another one, which isn't decided, gets a mark
set_stays : (marks : List Mark) (at : ℕ) (mark : Mark) (rank : ℕ) → is_decided (mark_at marks at) ≡ false → is_decided (mark_at marks rank) ≡ true
    → mark_at (set marks at mark) rank ≡ mark_at marks rank
set_stays marks at mark rank undecided decided = ⊎_elim
    (λ (same : rank ≡ at). absurd (both_ways (is_decided (mark_at marks at)) undecided (ap (λ r. is_decided (mark_at marks r)) (sym same) ∙ decided)))
    (λ (differs : rank ≡ at → ⊥). rw get_or-set_other refl)
    (cases_eq rank at)

settled_stays : (marks : List Mark) (rank : ℕ) → is_decided (mark_at marks rank) ≡ true → mark_at (settled marks) rank ≡ mark_at marks rank
settled_stays marks rank decided = ⊎_elim
    (λ (yes_over : is_yes_over (number_kept marks) (mark_at marks (front_of marks)) ≡ true).
    let k = waits (number_kept marks) (mark_at marks (front_of marks)) yes_over in
    rw yes_over (set_stays marks (front_of marks) Kept rank (ap is_decided k.is) decided))
    (λ (not_over : is_yes_over (number_kept marks) (mark_at marks (front_of marks)) ≡ false). rw not_over refl)
    (cases_Bool (is_yes_over (number_kept marks) (mark_at marks (front_of marks))))

-- a mark in the place of an undecided one, and then the front
change_stays : (marks : List Mark) (at : ℕ) (mark : Mark) (rank : ℕ) → is_decided (mark_at marks at) ≡ false → is_decided (mark_at marks rank) ≡ true
    → mark_at (settled (set marks at mark)) rank ≡ mark_at marks rank
change_stays marks at mark rank undecided decided =
    let same = set_stays marks at mark rank undecided decided in
    settled_stays (set marks at mark) rank (ap is_decided same ∙ decided) ∙ same

kept_unless_removed_stays : (mark : Mark) → is_decided mark ≡ true → kept_unless_removed mark ≡ mark
kept_unless_removed_stays Open decided = cc
kept_unless_removed_stays (Yes seen) decided = cc
kept_unless_removed_stays Kept decided = refl
kept_unless_removed_stays Removed decided = refl

decided_inside : (marks : List Mark) (rank : ℕ) → is_decided (mark_at marks rank) ≡ true → rank < length marks
decided_inside marks rank decided = ⊎_elim
    (λ (inside : rank < length marks). inside)
    (λ (outside : length marks ≤ rank). absurd (both_ways (is_decided (mark_at marks rank)) (ap is_decided (open_past marks rank outside)) decided))
    (cases_lt rank (length marks))

block_stays : (marks : List Mark) (first count rank : ℕ) → is_decided (mark_at marks rank) ≡ true → mark_at (with_block marks first count) rank ≡ mark_at marks rank
block_stays marks first count rank decided = ⊎_elim
    (λ (low : rank < first). block_before marks first count rank low)
    (λ (high : first ≤ rank). ⊎_elim
    (λ (below : rank < first + count). block_within marks first count rank high below (decided_inside marks rank decided) ∙ kept_unless_removed_stays (mark_at marks rank) decided)
    (λ (above : first + count ≤ rank). block_past marks first count rank above)
    (cases_lt rank (first + count)))
    (cases_lt rank first)

yes_stays : (marks : List Mark) (at seen rank : ℕ) → is_decided (mark_at marks rank) ≡ true → mark_at (on_yes marks at seen).marks rank ≡ mark_at marks rank
yes_stays marks at seen rank decided = ⊎_elim
    (λ (late : is_decided (mark_at marks at) ≡ true). rw late refl)
    (λ (undecided : is_decided (mark_at marks at) ≡ false). ⊎_elim
    (λ (stale : ltb seen (number_kept marks) ≡ true). rw (undecided, stale) refl)
    (λ (fresh : ltb seen (number_kept marks) ≡ false). ⊎_elim
    (λ (here : eqb at (front_of marks) ≡ true). rw (undecided, fresh, here) (change_stays marks at Kept rank undecided decided))
    (λ (elsewhere : eqb at (front_of marks) ≡ false). ⊎_elim
    (λ (far : leb (front_of marks + 64) at ≡ true). rw (undecided, fresh, elsewhere, far) refl)
    (λ (near : leb (front_of marks + 64) at ≡ false). rw (undecided, fresh, elsewhere, near) (change_stays marks at (Yes seen) rank undecided decided))
    (cases_Bool (leb (front_of marks + 64) at)))
    (cases_Bool (eqb at (front_of marks))))
    (cases_Bool (ltb seen (number_kept marks))))
    (cases_Bool (is_decided (mark_at marks at)))

-- asking leaves the marks
pub take_stays : (marks : List Mark) (at : ℕ) → (on_take marks at).marks ≡ marks
take_stays marks at = ⊎_elim
    (λ (over : is_decided (mark_at marks at) ≡ true). rw over refl)
    (λ (undecided : is_decided (mark_at marks at) ≡ false). rw undecided refl)
    (cases_Bool (is_decided (mark_at marks at)))

-- so does asking for the front
pub take_front_stays : (marks : List Mark) → (on_take_front marks).marks ≡ marks
take_front_stays marks = ⊎_elim
    (λ (done : eqb (front_of marks) (length marks) ≡ true). rw done refl)
    (λ (more : eqb (front_of marks) (length marks) ≡ false). rw more refl)
    (cases_Bool (eqb (front_of marks) (length marks)))

no_stays : (marks : List Mark) (at rank : ℕ) → is_decided (mark_at marks rank) ≡ true → mark_at (on_no marks at).marks rank ≡ mark_at marks rank
no_stays marks at rank decided = ⊎_elim
    (λ (late : is_decided (mark_at marks at) ≡ true). rw late refl)
    (λ (undecided : is_decided (mark_at marks at) ≡ false). rw undecided (change_stays marks at Removed rank undecided decided))
    (cases_Bool (is_decided (mark_at marks at)))

-- whatever event comes, a decided rank keeps its mark
pub decided_stays : (marks : List Mark) (event : Event) (rank : ℕ) → is_decided (mark_at marks rank) ≡ true
    → mark_at (outcome marks event).marks rank ≡ mark_at marks rank
decided_stays marks (Event.Take worker at) rank decided = ap (λ now. mark_at now rank) (take_stays marks at)
decided_stays marks (Event.TakeFront worker) rank decided = ap (λ now. mark_at now rank) (take_front_stays marks)
decided_stays marks (Event.No worker at seen) rank decided = no_stays marks at rank decided
decided_stays marks (Event.Yes worker at seen) rank decided = yes_stays marks at seen rank decided
decided_stays marks (Event.Block worker first count seen) rank decided =
    let same = block_stays marks first count rank decided in
    settled_stays (with_block marks first count) rank (ap is_decided same ∙ decided) ∙ same
