-- The opening: no rank is kept, and nothing is held.
use Rattle.std.proofs.Common.{◌≡◌, ℕ, zero, suc, List, [], ◌∷◌, length, map, get_or, Contains, arith, refl, ap, sym, subst, ◌∙◌}
use Rattle.std.specs.Prelude.{replicate, None}
use Rattle.case_file.specs.Cases.{CaseView, IsCase}
use Rattle.closed_model.specs.ClosedTables.{TableView, IsClosedTable}
use Rattle.accuse_core.specs.declared.mark.Mark.{Mark}
use Rattle.accuse_core.specs.declared.mark.Mark.TheVariants.{Open}
use Rattle.accuse_core.specs.declared.journal.Entry.{Entry}
use Rattle.accuse_core.specs.Marks.{is_kept, ranks_from, opening, kept_of}
use Rattle.accuse_core.specs.Sound.{AreKeptBeforeFront}
use Rattle.commit_book.specs.declared.held.Held.{Held}
use Rattle.commit_book.specs.declared.held.Held.TheVariants.{Nothing}
use Rattle.commit_book.specs.Books.{ranks_of}
use Rattle.commit_book.specs.Inside.Holdings.{why_of, AreBacked, IsKept}

length-replicate : {X : Type 0} (n : ℕ) (x : X) → length (replicate n x) ≡ n
length-replicate zero x = refl
length-replicate (suc n) x = ap suc (length-replicate n x)

-- a place of equal items has the item
same_at : {X : Type 0} (n k : ℕ) (x : X) → get_or (replicate n x) k x ≡ x
same_at zero k x = refl
same_at (suc n) zero x = refl
same_at (suc n) (suc k) x = same_at n k x

none_kept : (rank count : ℕ) → ranks_from is_kept rank (replicate count Open) ≡ []
none_kept rank zero = refl
none_kept rank (suc count) = none_kept (suc rank) count

open_backed : (case : CaseView) (kept : List ℕ) (ranks : ℕ) → AreBacked case kept (opening ranks) (replicate ranks Nothing)
open_backed case kept ranks rank = rw (same_at ranks rank Open, same_at ranks rank Nothing) tt

-- so none is kept past the front
pub opening_ahead : (ranks : ℕ) → AreKeptBeforeFront (opening ranks)
opening_ahead ranks rank there =
    let found : Contains [] rank = subst (λ (kept : List ℕ). Contains kept rank) (none_kept 0 ranks) there in
    let within = found.1 in absurd (omega arith)

-- nothing is held, so no rank has a derivation
pub no_whys : (count : ℕ) → map why_of (replicate count Nothing) ≡ replicate count None
no_whys zero = refl
no_whys (suc count) = ap (λ whys. None ∷ whys) (no_whys count)

opening_is_kept : (case : CaseView) (table : TableView) → IsCase case → IsClosedTable table → table.case ≡ case → table.ranks ≡ []
    → IsKept case (opening (ranks_of case)) [] (replicate (ranks_of case) Nothing) table
opening_is_kept case table is_case closed same none =
    let ranks = ranks_of case in
    record {
      case_is = is_case;
      journal = record { allowed = tt; replied = tt };
      core = refl;
      ranks = length-replicate ranks Open;
      count = length-replicate ranks Nothing ∙ sym (length-replicate ranks Open);
      settled = record {
        backed = open_backed case (kept_of (opening ranks)) ranks;
        is_for = record { case_is = same; ranks_are = none ∙ sym (none_kept 0 ranks) };
        closed = closed;
      };
    }

-- the same of values that are known to be these
pub opening_kept : (case : CaseView) (marks : List Mark) (entries : List Entry) (held : List Held) (table : TableView)
    → IsCase case → IsClosedTable table → table.case ≡ case → table.ranks ≡ []
    → marks ≡ opening (ranks_of case) → entries ≡ [] → held ≡ replicate (ranks_of case) Nothing → IsKept case marks entries held table
opening_kept case marks entries held table is_case closed same none marks_are entries_are held_are =
    rw (marks_are, entries_are, held_are) (opening_is_kept case table is_case closed same none)
