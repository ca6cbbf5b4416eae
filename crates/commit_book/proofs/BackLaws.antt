-- What is held for each rank, after ranks were kept and after a mark and what backs it were put.
use Rattle.std.proofs.Common.{◌≡◌, ℕ, zero, suc, ◌<◌, Bool, true, false, ⊎_elim, List, [], ◌∷◌, ◌++◌, length, set, take, Contains, refl, sym, subst, ap, ◌∙◌, arith}
use Rattle.std.specs.Prelude.{nat_lt, filter}
use Rattle.std.proofs.Math.Seq.{take-length}
use Rattle.std.proofs.lemmas.Bool.{cases_eq, cases_Bool, eqb-true, lt-ltb}
use Rattle.std.proofs.lemmas.List.{take-append-le, length-append, get_or-set_other, get_or-set_same}
use Rattle.std.proofs.lemmas.List.Elements.{filter-append, Contains-append_left, Contains-append_right, Contains-append_cases}
use Rattle.el_logic.specs.declared.types.Part.{Part}
use Rattle.case_file.specs.Cases.{CaseView}
use Rattle.closed_model.specs.ClosedTables.{TableView, IsClosedTable}
use Rattle.derivation.specs.declared.types.Step.{Step}
use Rattle.derivation.specs.Steps.{IsGoodDerivation}
use Rattle.accuse_core.specs.declared.mark.Mark.{Mark}
use Rattle.accuse_core.specs.declared.mark.Mark.TheVariants.{Open, Yes, Kept, Removed}
use Rattle.accuse_core.specs.Marks.{is_yes_over, mark_at}
use Rattle.commit_book.specs.declared.held.Held.{Held}
use Rattle.commit_book.specs.declared.held.Held.TheVariants.{Nothing, Note, Why}
use Rattle.commit_book.specs.Books.{kept_before, IsTableFor}
use Rattle.commit_book.specs.Inside.Holdings.{held_at, IsNoteFor, IsBacked, AreBacked}
use Rattle.commit_book.specs.Inside.Laws.{VerdictLaws}

-- what is in a list and passes a test is in what the test leaves
contains_filter : (p : ℕ → Bool) (xs : List ℕ) (x : ℕ) → p x ≡ true → Contains xs x → Contains (filter p xs) x
contains_filter p [] x passes (k, within, at) = absurd (omega arith)
contains_filter p (y ∷ ys) x passes (zero, within, at) =
    let first : p y ≡ true = ap p at ∙ passes in
    rw first (0, omega arith, at)
contains_filter p (y ∷ ys) x passes (suc k, within, at) = ⊎_elim
    (λ (keeps : p y ≡ true). rw keeps (Contains-append_right (y ∷ []) (filter p ys) x (contains_filter p ys x passes (k, omega arith, at))))
    (λ (drops : p y ≡ false). rw drops (contains_filter p ys x passes (k, omega arith, at)))
    (cases_Bool (p y))

-- what is in the front of a list is in the list
pub contains_take : (n : ℕ) (xs : List ℕ) (x : ℕ) → Contains (take n xs) x → Contains xs x
contains_take zero xs x (k, within, at) = absurd (omega arith)
contains_take (suc n) [] x there = there
contains_take (suc n) (y ∷ ys) x (zero, within, at) = (0, omega arith, at)
contains_take (suc n) (y ∷ ys) x (suc k, within, at) =
    let later = contains_take n ys x (k, omega arith, at) in (suc later.0, omega (arith, later.1), later.2)

-- a list is within another, with the same rank after both
with_rank : (xs ys : List ℕ) (rank : ℕ) → ((x : ℕ) → Contains xs x → Contains ys x) → (x : ℕ) → Contains (xs ++ rank ∷ []) x → Contains (ys ++ rank ∷ []) x
with_rank xs ys rank within x there = ⊎_elim
    (λ first. Contains-append_left ys (rank ∷ []) x (within x first))
    (λ last. Contains-append_right ys (rank ∷ []) x last)
    (Contains-append_cases xs (rank ∷ []) x there)

module _ (case : CaseView) (laws : VerdictLaws case) where
  -- a table over the first kept ranks stays one when more are kept
  note_more : (kept more : List ℕ) (seen rank : ℕ) (table : TableView) → IsNoteFor case kept seen rank table → IsNoteFor case (kept ++ more) seen rank table
  note_more kept more seen rank table note =
      let few = note.few in
      record {
        few = omega (arith, length-append kept more);
        is_for = record {
          case_is = note.is_for.case_is;
          ranks_are = note.is_for.ranks_are ∙ ap (λ ranks. ranks ++ rank ∷ []) (sym (take-append-le seen kept more few));
        };
        closed = note.closed;
      }

  -- a derivation over the kept ranks before a rank stays good when more are kept
  why_more : (kept more : List ℕ) (rank : ℕ) (steps : List Step) → IsGoodDerivation case Part.Both (kept_before kept rank ++ rank ∷ []) steps
      → IsGoodDerivation case Part.Both (kept_before (kept ++ more) rank ++ rank ∷ []) steps
  why_more kept more rank steps good = laws.more (kept_before kept rank ++ rank ∷ []) (kept_before (kept ++ more) rank ++ rank ∷ []) steps
      (with_rank (kept_before kept rank) (kept_before (kept ++ more) rank) rank (λ x there.
      subst (λ (xs : List ℕ). Contains xs x) (sym (filter-append (λ other. nat_lt other rank) kept more))
      (Contains-append_left (kept_before kept rank) (kept_before more rank) x there))) good

  -- a mark stays backed when more ranks are kept
  pub backed_more : (kept more : List ℕ) (rank : ℕ) (mark : Mark) (item : Held) → IsBacked case kept rank mark item → IsBacked case (kept ++ more) rank mark item
  backed_more kept more rank Open Nothing b = b
  backed_more kept more rank Open (Note table) b = b
  backed_more kept more rank Open (Why steps) b = b
  backed_more kept more rank (Yes seen) Nothing b = b
  backed_more kept more rank (Yes seen) (Note table) b = note_more kept more seen rank table b
  backed_more kept more rank (Yes seen) (Why steps) b = b
  backed_more kept more rank Kept Nothing b = b
  backed_more kept more rank Kept (Note table) b = b
  backed_more kept more rank Kept (Why steps) b = b
  backed_more kept more rank Removed Nothing b = b
  backed_more kept more rank Removed (Note table) b = b
  backed_more kept more rank Removed (Why steps) b = why_more kept more rank steps b

  -- a derivation over some of the kept ranks, all before the rank, is one over those before it
  pub why_from_seen : (kept : List ℕ) (seen rank : ℕ) (steps : List Step) → ((other : ℕ) → Contains kept other → other < rank)
      → IsGoodDerivation case Part.Both (take seen kept ++ rank ∷ []) steps → IsBacked case kept rank Removed (Why steps)
  why_from_seen kept seen rank steps before good = laws.more (take seen kept ++ rank ∷ []) (kept_before kept rank ++ rank ∷ []) steps
      (with_rank (take seen kept) (kept_before kept rank) rank (λ x there.
      let held = contains_take seen kept x there in
      let below : x < rank = before x held in
      contains_filter (λ other. nat_lt other rank) kept x (lt-ltb x rank below) held)) good

  -- marks and what backs them, after one of each was put in place, and more ranks were kept
  pub backed_set : (kept more : List ℕ) (marks : List Mark) (held : List Held) (rank : ℕ) (mark : Mark) (item : Held)
      → rank < length marks → rank < length held → IsBacked case (kept ++ more) rank mark item
      → AreBacked case kept marks held → AreBacked case (kept ++ more) (set marks rank mark) (set held rank item)
  backed_set kept more marks held rank mark item inside held_inside here backed other = ⊎_elim
      (λ (same : other ≡ rank). subst (λ r. IsBacked case (kept ++ more) r (mark_at (set marks rank mark) r) (held_at (set held rank item) r)) (sym same)
      (rw (get_or-set_same marks rank mark Open inside, get_or-set_same held rank item Nothing held_inside) here))
      (λ (differs : other ≡ rank → ⊥).
      rw (get_or-set_other marks rank other mark Open differs, get_or-set_other held rank other item Nothing differs)
      (backed_more kept more other (mark_at marks other) (held_at held other) (backed other)))
      (cases_eq other rank)

-- the table of a rank that waits for just these kept ranks
pub record IsNoteOfAll (case : CaseView) (kept : List ℕ) (rank : ℕ) (item : Held) : Type 0 where
  pub table : TableView
  pub is_held : item ≡ Note table
  pub is_for : IsTableFor case (kept ++ rank ∷ []) table
  pub closed : IsClosedTable table

-- a mark that waits for just these kept ranks has it
pub waiting_note : (case : CaseView) (kept : List ℕ) (rank : ℕ) (mark : Mark) (item : Held) → is_yes_over (length kept) mark ≡ true
    → IsBacked case kept rank mark item → IsNoteOfAll case kept rank item
waiting_note case kept rank Open item waits b = absurd (let w = waits in cc)
waiting_note case kept rank (Yes seen) Nothing waits b = absurd b
waiting_note case kept rank (Yes seen) (Note t) waits b =
    let all : seen ≡ length kept = eqb-true seen (length kept) waits in
    record {
      table = t;
      is_held = refl;
      is_for = record {
        case_is = b.is_for.case_is;
        ranks_are = b.is_for.ranks_are ∙ ap (λ n. take n kept ++ rank ∷ []) all ∙ ap (λ ranks. ranks ++ rank ∷ []) (take-length kept);
      };
      closed = b.closed;
    }
waiting_note case kept rank (Yes seen) (Why steps) waits b = absurd b
waiting_note case kept rank Kept item waits b = absurd (let w = waits in cc)
waiting_note case kept rank Removed item waits b = absurd (let w = waits in cc)
