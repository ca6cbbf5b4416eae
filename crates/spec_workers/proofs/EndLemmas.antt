-- How the work of one worker ends.
use Rattle.std.proofs.Common.{◌≡◌, ℕ, ◌+◌, ◌-◌, List, [], ◌∷◌, ◌++◌, refl, sym, ap, ◌∙◌, subst, arith, inr}
use Rattle.std.proofs.lemmas.List.{append_assoc, append-nil}
use Rattle.accuse_core.specs.declared.event.Event.TheVariants.{TakeFront}
use Rattle.accuse_core.specs.declared.event.Reply.TheVariants.{Done as AllDone}
use Rattle.accuse_core.specs.declared.journal.Entry.{Entry}
use Rattle.spec_workers.specs.declared.types.WorkEnd.{WorkEnd}
use Rattle.spec_workers.specs.declared.types.WorkEnd.TheVariants.{Done, Budget, OutOfMemory}
use Rattle.spec_workers.specs.Books.{Tells}
use Rattle.spec_workers.specs.Turns.{entry, AreFrontsTaken, IsAtFront, IsCutTurn, IsWork, verdicts_in}
use Rattle.spec_workers.specs.Inside.Stages.{IsDrawnOut, IsFrontWork}
use Rattle.spec_workers.proofs.Holds.{tells_then}
use Rattle.spec_workers.proofs.StageLemmas.{verdicts_of_both, fronts_count}

-- what was begun at the front is no verdict
begun_none : (worker : ℕ) (begun : List Entry) → IsCutTurn worker [] begun → verdicts_in begun ≡ 0
begun_none worker [] is = refl
begun_none worker (asked ∷ []) is = ap (λ e. verdicts_in (e ∷ [])) is.2
begun_none worker (a ∷ b ∷ more) is = absurd is

module _ (n worker budget made : ℕ) (draws : List ℕ) (told : List Entry)
    (out : IsDrawnOut n worker budget draws told made) where
  -- the ranks that were drawn are taken, and then the front some times
  at_front : (count : ℕ) (fronts : List Entry) → AreFrontsTaken worker count fronts
      → IsAtFront n worker draws (told ++ fronts)
  at_front count fronts taken = record {
    ranks = out.ranks;
    past = out.past;
    drawn = out.drawn;
    none = out.none;
    takes = told;
    count = count;
    fronts = fronts;
    told = refl;
    taken = out.taking.taken;
    fronts_taken = taken;
  }

  -- with so many verdicts
  count_all : (count : ℕ) (fronts : List Entry) → AreFrontsTaken worker count fronts
      → verdicts_in (told ++ fronts) ≡ made + count
  count_all count fronts taken =
      let both = verdicts_of_both told fronts in
      let tests = out.taking.tests in
      let some = fronts_count worker count fronts taken in
      omega (arith, both, tests, some)

  -- entries after these which hold no verdict
  count_more : (count : ℕ) (fronts more all : List Entry) → AreFrontsTaken worker count fronts
      → all ≡ fronts ++ more → verdicts_in more ≡ 0
      → (told ++ all ≡ (told ++ fronts) ++ more) × (verdicts_in (told ++ all) ≡ made + count)
  count_more count fronts more all taken is none =
      let same = ap (λ (l : List Entry). told ++ l) is ∙ sym (append_assoc told fronts more) in
      let both = ap verdicts_in same ∙ verdicts_of_both (told ++ fronts) more in
      let some = count_all count fronts taken in
      (same, omega (arith, both, some, none))

  -- the whole work
  pub ended : (fronts : List Entry) (end : WorkEnd) → IsFrontWork worker (budget - made) fronts end
      → IsWork n worker budget draws (told ++ fronts) end
  ended fronts Done is =
      let more = entry (TakeFront worker) AllDone ∷ [] in
      let all = count_more is.count is.fronts more fronts is.taken is.told refl in
      let within = out.taking.within in
      let few = is.few in
      let count = all.1 in
      record {
        within = omega (arith, within, few, count);
        ends = (told ++ is.fronts, all.0, at_front is.count is.fronts is.taken);
      }
  ended fronts Budget is =
      let count = count_all (budget - made) fronts is in
      let within = out.taking.within in
      record {
        within = omega (arith, within, count);
        ends = (inr (at_front (budget - made) fronts is), omega (arith, within, count));
      }
  ended fronts OutOfMemory is =
      let all = count_more is.count is.fronts is.begun fronts is.taken is.told (begun_none worker is.begun is.is_begun) in
      let within = out.taking.within in
      let few = is.few in
      let count = all.1 in
      record {
        within = omega (arith, within, few, count);
        ends = record {
          before = draws;
          last = [];
          drawn = sym (append-nil draws);
          whole = told ++ is.fronts;
          begun = is.begun;
          told = all.0;
          is_whole = inr (at_front is.count is.fronts is.taken);
          is_begun = is.is_begun;
        };
      }

-- a worker that has drawn and taken all that it could, and then went to the front
pub all_work : (n worker later budget made : ℕ) (drawn_before drawn_after : List ℕ) (before between after : List Entry) (end : WorkEnd)
    → later ≡ worker
    → (draws : List ℕ) × (told : List Entry) × (drawn_after ≡ drawn_before ++ draws)
    × Tells worker before between told × IsDrawnOut n worker budget draws told made
    → (told : List Entry) × Tells later between after told × IsFrontWork later (budget - made) told end
    → (draws : List ℕ) × (told : List Entry) × (drawn_after ≡ drawn_before ++ draws)
    × Tells worker before after told × IsWork n worker budget draws told end
all_work n worker later budget made drawn_before drawn_after before between after end same first second =
    let here = subst (λ (w : ℕ). (told : List Entry) × Tells w between after told × IsFrontWork w (budget - made) told end) same second in (
      first.0,
      first.1 ++ here.0,
      first.2,
      tells_then worker before between after first.1 here.0 first.3 here.1,
      ended n worker budget made first.0 first.1 first.4 here.0 end here.2,
    )
