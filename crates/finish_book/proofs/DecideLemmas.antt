-- The rank after the longest run.
use Rattle.std.proofs.Common.{◌≡◌, ℕ, ◌+◌, ◌<◌, ◌≤◌, ⊎_elim, true, false, List, [], ◌∷◌, ◌++◌, Contains, length, take, refl, ap, sym, subst, ◌∙◌, arith}
use Rattle.std.proofs.Math.Seq.{take-append_seam}
use Rattle.std.proofs.lemmas.Bool.{cases_Bool, both_ways}
use Rattle.std.proofs.lemmas.List.{append_assoc, length-append}
use Rattle.std.proofs.lemmas.List.Elements.{Contains-append_left, Contains-push_cases}
use Rattle.accuse_core.specs.declared.mark.Mark.{Mark}
use Rattle.accuse_core.specs.declared.mark.Mark.TheVariants.{Open, Yes, Kept, Removed}
use Rattle.accuse_core.specs.Marks.{is_removed, is_decided, mark_at, kept_of, block_of}
use Rattle.finish_book.proofs.BlockLemmas.{block_more, block_same}

undecided_by : (mark : Mark) → (mark ≡ Kept → ⊥) → (mark ≡ Removed → ⊥) → is_decided mark ≡ false
undecided_by Open kept removed = refl
undecided_by (Yes seen) kept removed = refl
undecided_by Kept kept removed = absurd (kept refl)
undecided_by Removed kept removed = absurd (removed refl)

-- the first ranks of a list, as many as another begins with
first_of : (front rest whole : List ℕ) → whole ≡ front ++ rest → take (length front) whole ≡ front
first_of front rest whole same = ap (λ (l : List ℕ). take (length front) l) same ∙ take-append_seam front rest

-- a run with one rank more is incoherent, and the marks after keep the run
module _ (incoherent : List ℕ → Type 0)
    (more_stay : (ranks more : List ℕ) → ((rank : ℕ) → Contains ranks rank → Contains more rank) → incoherent ranks → incoherent more)
    (marks after : List Mark) (front known : ℕ) (rest : List ℕ) (inside : front + known < length marks)
    (after_is : kept_of after ≡ (kept_of marks ++ block_of marks front known) ++ rest)
    (coherent : incoherent (kept_of after) → ⊥)
    (too_long : incoherent (kept_of marks ++ block_of marks front (known + 1))) where
  abbrev run : List ℕ
  run = kept_of marks ++ block_of marks front known

  held : (rank : ℕ) → Contains run rank → Contains (kept_of after) rank
  held rank is_in = subst (λ (ranks : List ℕ). Contains ranks rank) (sym after_is) (Contains-append_left run rest rank is_in)

  -- so that rank is not removed
  pub next_stays : is_removed (mark_at marks (front + known)) ≡ false
  next_stays = ⊎_elim
      (λ (removed : is_removed (mark_at marks (front + known)) ≡ true). absurd (coherent (more_stay run (kept_of after) held
      (subst (λ (block : List ℕ). incoherent (kept_of marks ++ block)) (block_same marks front known inside removed) too_long))))
      (λ stays. stays)
      (cases_Bool (is_removed (mark_at marks (front + known))))

  pub longer_is : kept_of marks ++ block_of marks front (known + 1) ≡ run ++ (front + known) ∷ []
  longer_is = ap (λ (block : List ℕ). kept_of marks ++ block) (block_more marks front known inside next_stays)
      ∙ sym (append_assoc (kept_of marks) (block_of marks front known) ((front + known) ∷ []))

  -- and not decided
  pub next_is_undecided : (mark_at after (front + known) ≡ Removed → mark_at marks (front + known) ≡ Removed)
      → (mark_at after (front + known) ≡ Kept → Contains (kept_of after) (front + known)) → is_decided (mark_at after (front + known)) ≡ false
  next_is_undecided removed_before kept_is_listed = undecided_by (mark_at after (front + known))
      (λ kept. coherent (more_stay (run ++ (front + known) ∷ []) (kept_of after)
      (λ rank is_in. ⊎_elim
      (λ (old : Contains run rank). held rank old)
      (λ (same : front + known ≡ rank). subst (Contains (kept_of after)) same (kept_is_listed kept))
      (Contains-push_cases run (front + known) rank is_in))
      (subst incoherent longer_is too_long)))
      (λ removed. let before = ap is_removed (removed_before removed) in let stays = next_stays in absurd (both_ways (is_removed (mark_at marks (front + known))) stays before))

  -- what its derivation is over: the run, as the first kept ranks, and the rank
  pub why_is_over : (seen : ℕ) → seen ≡ length run
      → take seen (kept_of after) ++ (front + known) ∷ [] ≡ kept_of marks ++ block_of marks front (known + 1)
  why_is_over seen same =
      ap (λ n. take n (kept_of after) ++ (front + known) ∷ []) same
      ∙ ap (λ (ranks : List ℕ). ranks ++ (front + known) ∷ []) (first_of run rest (kept_of after) after_is)
      ∙ sym longer_is

  pub enough_seen : (seen : ℕ) → seen ≡ length run → seen ≤ length (kept_of after)
  enough_seen seen same = omega (arith, ap (λ (ranks : List ℕ). length ranks) after_is, length-append run rest)
