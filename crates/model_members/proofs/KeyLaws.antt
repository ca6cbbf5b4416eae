-- Lists by keys that are made one by one.
use Rattle.std.proofs.Common.{◌≡◌, ◌+◌, ◌<◌, ◌≤◌, ℕ, zero, suc, List, [], ◌∷◌, ◌++◌, length, take, get_or, All, Contains, ⊎_elim, sym, subst, ap, arith, length-append}
use Rattle.std.specs.Prelude.{slice_index_or}
use Rattle.std.specs.List.{AllPairs}
use Rattle.std.specs.List.Sorted.{IsStrictlyIncreasing}
use Rattle.std.proofs.lemmas.List.{take_all}
use Rattle.std.proofs.lemmas.List.Elements.{All-head, All-tail, All-nil, All-weaker, All-contains, All-contains_itself, All-from_get_or, Contains-append_left, Contains-push, Contains-push_cases}
use Rattle.el_logic.specs.declared.types.Interp.{Interp}
use Rattle.el_logic.specs.Meaning.{IsInterp, members_of}
use Rattle.closed_model.specs.Models.{ComesBefore, HasOrderedLists, HaveTheSame}
use Rattle.model_members.specs.Lists.{AreTurned}
use Rattle.model_members.specs.Inside.Keyed.{AreMadeOf}
use Rattle.model_members.specs.Inside.Pairs.{Lead}
use Rattle.model_members.specs.Inside.Sets.{AreElements}
use Rattle.model_members.proofs.ClassLaws.{take_next}

-- what each list passes and the empty one too, the list under any key passes
pub under_key : {X : Type 0} (P : List X → Type 0) → P [] → (lists : List (List X)) → All P lists → (key : ℕ) → P (slice_index_or lists key [])
under_key P none [] all key = none
under_key P none (list ∷ lists) all zero = All-head P list lists all
under_key P none (list ∷ lists) all (suc key) = under_key P none lists (All-tail P list lists all) key

-- one list more at the end of both
more_keys : {X : Type 0} (R : List X → List X → Type 0) (given made : List (List X)) (old new : List X) → length made ≡ length given
    → ((key : ℕ) → R (slice_index_or made key []) (slice_index_or given key [])) → R new old
    → (key : ℕ) → R (slice_index_or (made ++ new ∷ []) key []) (slice_index_or (given ++ old ∷ []) key [])
more_keys R [] [] old new each so_far this zero = this
more_keys R [] [] old new each so_far this (suc key) = so_far zero
more_keys R [] (m ∷ made) old new each so_far this key = absurd (omega (arith, each))
more_keys R (g ∷ given) [] old new each so_far this key = absurd (omega (arith, each))
more_keys R (g ∷ given) (m ∷ made) old new each so_far this zero = so_far zero
more_keys R (g ∷ given) (m ∷ made) old new each so_far this (suc key) = more_keys R given made old new (omega (arith, each)) (λ k. so_far (suc k)) this key

-- no lists are made of none
pub made_none : {X : Type 0} (R : List X → List X → Type 0) (made : List (List X)) → made ≡ [] → R [] [] → AreMadeOf R [] made
made_none R made none empty = subst (AreMadeOf R []) (sym none) (record { each = omega arith; keyed = λ key. empty })

-- a step of a loop over given lists
pub made_next : {X : Type 0} (R : List X → List X → Type 0) (given made more : List (List X)) (index : ℕ) (item read new : List X) → index < length given → item ≡ get_or given index item
    → read ≡ item → more ≡ made ++ new ∷ [] → R new read → AreMadeOf R (take index given) made → AreMadeOf R (take (index + 1) given) more
made_next R given made more index item read new within is read_is more_is this so_far =
    subst (AreMadeOf R (take (index + 1) given)) (sym more_is)
    (subst (λ done. AreMadeOf R done (made ++ new ∷ [])) (sym (take_next given index item within is)) (record {
      each = omega (arith, so_far.each, length-append made (new ∷ []), length-append (take index given) (item ∷ []));
      keyed = more_keys R (take index given) made item new so_far.each so_far.keyed (subst (R new) read_is this);
    }))

-- and its end
pub made_all : {X : Type 0} (R : List X → List X → Type 0) (given made result : List (List X)) (index : ℕ) → length given ≤ index → result ≡ made
    → AreMadeOf R (take index given) made → AreMadeOf R given result
made_all R given made result index end is so_far =
    subst (AreMadeOf R given) (sym is) (subst (λ done. AreMadeOf R done made) (take_all index given end) so_far)

-- lists with the same elements pass what those of the given ones pass
pub all_made : {X : Type 0} (P : X → Type 0) (given made : List (List X)) → AreMadeOf HaveTheSame given made → All (All P) given → All (All P) made
all_made P given made are all =
    All-from_get_or (All P) made [] (λ key within.
    All-weaker (Contains (slice_index_or made key [])) P
    (λ x there. All-contains P (slice_index_or given key []) x (under_key (All P) (All-nil P) given all key) ((are.keyed key x).0 there))
    (slice_index_or made key []) (All-contains_itself (slice_index_or made key [])))

-- one pair more is turned round
pub more_turned : (turned done : List (ℕ × ℕ)) (pair : ℕ × ℕ) → AreTurned turned done → AreTurned (turned ++ (pair.1, pair.0) ∷ []) (done ++ pair ∷ [])
more_turned turned done pair so_far x y = (
  (λ there. ⊎_elim
      (λ old. Contains-append_left done (pair ∷ []) (x, y) ((so_far x y).0 old))
      (λ new. subst (λ begin. Lead (done ++ pair ∷ []) begin y) (ap (λ (p : ℕ × ℕ). p.1) new)
      (subst (λ end. Lead (done ++ pair ∷ []) pair.0 end) (ap (λ (p : ℕ × ℕ). p.0) new) (Contains-push done pair)))
      (Contains-push_cases turned (pair.1, pair.0) (y, x) there)),
  (λ led. ⊎_elim
      (λ old. Contains-append_left turned ((pair.1, pair.0) ∷ []) (y, x) ((so_far x y).1 old))
      (λ new. subst (λ (p : ℕ × ℕ). Contains (turned ++ (pair.1, pair.0) ∷ []) (p.1, p.0)) new (Contains-push turned (pair.1, pair.0)))
      (Contains-push_cases done pair (x, y) led)),
)

-- no pairs are those of none turned round
pub turned_none : AreTurned [] []
turned_none x y = ((λ there. absurd (omega (arith, there.1))), (λ there. absurd (omega (arith, there.1))))

-- the pairs under any key ascend, if all lists do
pub pairs_under : (lists : List (List (ℕ × ℕ))) (key : ℕ) → All (AllPairs ComesBefore) lists → AllPairs ComesBefore (slice_index_or lists key [])
pairs_under lists key up = under_key (AllPairs ComesBefore) (λ i j d less within. absurd (omega arith)) lists up key

-- the members of any class are ascending elements
pub elements_named : (i : Interp) (class : ℕ) → IsInterp (length i.classes) (length i.roles) i → HasOrderedLists i → AreElements i.size (members_of i class)
elements_named i class fits up = (
  under_key IsStrictlyIncreasing (λ k within. absurd (omega arith)) i.classes up.members class,
  under_key (All (λ x. x < i.size)) (All-nil (λ x. x < i.size)) i.classes fits.members_below class,
)
