-- Allowed events keep the marks sound.
use Rattle.std.proofs.Common.{◌≡◌, ℕ, zero, suc, ◌+◌, ◌<◌, ◌≤◌, true, false, ⊎_elim, List, [], ◌∷◌, ◌++◌, Contains, length, set, take, drop, refl, ap, sym, subst, ◌∙◌, arith, length-append}
use Rattle.std.proofs.lemmas.Bool.{cases_Bool, both_ways, eqb-true, ne_eqb}
use Rattle.std.proofs.lemmas.List.{take-append-le, take-append-drop}
use Rattle.std.proofs.Math.Seq.{take-length}
use Rattle.std.proofs.lemmas.List.Elements.{Contains-append_left}
use Rattle.conflict_logic.specs.Certificate.{IsRefuted}
use Rattle.accuse_core.specs.declared.mark.Mark.{Mark}
use Rattle.accuse_core.specs.declared.mark.Mark.TheVariants.{Open, Yes, Kept, Removed}
use Rattle.accuse_core.specs.Marks.{is_kept, is_removed, is_decided, is_yes_over, mark_at, kept_of, number_kept, front_of, kept_unless_removed, with_kept, with_removed, with_note, with_block, block_of, settled}
use Rattle.accuse_core.specs.Inside.Watching.{IsNoted, AreWatched, AreAtRest}
use Rattle.accuse_core.proofs.RankLaws.{ranks_set_failing}
use Rattle.accuse_core.proofs.FrontLaws.{at_set, front_rises, front_passes, front_stays, none_kept_with, none_kept_past}
use Rattle.accuse_core.proofs.TrackLaws.{undecided_is_not_kept, front_past_block}
use Rattle.accuse_core.proofs.MarkLaws.{kept_is_before, kept_grows, block_grows, at_block}

-- some ranks with more behind them
with_more : (incoherent : List ℕ → Type 0) (ranks more : List ℕ) (seen rank : ℕ) → seen ≤ length ranks
    → ¬ (incoherent (take seen ranks ++ rank ∷ [])) → ¬ (incoherent (take seen (ranks ++ more) ++ rank ∷ []))
with_more incoherent ranks more seen rank few coherent = rw take-append-le coherent

-- a mark that is kept unless it is removed, and turns out to be neither
neither : (mark : Mark) (seen : ℕ) → kept_unless_removed mark ≡ Yes seen → ⊥
neither Open seen same = cc
neither (Yes other) seen same = cc
neither Kept seen same = cc
neither Removed seen same = cc

removed_before : (mark : Mark) → is_removed (kept_unless_removed mark) ≡ true → is_removed mark ≡ true
removed_before Open gone = gone
removed_before (Yes other) gone = gone
removed_before Kept gone = gone
removed_before Removed gone = gone

-- what some of the first ranks contain, all contain
from_take : (ranks : List ℕ) (seen rank : ℕ) → Contains (take seen ranks) rank → Contains ranks rank
from_take ranks seen rank held = subst (λ xs. Contains xs rank) (take-append-drop seen ranks) (Contains-append_left (take seen ranks) (drop seen ranks) rank held)

-- a noted rank is a rank
pub noted_inside : (marks : List Mark) (rank seen : ℕ) → mark_at marks rank ≡ Yes seen → rank < length marks
noted_inside [] rank seen yes_mark = cc
noted_inside (x ∷ xs) zero seen yes_mark = omega arith
noted_inside (x ∷ xs) (suc rank) seen yes_mark = let later = noted_inside xs rank seen yes_mark in omega arith

-- a mark that waits is a yes over all kept ranks
pub record Waits (count : ℕ) (mark : Mark) : Type 0 where
  pub seen : ℕ
  pub is : mark ≡ Yes seen
  pub all : seen ≡ count

pub waits : (count : ℕ) (mark : Mark) → is_yes_over count mark ≡ true → Waits count mark
waits count Open yes_over = cc
waits count (Yes seen) yes_over = record { seen = seen; is = refl; all = eqb-true seen count yes_over }
waits count Kept yes_over = cc
waits count Removed yes_over = cc

-- a yes over fewer ranks doesn't wait
fewer_dont_wait : (count : ℕ) (mark : Mark) → ((seen : ℕ) → mark ≡ Yes seen → seen < count) → is_yes_over count mark ≡ false
fewer_dont_wait count Open fewer = refl
fewer_dont_wait count (Yes seen) fewer = let low = fewer seen refl in ne_eqb seen count (λ same. omega arith)
fewer_dont_wait count Kept fewer = refl
fewer_dont_wait count Removed fewer = refl

module _ (incoherent : List ℕ → Type 0) where
  -- what kept ranks refute is refuted by more of them
  refuted_by_more : (ranks more : List ℕ) (rank : ℕ) → IsRefuted incoherent (Contains ranks) rank → IsRefuted incoherent (Contains (ranks ++ more)) rank
  refuted_by_more ranks more rank r = record {
    others = r.others;
    each = λ other held. let e = r.each other held in (e.0, Contains-append_left ranks more other e.1);
    together = r.together;
  }

  module _ (marks : List Mark) (w : AreWatched incoherent marks) where
    -- the rank at the front is kept, if it is coherent with the kept ranks
    pub keep_watched : front_of marks < length marks → ¬ (incoherent (kept_of marks ++ front_of marks ∷ []))
        → AreWatched incoherent (with_kept marks (front_of marks))
    keep_watched inside coherent =
        let front = front_of marks in
        let grown = kept_grows marks front inside w.ahead in
        let further = front_passes marks Kept inside refl in
        record {
          refuted = λ rank. at_set (λ mark. is_removed mark ≡ true → IsRefuted incoherent (Contains (kept_of (with_kept marks front))) rank) marks front Kept rank inside
              (λ same gone. absurd (both_ways false refl gone))
              (λ differs gone. rw grown (refuted_by_more (kept_of marks) (front ∷ []) rank (w.refuted rank gone)));
          ahead = none_kept_past marks front (front_of (with_kept marks front)) Kept inside further w.ahead;
          coherent = rw grown coherent;
          noted = λ rank seen. at_set (λ mark. mark ≡ Yes seen → ¬ (incoherent (take seen (kept_of (with_kept marks front)) ++ rank ∷ []))) marks front Kept rank inside
              (λ same yes_mark. cc)
              (λ differs yes_mark. rw grown (with_more incoherent (kept_of marks) (front ∷ []) seen rank (w.seen rank seen yes_mark) (w.noted rank seen yes_mark)));
          seen = λ rank seen. at_set (λ mark. mark ≡ Yes seen → seen ≤ number_kept (with_kept marks front)) marks front Kept rank inside
              (λ same yes_mark. cc)
              (λ differs yes_mark. let few = w.seen rank seen yes_mark in rw (grown, length-append) (omega arith));
        }

    -- the rank at the front is kept if it waits
    pub settle_watched : AreWatched incoherent (settled marks)
    settle_watched = ⊎_elim
        (λ (yes_over : is_yes_over (number_kept marks) (mark_at marks (front_of marks)) ≡ true).
        let k = waits (number_kept marks) (mark_at marks (front_of marks)) yes_over in
        let noted = w.noted (front_of marks) k.seen k.is in
        rw yes_over (keep_watched (noted_inside marks (front_of marks) k.seen k.is)
        (subst (λ ranks. ¬ (incoherent (ranks ++ front_of marks ∷ []))) (ap (λ n. take n (kept_of marks)) k.all ∙ take-length (kept_of marks)) noted)))
        (λ (not_over : is_yes_over (number_kept marks) (mark_at marks (front_of marks)) ≡ false). rw not_over w)
        (cases_Bool (is_yes_over (number_kept marks) (mark_at marks (front_of marks))))

    -- then no rank waits any more: all other marks are a yes over fewer ranks
    rest_after_keeping : front_of marks < length marks → (now : List Mark) → now ≡ with_kept marks (front_of marks)
        → is_yes_over (number_kept now) (mark_at now (front_of now)) ≡ false
    rest_after_keeping inside now is =
        let grown = kept_grows marks (front_of marks) inside w.ahead in
        let more : number_kept now ≡ number_kept marks + 1 = rw (is, grown, length-append) refl in
        fewer_dont_wait (number_kept now) (mark_at now (front_of now)) (λ seen yes_mark.
        let few : seen ≤ number_kept marks = at_set (λ mark. mark ≡ Yes seen → seen ≤ number_kept marks) marks (front_of marks) Kept (front_of now) inside
        (λ same kept. cc) (λ differs old. w.seen (front_of now) seen old) (subst (λ xs. mark_at xs (front_of now) ≡ Yes seen) is yes_mark) in
        omega arith)

    pub settle_to_rest : AreAtRest incoherent (settled marks)
    settle_to_rest = record {
      watched = settle_watched;
      rest = ⊎_elim
          (λ (yes_over : is_yes_over (number_kept marks) (mark_at marks (front_of marks)) ≡ true).
          let k = waits (number_kept marks) (mark_at marks (front_of marks)) yes_over in
          rest_after_keeping (noted_inside marks (front_of marks) k.seen k.is) (settled marks) (rw yes_over refl))
          (λ (not_over : is_yes_over (number_kept marks) (mark_at marks (front_of marks)) ≡ false).
          let same : settled marks ≡ marks = rw not_over refl in
          subst (λ now. is_yes_over (number_kept now) (mark_at now (front_of now)) ≡ false) (sym same) not_over)
          (cases_Bool (is_yes_over (number_kept marks) (mark_at marks (front_of marks))));
    }

    -- a mark that isn't kept in the place of one that isn't decided
    set_watched : (rank : ℕ) (mark : Mark) → rank < length marks → is_decided (mark_at marks rank) ≡ false → is_kept mark ≡ false
        → front_of marks ≤ front_of (set marks rank mark)
        → (is_removed mark ≡ true → IsRefuted incoherent (Contains (kept_of marks)) rank)
        → ((seen : ℕ) → mark ≡ Yes seen → IsNoted incoherent (kept_of marks) seen rank)
        → AreWatched incoherent (set marks rank mark)
    set_watched rank mark inside undecided not_kept further gone_for yes_for =
        let same_kept = ranks_set_failing is_kept 0 marks rank mark (undecided_is_not_kept (mark_at marks rank) undecided) not_kept in
        record {
          refuted = λ other. at_set (λ m. is_removed m ≡ true → IsRefuted incoherent (Contains (kept_of (set marks rank mark))) other) marks rank mark other inside
              (λ same gone. rw same_kept (subst (IsRefuted incoherent (Contains (kept_of marks))) (sym same) (gone_for gone)))
              (λ differs gone. rw same_kept (w.refuted other gone));
          ahead = none_kept_with marks rank (front_of marks) (front_of (set marks rank mark)) mark inside not_kept further w.ahead;
          coherent = rw same_kept w.coherent;
          noted = λ other seen. at_set (λ m. m ≡ Yes seen → ¬ (incoherent (take seen (kept_of (set marks rank mark)) ++ other ∷ []))) marks rank mark other inside
              (λ same yes_mark. rw same_kept (subst (λ r. ¬ (incoherent (take seen (kept_of marks) ++ r ∷ []))) (sym same) (yes_for seen yes_mark).coherent))
              (λ differs yes_mark. rw same_kept (w.noted other seen yes_mark));
          seen = λ other seen. at_set (λ m. m ≡ Yes seen → seen ≤ number_kept (set marks rank mark)) marks rank mark other inside
              (λ same yes_mark. rw same_kept (yes_for seen yes_mark).few)
              (λ differs yes_mark. rw same_kept (w.seen other seen yes_mark));
        }

    pub remove_watched : (rank seen : ℕ) → rank < length marks → is_decided (mark_at marks rank) ≡ false
        → incoherent (take seen (kept_of marks) ++ rank ∷ []) → AreWatched incoherent (with_removed marks rank)
    remove_watched rank seen inside undecided together = set_watched rank Removed inside undecided refl (front_rises marks rank Removed inside refl)
        (λ gone. record {
          others = take seen (kept_of marks);
          each = λ other held. let kept = from_take (kept_of marks) seen other held in (kept_is_before marks rank other w.ahead undecided kept, kept);
          together = together;
        })
        (λ other yes_mark. cc)

    pub note_watched : (rank seen : ℕ) → rank < length marks → is_decided (mark_at marks rank) ≡ false → seen ≤ number_kept marks
        → ¬ (incoherent (take seen (kept_of marks) ++ rank ∷ [])) → AreWatched incoherent (with_note marks rank seen)
    note_watched rank seen inside undecided few coherent = set_watched rank (Yes seen) inside undecided refl (front_stays marks rank (Yes seen) undecided refl)
        (λ gone. absurd (both_ways false refl gone))
        (λ other yes_mark. let same : seen ≡ other = cc in record {
          few = subst (λ n. n ≤ number_kept marks) same few;
          coherent = subst (λ n. ¬ (incoherent (take n (kept_of marks) ++ rank ∷ []))) same coherent;
        })

    pub block_watched : (count : ℕ) → front_of marks + count ≤ length marks → ¬ (incoherent (kept_of marks ++ block_of marks (front_of marks) count))
        → AreWatched incoherent (with_block marks (front_of marks) count)
    block_watched count inside coherent =
        let front = front_of marks in
        let new = with_block marks front count in
        let more = block_of marks front count in
        let grown = block_grows marks front count (omega arith) w.ahead in
        let further = front_past_block marks count inside in
        let whole : ¬ (incoherent (kept_of new)) = rw grown coherent in
        let gone_before : (rank : ℕ) → is_removed (mark_at new rank) ≡ true → is_removed (mark_at marks rank) ≡ true =
        λ rank. at_block (λ mark. is_removed mark ≡ true → is_removed (mark_at marks rank) ≡ true) marks front count rank inside
        (λ before gone. gone) (λ from below gone. removed_before (mark_at marks rank) gone) (λ past gone. gone) in
        record {
          refuted = λ rank gone. rw grown (refuted_by_more (kept_of marks) more rank (w.refuted rank (gone_before rank gone)));
          ahead = λ rank past. at_block (λ mark. is_kept mark ≡ false) marks front count rank inside
              (λ before. absurd (omega arith)) (λ from below. absurd (omega arith)) (λ above. w.ahead rank (omega arith));
          coherent = whole;
          noted = λ rank seen. at_block (λ mark. mark ≡ Yes seen → ¬ (incoherent (take seen (kept_of new) ++ rank ∷ []))) marks front count rank inside
              (λ before yes_mark. rw grown (with_more incoherent (kept_of marks) more seen rank (w.seen rank seen yes_mark) (w.noted rank seen yes_mark)))
              (λ from below yes_mark. absurd (neither (mark_at marks rank) seen yes_mark))
              (λ past yes_mark. rw grown (with_more incoherent (kept_of marks) more seen rank (w.seen rank seen yes_mark) (w.noted rank seen yes_mark)));
          seen = λ rank seen. at_block (λ mark. mark ≡ Yes seen → seen ≤ number_kept new) marks front count rank inside
              (λ before yes_mark. let few = w.seen rank seen yes_mark in rw (grown, length-append) (omega arith))
              (λ from below yes_mark. absurd (neither (mark_at marks rank) seen yes_mark))
              (λ past yes_mark. let few = w.seen rank seen yes_mark in rw (grown, length-append) (omega arith));
        }
