-- How a replay goes on.
use Rattle.std.proofs.Common.{◌≡◌, ℕ, zero, suc, ◌+◌, ◌<◌, length, get_or, List, [], ◌∷◌, take, ap, sym, subst, ◌∙◌, add-one}
use Rattle.std.specs.Prelude.{Some, None, slice_get}
use Rattle.std.proofs.lemmas.Option.{slice_get-get_or}
use Rattle.accuse_core.specs.declared.mark.Mark.{Mark}
use Rattle.accuse_core.specs.declared.journal.Entry.{Entry}
use Rattle.accuse_core.specs.Events.{outcome}
use Rattle.accuse_core.specs.Marks.{opening}
use Rattle.accuse_core.specs.Journal.{after, events_of, replayed, AreReplied}
use Rattle.check_items.specs.Firsts.{IsReplied}

-- the marks after one more entry
after_next : (marks : List Mark) (entries : List Entry) (i : ℕ) (entry : Entry) → slice_get entries i ≡ Some entry
    → after marks (events_of (take (suc i) entries)) ≡ (outcome (after marks (events_of (take i entries))) entry.event).marks
after_next marks [] i entry there = absurd (none_is_some there)
  where
    none_is_some : {X : Type 0} {x : X} → None ≡ Some x → ⊥
    none_is_some h = cc
after_next marks (one ∷ entries) zero entry there = ap (λ (e : Entry). (outcome marks e.event).marks) (same there)
  where
    same : Some one ≡ Some entry → one ≡ entry
    same h = cc
after_next marks (one ∷ entries) (suc i) entry there = after_next (outcome marks one.event).marks entries i entry there

pub after_more : (marks : List Mark) (entries : List Entry) (i : ℕ) (entry : Entry) → slice_get entries i ≡ Some entry
    → after marks (events_of (take (i + 1) entries)) ≡ (outcome (after marks (events_of (take i entries))) entry.event).marks
after_more marks entries i entry there = ap (λ n. after marks (events_of (take n entries))) (add-one i) ∙ after_next marks entries i entry there

-- one more entry that is replied to
replied_next : (marks : List Mark) (entries : List Entry) (i : ℕ) (entry : Entry) → slice_get entries i ≡ Some entry
    → AreReplied marks (take i entries) → IsReplied (after marks (events_of (take i entries))) entry → AreReplied marks (take (suc i) entries)
replied_next marks [] i entry there before h = tt
replied_next marks (one ∷ entries) zero entry there before h =
    let whole : IsReplied marks one = subst (IsReplied marks) (same there) h in (whole.0, whole.1, tt)
  where
    same : Some one ≡ Some entry → entry ≡ one
    same e = cc
replied_next marks (one ∷ entries) (suc i) entry there before h =
    (before.0, before.1, replied_next (outcome marks one.event).marks entries i entry there before.2 h)

pub replied_more : (marks : List Mark) (entries : List Entry) (i : ℕ) (entry : Entry) → slice_get entries i ≡ Some entry
    → AreReplied marks (take i entries) → IsReplied (after marks (events_of (take i entries))) entry → AreReplied marks (take (i + 1) entries)
replied_more marks entries i entry there before h = subst (λ n. AreReplied marks (take n entries)) (sym (add-one i)) (replied_next marks entries i entry there before h)

-- of entries that are all replied to, each is
pub replied_at : (marks : List Mark) (entries : List Entry) (k : ℕ) (entry : Entry) → slice_get entries k ≡ Some entry → AreReplied marks entries
    → IsReplied (after marks (events_of (take k entries))) entry
replied_at marks [] k entry there all = absurd (nothing there)
  where
    nothing : None ≡ Some entry → ⊥
    nothing h = cc
replied_at marks (one ∷ entries) zero entry there all = subst (IsReplied marks) (same there) (all.0, all.1)
  where
    same : Some one ≡ Some entry → one ≡ entry
    same h = cc
replied_at marks (one ∷ entries) (suc k) entry there all = replied_at (outcome marks one.event).marks entries k entry there all.2

module _ (ranks : ℕ) (entries : List Entry) (index : ℕ) (d : Entry) (core : List Mark) (inside : index < length entries)
    (is : core ≡ replayed ranks (take index entries)) where
  -- one more entry that is replied to
  pub next_replies : AreReplied (opening ranks) (take index entries) → IsReplied core (get_or entries index d) → AreReplied (opening ranks) (take (index + 1) entries)
  next_replies before h =
      replied_more (opening ranks) entries index (get_or entries index d) (slice_get-get_or entries index d inside) before
      (subst (λ (marks : List Mark). IsReplied marks (get_or entries index d)) is h)

  -- and the marks after it
  pub next_marks : (new : List Mark) → new ≡ (outcome core (get_or entries index d).event).marks → new ≡ replayed ranks (take (index + 1) entries)
  next_marks new new_is =
      new_is ∙ ap (λ (marks : List Mark). (outcome marks (get_or entries index d).event).marks) is
      ∙ sym (after_more (opening ranks) entries index (get_or entries index d) (slice_get-get_or entries index d inside))
