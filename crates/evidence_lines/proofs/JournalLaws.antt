-- A line of a journal is read as the entry that it spells, and as no other.
use Rattle.std.proofs.Common.{◌≡◌, inl, inr, ℕ, ◌^◌, ◌<◌, Bool, true, false, cond, List, [], ◌∷◌, ◌++◌, refl, ap, sym, subst, ◌∙◌, Option, Some, None}
use Rattle.std.specs.Prelude.{decimal, bytes_eq, codes, ⊤}
use Rattle.std.specs.Cmp.Lexicographic.{bytes_decides}
use Rattle.std.proofs.lemmas.Option.{cond_some}
use Rattle.accuse_core.specs.declared.event.Event.{Event}
use Rattle.accuse_core.specs.declared.event.Event.TheVariants.{Take, TakeFront, No, Yes, Block}
use Rattle.accuse_core.specs.declared.event.Reply.{Reply}
use Rattle.accuse_core.specs.declared.event.Reply.TheVariants.{Over, Seen, Done, Front, Late, Marked, Stale, Kept, Far, Noted}
use Rattle.accuse_core.specs.declared.journal.Entry.{Entry}
use Rattle.line_fields.specs.Lines.{Fields}
use Rattle.line_fields.specs.Numbers.{short_number}
use Rattle.line_fields.specs.Reading.{◌>>=◌, short_in, is_end}
use Rattle.evidence_lines.specs.Journal.{event_fields, reply_word, reply_fields, entry_fields, is_answer, HasEntryLine, take_in, no_in, yes_in, block_in, verb_in, event_in, word_replies, first_reply, seen_of, stale_of, front_of, word_or_front, reply_of, if_answer, entry_of, AreEventNumbers, AreReplyNumbers, AreEntryNumbers}
use Rattle.evidence_lines.proofs.Found.{NumberLaw, bound, some_is, none_is, word_case, end_is, Takes, taken, Makes, makes, short_takes}

-- ---- events

abbrev TakesEvent : Fields → Event × Fields → Type 0
TakesEvent fields found = Takes event_fields AreEventNumbers fields found

take_takes : NumberLaw → (worker : ℕ) → worker < 2 ^ 32 → (rest : Fields) (found : Event × Fields) → take_in worker rest ≡ Some found → TakesEvent (decimal worker ∷ codes "take" ∷ rest) found
take_takes law worker below rest found e =
    let q = bound (short_in rest) (λ q. Some (Take worker q.0, q.1)) found e in
    let rank = short_takes law rest q.found q.is in
    taken event_fields AreEventNumbers (decimal worker ∷ codes "take" ∷ rest) (Take worker q.found.0, q.found.1) found q.later
    (ap (λ r. decimal worker ∷ codes "take" ∷ r) rank.whole) (below, rank.fits)

no_takes : NumberLaw → (worker : ℕ) → worker < 2 ^ 32 → (rest : Fields) (found : Event × Fields) → no_in worker rest ≡ Some found → TakesEvent (decimal worker ∷ codes "no" ∷ rest) found
no_takes law worker below rest found e =
    let q = bound (short_in rest) (λ q. short_in q.1 >>= λ v. Some (No worker q.0 v.0, v.1)) found e in
    let v = bound (short_in q.found.1) (λ v. Some (No worker q.found.0 v.0, v.1)) found q.later in
    let rank = short_takes law rest q.found q.is in
    let seen = short_takes law q.found.1 v.found v.is in
    taken event_fields AreEventNumbers (decimal worker ∷ codes "no" ∷ rest) (No worker q.found.0 v.found.0, v.found.1) found v.later
    (ap (λ r. decimal worker ∷ codes "no" ∷ r) (rank.whole ∙ ap (λ r. decimal q.found.0 ∷ r) seen.whole)) (below, rank.fits, seen.fits)

yes_takes : NumberLaw → (worker : ℕ) → worker < 2 ^ 32 → (rest : Fields) (found : Event × Fields) → yes_in worker rest ≡ Some found → TakesEvent (decimal worker ∷ codes "yes" ∷ rest) found
yes_takes law worker below rest found e =
    let q = bound (short_in rest) (λ q. short_in q.1 >>= λ v. Some (Yes worker q.0 v.0, v.1)) found e in
    let v = bound (short_in q.found.1) (λ v. Some (Yes worker q.found.0 v.0, v.1)) found q.later in
    let rank = short_takes law rest q.found q.is in
    let seen = short_takes law q.found.1 v.found v.is in
    taken event_fields AreEventNumbers (decimal worker ∷ codes "yes" ∷ rest) (Yes worker q.found.0 v.found.0, v.found.1) found v.later
    (ap (λ r. decimal worker ∷ codes "yes" ∷ r) (rank.whole ∙ ap (λ r. decimal q.found.0 ∷ r) seen.whole)) (below, rank.fits, seen.fits)

block_takes : NumberLaw → (worker : ℕ) → worker < 2 ^ 32 → (rest : Fields) (found : Event × Fields) → block_in worker rest ≡ Some found → TakesEvent (decimal worker ∷ codes "block" ∷ rest) found
block_takes law worker below rest found e =
    let q = bound (short_in rest) (λ q. short_in q.1 >>= λ n. short_in n.1 >>= λ v. Some (Block worker q.0 n.0 v.0, v.1)) found e in
    let n = bound (short_in q.found.1) (λ n. short_in n.1 >>= λ v. Some (Block worker q.found.0 n.0 v.0, v.1)) found q.later in
    let v = bound (short_in n.found.1) (λ v. Some (Block worker q.found.0 n.found.0 v.0, v.1)) found n.later in
    let rank = short_takes law rest q.found q.is in
    let count = short_takes law q.found.1 n.found n.is in
    let seen = short_takes law n.found.1 v.found v.is in
    taken event_fields AreEventNumbers (decimal worker ∷ codes "block" ∷ rest) (Block worker q.found.0 n.found.0 v.found.0, v.found.1) found v.later
    (ap (λ r. decimal worker ∷ codes "block" ∷ r) (rank.whole ∙ ap (λ r. decimal q.found.0 ∷ r) (count.whole ∙ ap (λ r. decimal n.found.0 ∷ r) seen.whole)))
    (below, rank.fits, count.fits, seen.fits)

verb_takes : NumberLaw → (worker : ℕ) → worker < 2 ^ 32 → (fields : Fields) (found : Event × Fields) → verb_in worker fields ≡ Some found → TakesEvent (decimal worker ∷ fields) found
verb_takes law worker below [] found e = none_is found e
verb_takes law worker below (word ∷ rest) found e =
    let o4 = cond (bytes_eq word (codes "block")) (block_in worker rest) None in
    let o3 = cond (bytes_eq word (codes "yes")) (yes_in worker rest) o4 in
    let o2 = cond (bytes_eq word (codes "no")) (no_in worker rest) o3 in
    let o1 = cond (bytes_eq word (codes "front")) (Some (TakeFront worker, rest)) o2 in
    let P : List ℕ → Type 0 = λ w. TakesEvent (decimal worker ∷ w ∷ rest) found in
    elim (word_case word (codes "take") (take_in worker rest) o1 found e) [
      | inl h ↦ subst P (sym h.0) (take_takes law worker below rest found h.1)
      | inr h ↦ elim (word_case word (codes "front") (Some (TakeFront worker, rest)) o2 found h) [
        | inl k ↦ subst P (sym k.0) (taken event_fields AreEventNumbers (decimal worker ∷ codes "front" ∷ rest) (TakeFront worker, rest) found k.1 refl below)
        | inr k ↦ elim (word_case word (codes "no") (no_in worker rest) o3 found k) [
          | inl m ↦ subst P (sym m.0) (no_takes law worker below rest found m.1)
          | inr m ↦ elim (word_case word (codes "yes") (yes_in worker rest) o4 found m) [
            | inl n ↦ subst P (sym n.0) (yes_takes law worker below rest found n.1)
            | inr n ↦ elim (word_case word (codes "block") (block_in worker rest) None found n) [
              | inl i ↦ subst P (sym i.0) (block_takes law worker below rest found i.1)
              | inr i ↦ none_is found i
            ]
          ]
        ]
      ]
    ]

event_takes : NumberLaw → (fields : Fields) (found : Event × Fields) → event_in fields ≡ Some found → TakesEvent fields found
event_takes law fields found e =
    let w = bound (short_in fields) (λ w. verb_in w.0 w.1) found e in
    let worker = short_takes law fields w.found w.is in
    subst (λ f. TakesEvent f found) (sym worker.whole) (verb_takes law w.found.0 worker.fits w.found.1 found w.later)

event_again : NumberLaw → (event : Event) (rest : Fields) → AreEventNumbers event → event_in (event_fields event ++ rest) ≡ Some (event, rest)
event_again law (Take worker rank) rest fits = rw (law.short_again worker fits.0, law.short_again rank fits.1) refl
event_again law (TakeFront worker) rest fits = rw (law.short_again worker fits) refl
event_again law (No worker rank seen) rest fits = rw (law.short_again worker fits.0, law.short_again rank fits.1, law.short_again seen fits.2) refl
event_again law (Yes worker rank seen) rest fits = rw (law.short_again worker fits.0, law.short_again rank fits.1, law.short_again seen fits.2) refl
event_again law (Block worker rank count seen) rest fits = rw (law.short_again worker fits.0, law.short_again rank fits.1, law.short_again count fits.2, law.short_again seen fits.3) refl

-- ---- replies

abbrev MakesReply : Fields → Reply → Type 0
MakesReply fields reply = Makes reply_fields AreReplyNumbers fields reply

seen_is : NumberLaw → (rest : Fields) (reply : Reply) → seen_of rest ≡ Some reply → MakesReply (codes "seen" ∷ rest) reply
seen_is law rest reply e =
    let v = bound (short_in rest) (λ v. cond (is_end v.1) (Some (Seen v.0)) None) reply e in
    let t = cond_some (is_end v.found.1) (Seen v.found.0) reply v.later in
    let seen = short_takes law rest v.found v.is in
    makes reply_fields AreReplyNumbers (codes "seen" ∷ rest) (Seen v.found.0) reply (ap (λ x. Some x) t.1)
    (ap (λ r. codes "seen" ∷ r) (seen.whole ∙ ap (λ r. decimal v.found.0 ∷ r) (end_is v.found.1 t.0))) seen.fits

stale_is : NumberLaw → (rest : Fields) (reply : Reply) → stale_of rest ≡ Some reply → MakesReply (codes "stale" ∷ rest) reply
stale_is law rest reply e =
    let v = bound (short_in rest) (λ v. cond (is_end v.1) (Some (Stale v.0)) None) reply e in
    let t = cond_some (is_end v.found.1) (Stale v.found.0) reply v.later in
    let kept = short_takes law rest v.found v.is in
    makes reply_fields AreReplyNumbers (codes "stale" ∷ rest) (Stale v.found.0) reply (ap (λ x. Some x) t.1)
    (ap (λ r. codes "stale" ∷ r) (kept.whole ∙ ap (λ r. decimal v.found.0 ∷ r) (end_is v.found.1 t.0))) kept.fits

front_is : NumberLaw → (word : List ℕ) (rest : Fields) (reply : Reply) → front_of word rest ≡ Some reply → MakesReply (word ∷ rest) reply
front_is law word rest reply e =
    let q = bound (short_number word) (λ q. short_in rest >>= λ v. cond (is_end v.1) (Some (Front q v.0)) None) reply e in
    let v = bound (short_in rest) (λ v. cond (is_end v.1) (Some (Front q.found v.0)) None) reply q.later in
    let t = cond_some (is_end v.found.1) (Front q.found v.found.0) reply v.later in
    let rank = law.short word q.found q.is in
    let seen = short_takes law rest v.found v.is in
    makes reply_fields AreReplyNumbers (word ∷ rest) (Front q.found v.found.0) reply (ap (λ x. Some x) t.1)
    (ap (λ w. w ∷ rest) rank.0 ∙ ap (λ r. decimal q.found ∷ r) (seen.whole ∙ ap (λ r. decimal v.found.0 ∷ r) (end_is v.found.1 t.0))) (rank.1, seen.fits)

-- the reply is one word
abbrev IsWordReply : Reply → Type 0
IsWordReply reply = (reply_fields reply ≡ reply_word reply ∷ []) × AreReplyNumbers reply

abbrev AllWords : List Reply → Type 0
AllWords [] = ⊤
AllWords (r ∷ rs) = IsWordReply r × AllWords rs

first_reply_is : (rs : List Reply) → AllWords rs → (word : List ℕ) (reply : Reply) → first_reply rs word ≡ Some reply → (word ≡ reply_word reply) × IsWordReply reply
first_reply_is [] all word reply e = none_is reply e
first_reply_is (r ∷ rs) all word reply e =
    elim (word_case word (reply_word r) (Some r) (first_reply rs word) reply e) [
      | inl h ↦ let same = some_is r reply h.1 in (h.0 ∙ ap reply_word same, subst IsWordReply same all.0)
      | inr h ↦ first_reply_is rs all.1 word reply h
    ]

words_are : AllWords word_replies
words_are = ((refl, tt), ((refl, tt), ((refl, tt), ((refl, tt), ((refl, tt), ((refl, tt), ((refl, tt), tt)))))))

word_or_front_is : NumberLaw → (word : List ℕ) (rest : Fields) (reply : Reply) → word_or_front (first_reply word_replies word) word rest ≡ Some reply → MakesReply (word ∷ rest) reply
word_or_front_is law word rest reply e = by (first_reply word_replies word) refl e
  where
    by : (o : Option Reply) → first_reply word_replies word ≡ o → word_or_front o word rest ≡ Some reply → MakesReply (word ∷ rest) reply
    by None t e = front_is law word rest reply e
    by (Some named) t e =
        let w = first_reply_is word_replies words_are word named t in
        let end = cond_some (is_end rest) named reply e in
        makes reply_fields AreReplyNumbers (word ∷ rest) named reply (ap (λ x. Some x) end.1)
        (ap (λ f. f ∷ rest) w.0 ∙ ap (λ r. reply_word named ∷ r) (end_is rest end.0) ∙ sym w.1.0) w.1.1

reply_is : NumberLaw → (fields : Fields) (reply : Reply) → reply_of fields ≡ Some reply → MakesReply fields reply
reply_is law [] reply e = none_is reply e
reply_is law (word ∷ rest) reply e =
    let other = word_or_front (first_reply word_replies word) word rest in
    elim (word_case word (codes "seen") (seen_of rest) (cond (bytes_eq word (codes "stale")) (stale_of rest) other) reply e) [
      | inl h ↦ subst (λ w. MakesReply (w ∷ rest) reply) (sym h.0) (seen_is law rest reply h.1)
      | inr h ↦ elim (word_case word (codes "stale") (stale_of rest) other reply h) [
        | inl k ↦ subst (λ w. MakesReply (w ∷ rest) reply) (sym k.0) (stale_is law rest reply k.1)
        | inr k ↦ word_or_front_is law word rest reply k
      ]
    ]

-- a number is no word
no_word : NumberLaw → (q : ℕ) (word : List ℕ) → q < 2 ^ 32 → short_number word ≡ None → bytes_eq (decimal q) word ≡ false
no_word law q word below none = by (bytes_eq (decimal q) word) refl
  where
    by : (b : Bool) → bytes_eq (decimal q) word ≡ b → b ≡ false
    by true t =
        let same = (bytes_decides (decimal q) word).0 t in
        none_is q (sym none ∙ ap short_number (sym same) ∙ law.short_again q below)
    by false t = refl

reply_again : NumberLaw → (reply : Reply) → AreReplyNumbers reply → reply_of (reply_fields reply) ≡ Some reply
reply_again law Over fits = refl
reply_again law (Seen seen) fits = rw (law.short_again seen fits) refl
reply_again law Done fits = refl
reply_again law (Front rank seen) fits =
    let lacks = λ (word : List ℕ) (none : short_number word ≡ None). no_word law rank word fits.0 none in
    rw (
      lacks (codes "seen") refl,
      lacks (codes "stale") refl,
      lacks (codes "over") refl,
      lacks (codes "done") refl,
      lacks (codes "late") refl,
      lacks (codes "marked") refl,
      lacks (codes "kept") refl,
      lacks (codes "far") refl,
      lacks (codes "noted") refl,
      law.short_again rank fits.0,
      law.short_again seen fits.1,
    ) refl
reply_again law Late fits = refl
reply_again law Marked fits = refl
reply_again law (Stale kept) fits = rw (law.short_again kept fits) refl
reply_again law Kept fits = refl
reply_again law Far fits = refl
reply_again law Noted fits = refl

-- ---- entries

pub record FitsEntry (e : Entry) : Type 0 where
  pub line : HasEntryLine e
  pub numbers : AreEntryNumbers e

pub entry_back : NumberLaw → (fields : Fields) (entry : Entry) → entry_of fields ≡ Some entry → Makes entry_fields FitsEntry fields entry
unfolding entry_of
entry_back law fields entry e =
    let v = bound (event_in fields) (λ v. reply_of v.1 >>= λ r. if_answer v.0 r) entry e in
    let r = bound (reply_of v.found.1) (λ r. if_answer v.found.0 r) entry v.later in
    let t = cond_some (is_answer v.found.0 r.found) (record { event = v.found.0; reply = r.found }) entry r.later in
    let event = event_takes law fields v.found v.is in
    let reply = reply_is law v.found.1 r.found r.is in
    makes entry_fields FitsEntry fields (record { event = v.found.0; reply = r.found }) entry (ap (λ x. Some x) t.1)
    (event.whole ∙ ap (λ f. event_fields v.found.0 ++ f) reply.whole)
    (record { line = t.0; numbers = record { event = event.fits; reply = reply.fits } })

pub entry_again : NumberLaw → (entry : Entry) → FitsEntry entry → entry_of (entry_fields entry) ≡ Some entry
unfolding entry_of
entry_again law entry fits =
    rw (event_again law entry.event (reply_fields entry.reply) fits.numbers.event, reply_again law entry.reply fits.numbers.reply, fits.line) refl
