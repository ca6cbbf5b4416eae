-- Each text has one answer: a reading, or a first fault.
use Rattle.std.proofs.Common.{◌≡◌, ℕ, zero, suc, ◌≤◌, Bool, true, false, List, ⊎_elim, length, take, refl, ap, sym, subst, ◌∙◌, arith}
use Rattle.std.specs.Prelude.{Result, Ok, Err, IsUtf8}
use Rattle.std.specs.Str.{IsValidUpTo, is_utf8}
use Rattle.std.proofs.Math.Seq.{take-length}
use Rattle.std.proofs.lemmas.Bool.{cases_lt}
use Rattle.std.proofs.lemmas.List.{take_all}
use Rattle.std.proofs.lemmas.Str.{is_utf8-from_IsUtf8, IsUtf8-from_is_utf8, IsUtf8-nil, utf8_valid_len-IsValidUpTo}
use Rattle.ofn_term.specs.declared.item.Item.{Item}
use Rattle.ofn_term.specs.declared.fault.TermFault.{TermFault}
use Rattle.ofn_term.specs.declared.fault.TermFault.TheVariants as term
use Rattle.ofn_term.specs.Texts.{HasItems, HasFault, HasAnswer, reads, fails}
use Rattle.text_names.specs.declared.place.Place.{Place}
use Rattle.text_names.specs.Place.{place_after}
use Rattle.ofn_axiom.specs.declared.fault.OffsetFault.{OffsetFault}
use Rattle.ofn_axiom.specs.declared.fault.DocFault.{DocFault}
use Rattle.ofn_axiom.specs.declared.fault.DocFault.TheVariants as doc
use Rattle.ofn_axiom.specs.declared.fault.DocKind.TheVariants as kind
use Rattle.ofn_axiom.specs.declared.types.Document.{Document}
use Rattle.ofn_axiom.specs.declared.types.Names.{Names}
use Rattle.ofn_axiom.specs.declared.types.Mode.{Mode}
use Rattle.ofn_axiom.specs.Taking.{State, place_at}
use Rattle.ofn_axiom.specs.Documents.{document_of, empty, placed, IsReading, IsDocFault, no_text, no_token, unopened, unclosed, too_deep, terms}
use Rattle.ofn_axiom.specs.Answers.{HasDocAnswer, is_read, is_refused}
use Rattle.ofn_axiom.specs.Inside.Places.{term_placed}

-- bytes that are not UTF-8 are so up to a place
abbrev FirstBad : List ℕ → Type 0
FirstBad bs = (k : ℕ) × IsValidUpTo bs k

down : (bs : List ℕ) (n : ℕ) → n ≤ length bs → ((m : ℕ) → n ≤ m → ¬ (IsUtf8 (take m bs))) → FirstBad bs
down bs zero le above = absurd (above 0 (omega arith) IsUtf8-nil)
down bs (suc n) le above = by (is_utf8 (take n bs)) refl (down bs n)
  where
    by : (b : Bool) → is_utf8 (take n bs) ≡ b → (n ≤ length bs → ((m : ℕ) → n ≤ m → ¬ (IsUtf8 (take m bs))) → FirstBad bs) → FirstBad bs
    by true e lower = (n, record { short = omega arith; front = IsUtf8-from_is_utf8 (take n bs) e; longest = λ m l. above m l })
    by false e lower = lower (omega arith) (λ m l utf8. ⊎_elim
        (λ less. let same : m ≡ n = omega arith in let yes : is_utf8 (take n bs) ≡ true = is_utf8-from_IsUtf8 (take n bs) (subst (λ (k : ℕ). IsUtf8 (take k bs)) same utf8) in let both : true ≡ false = sym yes ∙ e in cc)
        (λ more. above m more utf8) (cases_lt m (suc n)))

first_bad : (bs : List ℕ) → is_utf8 bs ≡ false → FirstBad bs
first_bad bs e = down bs (length bs) (omega arith) (λ m l utf8.
    let yes : is_utf8 bs ≡ true = is_utf8-from_IsUtf8 bs (subst IsUtf8 (take_all m bs l) utf8) in let both : true ≡ false = sym yes ∙ e in cc)

-- why a text is refused
data Cause (text : List ℕ) (mode : Mode) (depth : ℕ) (old : Names) (f : DocFault) : Type 0 where
  by_bytes : ¬ (IsUtf8 text) → (n : ℕ) (place : Place) → IsValidUpTo text n → place ≡ place_after (take n text) → f ≡ doc.Syntax place kind.NotUtf8 → Cause text mode depth old f
  by_term : IsUtf8 text → (t : TermFault) → HasFault text depth t → f ≡ term_placed text t → Cause text mode depth old f
  by_said : IsUtf8 text → (items : List Item) (first : OffsetFault) → HasItems text depth items → document_of text mode items (empty, old) ≡ Err first → f ≡ placed text first → Cause text mode depth old f

cause : (text : List ℕ) (mode : Mode) (depth : ℕ) (old : Names) (f : DocFault) → IsDocFault text mode depth old f → Cause text mode depth old f
cause text mode depth old _ (no_text place is) = by_bytes (λ utf8. is.valid.longest (length text) is.valid.short (subst IsUtf8 (sym (take-length text)) utf8)) is.offset place is.valid is.there refl
cause text mode depth old _ (no_token place is) = by_term is.0 (term.Lex is.1) is.2 (ap (λ (p : Place). doc.Syntax p kind.NoToken) is.3)
cause text mode depth old _ (unopened place is) = by_term is.0 (term.Unopened is.1) is.2 (ap (λ (p : Place). doc.Syntax p kind.Unopened) is.3)
cause text mode depth old _ (unclosed place is) = by_term is.0 (term.Unclosed is.1) is.2 (ap (λ (p : Place). doc.Syntax p kind.Unclosed) is.3)
cause text mode depth old _ (too_deep place is) = by_term is.0 (term.TooDeep is.1) is.2 refl
cause text mode depth old f (terms _ is) = by_said is.utf8 is.items is.first is.has is.read (sym is.there)

-- with what is known of items
module _ (some : (text : List ℕ) (most : ℕ) → HasAnswer text most)
    (never_both : (text : List ℕ) (most : ℕ) (items : List Item) (f : TermFault) → HasItems text most items → HasFault text most f → ⊥)
    (one_list : (text : List ℕ) (most : ℕ) (items others : List Item) → HasItems text most items → HasItems text most others → items ≡ others)
    (one_fault : (text : List ℕ) (most : ℕ) (f g : TermFault) → HasFault text most f → HasFault text most g → f ≡ g) where
  -- two causes are one
  one_cause : (text : List ℕ) (mode : Mode) (depth : ℕ) (old : Names) (f g : DocFault) → Cause text mode depth old f → Cause text mode depth old g → f ≡ g
  one_cause text mode depth old f g (by_bytes bad n place valid there e) (by_bytes other m place' valid' there' e') =
      let same : n ≡ m = sym (utf8_valid_len-IsValidUpTo text n valid) ∙ utf8_valid_len-IsValidUpTo text m valid' in
      e ∙ ap (λ (p : Place). doc.Syntax p kind.NotUtf8) (there ∙ ap (λ (k : ℕ). place_after (take k text)) same ∙ sym there') ∙ sym e'
  one_cause text mode depth old f g (by_bytes bad n place valid there e) (by_term utf8 t has e') = absurd (bad utf8)
  one_cause text mode depth old f g (by_bytes bad n place valid there e) (by_said utf8 items first has read e') = absurd (bad utf8)
  one_cause text mode depth old f g (by_term utf8 t has e) (by_bytes bad n place valid there e') = absurd (bad utf8)
  one_cause text mode depth old f g (by_term utf8 t has e) (by_term utf8' t' has' e') = e ∙ ap (term_placed text) (one_fault text depth t t' has has') ∙ sym e'
  one_cause text mode depth old f g (by_term utf8 t has e) (by_said utf8' items first has' read e') = absurd (never_both text depth items t has' has)
  one_cause text mode depth old f g (by_said utf8 items first has read e) (by_bytes bad n place valid there e') = absurd (bad utf8)
  one_cause text mode depth old f g (by_said utf8 items first has read e) (by_term utf8' t has' e') = absurd (never_both text depth items t has has')
  one_cause text mode depth old f g (by_said utf8 items first has read e) (by_said utf8' items' first' has' read' e') =
      let same = ap (λ (is : List Item). document_of text mode is (empty, old)) (one_list text depth items items' has has') in
      let both : Err first ≡ Err first' = sym read ∙ same ∙ read' in
      let equal : first ≡ first' = cc in
      e ∙ ap (placed text) equal ∙ sym e'

  pub one_doc_fault : (text : List ℕ) (mode : Mode) (depth : ℕ) (old : Names) (f g : DocFault) → IsDocFault text mode depth old f → IsDocFault text mode depth old g → f ≡ g
  one_doc_fault text mode depth old f g one other = one_cause text mode depth old f g (cause text mode depth old f one) (cause text mode depth old g other)

  -- no text has both
  not_both : (text : List ℕ) (mode : Mode) (depth : ℕ) (old new : Names) (d : Document) (f : DocFault) → IsReading text mode depth old new d → Cause text mode depth old f → ⊥
  not_both text mode depth old new d f is (by_bytes bad n place valid there e) = bad is.utf8
  not_both text mode depth old new d f is (by_term utf8 t has e) = never_both text depth is.items t is.has has
  not_both text mode depth old new d f is (by_said utf8 items first has read e) =
      let same = ap (λ (js : List Item). document_of text mode js (empty, old)) (one_list text depth is.items items is.has has) in
      let both : Ok (d, new) ≡ Err first = sym is.read ∙ same ∙ read in cc

  pub never_both_doc : (text : List ℕ) (mode : Mode) (depth : ℕ) (old new : Names) (d : Document) (f : DocFault) → IsReading text mode depth old new d → IsDocFault text mode depth old f → ⊥
  never_both_doc text mode depth old new d f is other = not_both text mode depth old new d f is (cause text mode depth old f other)

  -- two readings are one
  pub one_reading : (text : List ℕ) (mode : Mode) (depth : ℕ) (old new new' : Names) (d d' : Document) → IsReading text mode depth old new d → IsReading text mode depth old new' d' → (d ≡ d') × (new ≡ new')
  one_reading text mode depth old new new' d d' one other =
      let same = ap (λ (js : List Item). document_of text mode js (empty, old)) (one_list text depth one.items other.items one.has other.has) in
      let both : Ok (d, new) ≡ Ok (d', new') = sym one.read ∙ same ∙ other.read in
      (ap (λ (r : Result State OffsetFault). document_in r) both, ap (λ (r : Result State OffsetFault). names_in r) both)
    where
      document_in : Result State OffsetFault → Document
      document_in (Ok s) = s.0
      document_in (Err x) = empty

      names_in : Result State OffsetFault → Names
      names_in (Ok s) = s.1
      names_in (Err x) = old

  -- and each text has one or the other
  said : (text : List ℕ) (mode : Mode) (depth : ℕ) (old : Names) (items : List Item) → IsUtf8 text → HasItems text depth items → (r : Result State OffsetFault) → document_of text mode items (empty, old) ≡ r → HasDocAnswer text mode depth old
  said text mode depth old items utf8 has (Ok s) e = is_read s.0 s.1 (record { utf8 = utf8; items = items; has = has; read = e })
  said text mode depth old items utf8 has (Err f) e = is_refused (placed text f) (terms (placed text f) (record { utf8 = utf8; items = items; has = has; first = f; read = e; there = refl }))

  bracket : (text : List ℕ) (mode : Mode) (depth : ℕ) (old : Names) (t : TermFault) → IsUtf8 text → HasFault text depth t → HasDocAnswer text mode depth old
  bracket text mode depth old (term.Lex at) utf8 has = is_refused _ (no_token (place_at text at) (utf8, at, has, refl))
  bracket text mode depth old (term.Unopened at) utf8 has = is_refused _ (unopened (place_at text at) (utf8, at, has, refl))
  bracket text mode depth old (term.Unclosed at) utf8 has = is_refused _ (unclosed (place_at text at) (utf8, at, has, refl))
  bracket text mode depth old (term.TooDeep at) utf8 has = is_refused _ (too_deep (place_at text at) (utf8, at, has, refl))
  bracket text mode depth old term.OutOfMemory utf8 has = absurd has

  within : (text : List ℕ) (mode : Mode) (depth : ℕ) (old : Names) → IsUtf8 text → HasAnswer text depth → HasDocAnswer text mode depth old
  within text mode depth old utf8 (reads items has) = said text mode depth old items utf8 has (document_of text mode items (empty, old)) refl
  within text mode depth old utf8 (fails t has) = bracket text mode depth old t utf8 has

  pub some_answer : (text : List ℕ) (mode : Mode) (depth : ℕ) (old : Names) → HasDocAnswer text mode depth old
  some_answer text mode depth old = by (is_utf8 text) refl (some text depth)
    where
      by : (b : Bool) → is_utf8 text ≡ b → HasAnswer text depth → HasDocAnswer text mode depth old
      by true e has = within text mode depth old (IsUtf8-from_is_utf8 text e) has
      by false e has = let bad = first_bad text e in is_refused _ (no_text (place_after (take bad.0 text)) (record { offset = bad.0; valid = bad.1; there = refl }))
