-- What is left out of documents stands in the order of its places.
use Rattle.std.proofs.Common.{◌≡◌, ◌≤◌, ◌<◌, inl, inr, ◌&&◌, ℕ, ◌+◌, ◌-◌, ◌^◌, Bool, true, cond, List, [], ◌∷◌, ◌++◌, length, map, take, refl, sym, ap, subst, ◌∙◌, arith, append-nil, append_assoc, IsUtf8, IsCharBoundary, Some, None, nat_le}
use Rattle.std.specs.Prelude.{slice_range}
use Rattle.std.proofs.lemmas.Bool.Decides.{nat_tests}
use Rattle.std.proofs.lemmas.Str.{IsUtf8-take, is_utf8-from_IsUtf8, IsCharBoundary-start}
use Rattle.byte_words.specs.Fronts.{without_mark}
use Rattle.text_names.specs.declared.limits.Limits.{Limits}
use Rattle.text_names.specs.declared.place.Place.{Place}
use Rattle.text_names.specs.Place.{place_after, IsPlaceBefore}
use Rattle.text_names.specs.Prefixes.{Prefixes}
use Rattle.el_logic.specs.declared.types.Side.{Side}
use Rattle.el_logic.specs.declared.types.Side.TheVariants as side
use Rattle.ofn_lex.specs.declared.token.Token.{Token}
use Rattle.ofn_lex.specs.Texts.{IsNext, IsTokenOf}
use Rattle.ofn_term.specs.declared.item.Item.{Item}
use Rattle.ofn_term.specs.Writing.{opening, closing, token_of, tokens_of}
use Rattle.ofn_heads.specs.Names.{text_of}
use Rattle.ofn_axiom.specs.declared.types.Direct.{Direct}
use Rattle.ofn_axiom.specs.declared.types.Direct.TheVariants as direct
use Rattle.ofn_axiom.specs.declared.types.Document.{Document}
use Rattle.ofn_axiom.specs.declared.types.Names.{Names}
use Rattle.ofn_axiom.specs.declared.types.Mode.{Mode}
use Rattle.ofn_axiom.specs.declared.types.Omitted.{Omitted}
use Rattle.ofn_axiom.specs.Taking.{State, place_at, with_direct}
use Rattle.ofn_axiom.specs.Documents.{empty, IsReading}
use Rattle.ofn_axiom.proofs.ReadLaws.{mark_shorter}
use Rattle.ofn_axiom.specs.DocumentText.{said, omitted, AreTaken, all_taken, one_taken, IsOntology, ontology, IsDocument, document, IsDocumentText}
use Rattle.case_load.specs.Loads.{Inputs, IsLoaded}
use Rattle.case_load.specs.declared.texts.Loaded.{Loaded}
use Rattle.evidence_lines.specs.declared.types.SidedOmitted.{SidedOmitted}
use Rattle.evidence_lines.specs.Omitted.{is_earlier, omitted_before}
use Rattle.evidence_text.specs.EvidenceText.{of_side, omitted_list, InOrder}
use Rattle.loaded_names.proofs.Written.{Written}
use Rattle.loaded_names.proofs.Starts.{StandFrom, front_stands, more_stands, tokens_stand, goes_on, first_and_rest, front_and_more, group_tokens, outside_starts}

-- ---- what is left out of a text

-- the places of these are of offsets from this one on, each after the one before, where characters
-- of the text begin
abbrev pub LieFrom : List ℕ → ℕ → List Omitted → Type 0
LieFrom text from [] = Unit {0}
LieFrom text from (o ∷ os) = (at : ℕ) × (from ≤ at) × IsCharBoundary text at × (o.place ≡ place_at text at) × LieFrom text (at + 1) os

-- a list with more that lie so
record Adds (text : List ℕ) (from : ℕ) (old new : List Omitted) : Type 0 where
  more : List Omitted
  whole : new ≡ old ++ more
  lie : LieFrom text from more

with_direct_leaves : (names : Names) (d : Direct) (read : Document) → (with_direct names d read).omitted ≡ read.omitted
with_direct_leaves names (direct.Axiom a) read = refl
with_direct_leaves names direct.Nothing read = refl
with_direct_leaves names (direct.Class iri) read = refl
with_direct_leaves names (direct.Property iri) read = refl

lie_earlier : (text : List ℕ) (from earlier : ℕ) (os : List Omitted) → earlier ≤ from → LieFrom text from os → LieFrom text earlier os
lie_earlier text from earlier [] less lie = tt
lie_earlier text from earlier (o ∷ os) less lie = let after : earlier ≤ lie.0 = omega (arith, lie.1) in (lie.0, after, lie.2, lie.3, lie.4)

module _ (written : Written) (text : List ℕ) (mode : Mode) where
  module _ (prefixes : Prefixes) where
    -- what items leave out is added, in order
    items_add : (from : ℕ) (is : List Item) (state last : State) → StandFrom text from (tokens_of is) → AreTaken text prefixes mode is state last
        → Adds text from state.0.omitted last.0.omitted
    items_add from _ _ _ stand (all_taken state) = record { more = []; whole = sym (append-nil state.0.omitted); lie = tt }
    items_add from _ _ _ stand (one_taken i is state _ last (said _ d _ names of held) rest) =
        let split = subst (StandFrom text from) (first_and_rest i is) stand in
        let next : State = (with_direct names d state.0, names) in
        let adds = items_add from is next last (more_stands text from (tokens_of (i ∷ [])) (tokens_of is) split) rest in
        record { more = adds.more; whole = adds.whole ∙ ap (λ (l : List Omitted). l ++ adds.more) (with_direct_leaves names d state.0); lie = adds.lie }
    items_add from _ _ _ stand (one_taken i is state _ last (omitted _ at outside _ el of) rest) =
        let split = subst (StandFrom text from) (first_and_rest i is) stand in
        let on = goes_on text from at (tokens_of (i ∷ [])) (tokens_of is) (outside_starts written text prefixes i at outside of) split in
        let entry : Omitted = record { place = place_at text at; head = outside } in
        let next : State = (record { axioms = state.0.axioms; omitted = state.0.omitted ++ entry ∷ [] }, state.1) in
        let adds = items_add (at + 1) is next last on.rest rest in
        record {
          more = entry ∷ adds.more;
          whole = adds.whole ∙ append_assoc state.0.omitted (entry ∷ []) adds.more;
          lie = (at, on.after, on.character, refl, adds.lie);
        }

    ontology_adds : (from : ℕ) (o : Item) (state last : State) → StandFrom text from (tokens_of (o ∷ [])) → IsOntology text prefixes mode o state last
        → Adds text from state.0.omitted last.0.omitted
    ontology_adds from _ _ _ stand (ontology word iris directs start end state last at names few taken) =
        let whole = subst (StandFrom text from) (group_tokens written word (iris ++ directs) start end) stand in
        let inner = front_stands text from (tokens_of (iris ++ directs)) (token_of (closing end) ∷ [])
        (more_stands text from (word ∷ token_of (opening start) ∷ []) (tokens_of (iris ++ directs) ++ token_of (closing end) ∷ []) whole) in
        items_add from directs state last (more_stands text from (tokens_of iris) (tokens_of directs) (subst (StandFrom text from) (front_and_more iris directs) inner)) taken

  document_adds : (is : List Item) (state last : State) → StandFrom text 0 (tokens_of is) → IsDocument text mode is state last → Adds text 0 state.0.omitted last.0.omitted
  document_adds _ _ _ stand (document before o prefixes state last declared is) =
      ontology_adds prefixes 0 o state last (more_stands text 0 (tokens_of before) (tokens_of (o ∷ [])) (subst (StandFrom text 0) (front_and_more before (o ∷ [])) stand)) is

-- ---- places ascend with offsets

-- the laws of lower crates that this rests on
pub record Placed : Type 0 where
  pub written : Written
  pub next : (text : List ℕ) (from : ℕ) (token : Token) → IsNext text from token → (from ≤ token.start) × IsTokenOf text token
  pub says : (text : List ℕ) (mode : Mode) (depth : ℕ) (old new : Names) (document : Document)
      → IsReading text mode depth old new document → IsDocumentText text mode depth old new document
  pub ascend : (text : List ℕ) (one other : ℕ) → one < other → other ≤ length text → length text < 2 ^ 63 → IsUtf8 (take one text) → IsUtf8 (take other text)
      → IsPlaceBefore (place_after (take one text)) (place_after (take other text))

-- the place of an offset is that after the front up to it
place_is : (text : List ℕ) (at : ℕ) → IsUtf8 text → IsCharBoundary text at → place_at text at ≡ place_after (take at text)
unfolding text_of
place_is text at utf8 character =
    let test : (nat_le 0 at && nat_le at (length text)) ≡ true = grind (arith, nat_tests, character.0) in
    let all : at - 0 ≡ at = omega arith in
    let slice : slice_range text 0 at ≡ take at text = ap (λ (n : ℕ). take n text) all in
    ap place_after (ap (λ (b : Bool). cond b (text_of (slice_range text 0 at)) []) test ∙ ap text_of slice
    ∙ ap (λ (b : Bool). cond b (take at text) []) (is_utf8-from_IsUtf8 (take at text) (IsUtf8-take text at utf8 character)))

tested : (p q : Place) → IsPlaceBefore p q → is_earlier p q ≡ true
tested p q (inl less) = grind (arith, nat_tests)
tested p q (inr both) = grind (arith, nat_tests)

module _ (placed : Placed) (text : List ℕ) (utf8 : IsUtf8 text) (fits : length text < 2 ^ 63) where
  earlier : (one other : ℕ) (p q : Place) → one < other → IsCharBoundary text one → IsCharBoundary text other → p ≡ place_at text one → q ≡ place_at text other
      → is_earlier p q ≡ true
  earlier one other p q less first second there here =
      tested p q (subst (λ (p : Place). IsPlaceBefore p q) (sym (there ∙ place_is text one utf8 first))
      (subst (IsPlaceBefore (place_after (take one text))) (sym (here ∙ place_is text other utf8 second))
      (placed.ascend text one other less second.0 fits (IsUtf8-take text one utf8 first) (IsUtf8-take text other utf8 second))))

  -- those of one document, before what may follow any of them
  side_in_order : (s : Side) (rest : List SidedOmitted) → ((o : Omitted) → InOrder omitted_before (Some (of_side s o)) rest)
      → (o : Omitted) (at : ℕ) → IsCharBoundary text at → o.place ≡ place_at text at
      → (os : List Omitted) → LieFrom text (at + 1) os → InOrder omitted_before (Some (of_side s o)) (map (of_side s) os ++ rest)
  side_in_order s rest last o at character there [] lie = last o
  side_in_order s rest last o at character there (p ∷ os) lie =
      (by s (earlier at lie.0 o.place p.place (omega (arith, lie.1)) character lie.2 there lie.3), side_in_order s rest last p lie.0 lie.2 lie.3 os lie.4)
    where
      by : (s : Side) → is_earlier o.place p.place ≡ true → omitted_before (of_side s o) (of_side s p) ≡ true
      by side.Left is = is
      by side.Right is = is

module _ (placed : Placed) (left right : List ℕ) (left_utf8 : IsUtf8 left) (right_utf8 : IsUtf8 right)
    (left_fits : length left < 2 ^ 63) (right_fits : length right < 2 ^ 63) where
  -- what is left out of RIGHT is in order
  after_right : (p : Omitted) (os : List Omitted) → LieFrom right 0 (p ∷ os) → InOrder omitted_before (Some (of_side side.Right p)) (map (of_side side.Right) os)
  after_right p os lie =
      subst (InOrder omitted_before (Some (of_side side.Right p))) (append-nil (map (of_side side.Right) os))
      (side_in_order placed right right_utf8 right_fits side.Right [] (λ o. tt) p lie.0 lie.2 lie.3 os lie.4)

  -- and what is left out of RIGHT may follow any of LEFT
  right_follow : (os : List Omitted) → LieFrom right 0 os → (o : Omitted) → InOrder omitted_before (Some (of_side side.Left o)) (map (of_side side.Right) os)
  right_follow [] lie o = tt
  right_follow (p ∷ os) lie o = (refl, after_right p os lie)

  in_order : (lefts rights : List Omitted) → LieFrom left 0 lefts → LieFrom right 0 rights
      → InOrder omitted_before None (map (of_side side.Left) lefts ++ map (of_side side.Right) rights)
  in_order [] [] lie lie' = tt
  in_order [] (p ∷ rights) lie lie' = after_right p rights lie'
  in_order (o ∷ lefts) rights lie lie' =
      side_in_order placed left left_utf8 left_fits side.Left (map (of_side side.Right) rights) (right_follow rights lie') o lie.0 lie.2 lie.3 lefts lie.4

-- ---- what is left out of both documents

module _ (placed : Placed) where
  -- what a document leaves out
  reading_leaves : (text : List ℕ) (mode : Mode) (depth : ℕ) (old new : Names) (d : Document) → IsReading text mode depth old new d → IsUtf8 text × LieFrom text 0 d.omitted
  reading_leaves text mode depth old new d reading =
      let is = placed.says text mode depth old new d reading in
      let tokens = tokens_stand placed.next text is.utf8 0 is.has.tokens (IsCharBoundary-start text is.utf8) is.has.read in
      let stand = subst (StandFrom text 0) (sym is.has.stand.written) tokens in
      let adds = document_adds placed.written text mode is.items (empty, old) (d, new) stand is.says in
      (is.utf8, subst (LieFrom text 0) (sym adds.whole) adds.lie)

  unmarked_fits : (text : List ℕ) → length text < 2 ^ 63 → length (without_mark text) < 2 ^ 63
  unmarked_fits text fits = omega (arith, fits, mark_shorter text)

  pub left_out_in_order : (texts : Inputs) (mode : Mode) (limits : Limits) (loaded : Loaded) → length texts.left < 2 ^ 63 → length texts.right < 2 ^ 63
      → IsLoaded texts mode limits loaded → InOrder omitted_before None (omitted_list loaded.omitted)
  left_out_in_order texts mode limits loaded left_fits right_fits is =
      let read = is.read.documents_read in
      let left = reading_leaves (without_mark texts.left) mode limits.depth _ read.left_names is.documents.left read.left_read in
      let right = reading_leaves (without_mark texts.right) mode limits.depth read.left_names is.documents.names is.documents.right read.right_read in
      in_order placed (without_mark texts.left) (without_mark texts.right) left.0 right.0 (unmarked_fits texts.left left_fits) (unmarked_fits texts.right right_fits)
      loaded.omitted.left loaded.omitted.right
      (subst (LieFrom (without_mark texts.left) 0) (sym is.made.left_omitted) left.1)
      (subst (LieFrom (without_mark texts.right) 0) (sym is.made.right_omitted) right.1)
