-- A line of an axiom that is left out is read as what it spells, and as nothing else.
use Rattle.std.proofs.Common.{◌≡◌, ℕ, List, [], ◌∷◌, refl, ap, ◌∙◌, Some}
use Rattle.std.specs.Prelude.{decimal, ⊤}
use Rattle.ofn_heads.specs.declared.outside.HeadId.{HeadId}
use Rattle.ofn_heads.specs.Heads.{name_of, id_named}
use Rattle.line_fields.specs.Lines.{Fields}
use Rattle.line_fields.specs.Reading.{◌>>=◌, long_in}
use Rattle.evidence_lines.specs.declared.types.SidedOmitted.{SidedOmitted}
use Rattle.evidence_lines.specs.Names.{side_word, side_in, if_end}
use Rattle.evidence_lines.specs.Omitted.{omitted_fields, head_in, sided, omitted_of, ArePlaceNumbers}
use Rattle.evidence_lines.proofs.Found.{NumberLaw, bound, none_is, Takes, Makes, makes, rest_is, long_takes}
use Rattle.evidence_lines.proofs.NameLaws.{if_end_is, side_takes, side_again}

-- heads are found by their names alone
pub record HeadLaw : Type 0 where
  pub found : (head : HeadId) → id_named (name_of head) ≡ Some head
  pub named : (name : List ℕ) (head : HeadId) → id_named name ≡ Some head → name ≡ name_of head

abbrev one_head : HeadId → Fields
one_head head = name_of head ∷ []

head_takes : HeadLaw → (fields : Fields) (found : HeadId × Fields) → head_in fields ≡ Some found → Takes one_head (λ h. ⊤) fields found
head_takes law [] found e = none_is found e
head_takes law (word ∷ rest) found e =
    let is = rest_is rest (id_named word) found e in
    record { whole = ap (λ w. w ∷ rest) (law.named word found.0 is.0) ∙ ap (λ r. name_of found.0 ∷ r) is.1; fits = tt }

pub omitted_back : NumberLaw → HeadLaw → (fields : Fields) (o : SidedOmitted) → omitted_of fields ≡ Some o → Makes omitted_fields ArePlaceNumbers fields o
unfolding omitted_of
omitted_back law heads fields o e =
    let s = bound (side_in fields) (λ s. long_in s.1 >>= λ l. long_in l.1 >>= λ c. head_in c.1 >>= λ h. if_end h.1 (sided s.0 l.0 c.0 h.0)) o e in
    let l = bound (long_in s.found.1) (λ l. long_in l.1 >>= λ c. head_in c.1 >>= λ h. if_end h.1 (sided s.found.0 l.0 c.0 h.0)) o s.later in
    let c = bound (long_in l.found.1) (λ c. head_in c.1 >>= λ h. if_end h.1 (sided s.found.0 l.found.0 c.0 h.0)) o l.later in
    let h = bound (head_in c.found.1) (λ h. if_end h.1 (sided s.found.0 l.found.0 c.found.0 h.0)) o c.later in
    let made = sided s.found.0 l.found.0 c.found.0 h.found.0 in
    let last = if_end_is h.found.1 made o h.later in
    let ts = side_takes fields s.found s.is in
    let tl = long_takes law s.found.1 l.found l.is in
    let tc = long_takes law l.found.1 c.found c.is in
    let th = head_takes heads c.found.1 h.found h.is in
    makes omitted_fields ArePlaceNumbers fields made o (ap (λ x. Some x) last.1)
    (ts.whole ∙ ap (λ r. side_word s.found.0 ∷ r) (tl.whole ∙ ap (λ r. decimal l.found.0 ∷ r) (tc.whole ∙ ap (λ r. decimal c.found.0 ∷ r) (th.whole ∙ ap (λ r. name_of h.found.0 ∷ r) last.0))))
    (record { line = tl.fits; column = tc.fits })

pub omitted_again : NumberLaw → HeadLaw → (o : SidedOmitted) → ArePlaceNumbers o → omitted_of (omitted_fields o) ≡ Some o
unfolding omitted_of
omitted_again law heads o fits =
    let line = o.omitted.place.line in
    let column = o.omitted.place.column in
    rw (side_again o.side (decimal line ∷ decimal column ∷ name_of o.omitted.head ∷ []), law.long_again line fits.line, law.long_again column fits.column, heads.found o.omitted.head) refl
