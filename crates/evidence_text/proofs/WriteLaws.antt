-- Lines that are put one after another.
use Rattle.std.proofs.Common.{◌≡◌, ℕ, ◌+◌, List, [], ◌∷◌, ◌++◌, map, length, ap, sym, ◌∙◌, append_assoc, arith}
use Rattle.std.proofs.lemmas.List.{append-nil, length-append, length-map, map-append}
use Rattle.std.proofs.lemmas.List.Concat.{flat_map-cons}
use Rattle.std.proofs.lemmas.Grind.{flat_map-append}
use Rattle.el_logic.specs.declared.types.Side.TheVariants as side
use Rattle.ofn_axiom.specs.declared.types.SideOmitted.{SideOmitted}
use Rattle.line_fields.specs.Lines.{Fields, line, text_of}
use Rattle.evidence_lines.specs.Omitted.{omitted_fields}
use Rattle.evidence_text.specs.EvidenceText.{of_side, omitted_list}

-- one line before others
pub line_more : (text : List ℕ) (first : Fields) (lines : List Fields) → (text ++ line first) ++ text_of lines ≡ text ++ text_of (first ∷ lines)
line_more text first lines = append_assoc text (line first) (text_of lines) ∙ ap (λ t. text ++ t) (sym (flat_map-cons line first lines))

-- lines after others
pub lines_more : (text : List ℕ) (lines more : List Fields) → (text ++ text_of lines) ++ text_of more ≡ text ++ text_of (lines ++ more)
lines_more text lines more = append_assoc text (text_of lines) (text_of more) ∙ ap (λ t. text ++ t) (sym (flat_map-append line lines more))

-- the axioms that are left out: their number, and their lines
pub omitted_count : (o : SideOmitted) → length (omitted_list o) ≡ length o.left + length o.right
omitted_count o = omega (arith, length-append (map (of_side side.Left) o.left) (map (of_side side.Right) o.right), length-map o.left (of_side side.Left), length-map o.right (of_side side.Right))

pub omitted_texts : (text : List ℕ) (o : SideOmitted)
    → (text ++ text_of (map omitted_fields (map (of_side side.Left) o.left))) ++ text_of (map omitted_fields (map (of_side side.Right) o.right))
    ≡ text ++ text_of (map omitted_fields (omitted_list o))
omitted_texts text o =
    lines_more text (map omitted_fields (map (of_side side.Left) o.left)) (map omitted_fields (map (of_side side.Right) o.right))
    ∙ ap (λ l. text ++ text_of l) (sym (map-append omitted_fields (map (of_side side.Left) o.left) (map (of_side side.Right) o.right)))

five_parts : (a b c d e : List ℕ) → (((a ++ b) ++ c) ++ d) ++ e ≡ a ++ (b ++ (c ++ (d ++ e)))
five_parts a b c d e = simp append_assoc

-- two lines, lines, more lines, and a last one
pub whole_text : (version kind : Fields) (lists body : List Fields) (end : Fields)
    → (((([] ++ line version) ++ line kind) ++ text_of lists) ++ text_of body) ++ line end ≡ text_of (version ∷ kind ∷ (lists ++ (body ++ end ∷ [])))
whole_text version kind lists body end =
    let last : text_of (end ∷ []) ≡ line end = flat_map-cons line end [] ∙ append-nil (line end) in
    let rest : text_of (lists ++ (body ++ end ∷ [])) ≡ text_of lists ++ (text_of body ++ line end) =
    flat_map-append line lists (body ++ end ∷ []) ∙ ap (λ t. text_of lists ++ t) (flat_map-append line body (end ∷ []) ∙ ap (λ t. text_of body ++ t) last) in
    five_parts (line version) (line kind) (text_of lists) (text_of body) (line end)
    ∙ ap (λ t. line version ++ (line kind ++ t)) (sym rest)
    ∙ ap (λ t. line version ++ t) (sym (flat_map-cons line kind (lists ++ (body ++ end ∷ []))))
    ∙ sym (flat_map-cons line version (kind ∷ (lists ++ (body ++ end ∷ []))))
