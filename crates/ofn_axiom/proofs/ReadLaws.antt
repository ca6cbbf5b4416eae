-- Faults of a document, from those of its bytes, its items and what they say.
use Rattle.std.proofs.Common.{◌≡◌, ℕ, ◌≤◌, Bool, true, false, cond, List, length, take, drop, refl, subst, arith}
use Rattle.std.specs.Prelude.{Some, None, Err, IsUtf8, bytes_eq, unwrap_or}
use Rattle.std.proofs.lemmas.List.{length-drop}
use Rattle.byte_words.specs.Fronts.{byte_order_mark, without_mark}
use Rattle.std.specs.Str.{IsValidUpTo}
use Rattle.byte_words.specs.Faults.{OrOutOfMemory}
use Rattle.ofn_term.specs.declared.item.Item.{Item}
use Rattle.ofn_term.specs.declared.fault.TermFault.{TermFault}
use Rattle.ofn_term.specs.declared.fault.TermFault.TheVariants as term
use Rattle.ofn_term.specs.Texts.{HasItems, IsFirstFault}
use Rattle.text_names.specs.declared.place.Place.{Place}
use Rattle.text_names.specs.Place.{place_after}
use Rattle.ofn_axiom.specs.declared.fault.OffsetFault.{OffsetFault}
use Rattle.ofn_axiom.specs.declared.fault.OffsetFault.TheVariants as fault
use Rattle.ofn_axiom.specs.declared.fault.DocFault.TheVariants as doc
use Rattle.ofn_axiom.specs.declared.fault.DocKind.TheVariants as kind
use Rattle.ofn_axiom.specs.declared.types.Names.{Names}
use Rattle.ofn_axiom.specs.declared.types.Mode.{Mode}
use Rattle.ofn_axiom.specs.Taking.{place_at}
use Rattle.ofn_axiom.specs.Documents.{document_of, empty, placed, IsNoText, IsDocFault, no_text, no_token, unopened, unclosed, too_deep, terms, doc_ran_out}
use Rattle.ofn_axiom.specs.Inside.Places.{term_placed}

-- a text without its mark is not longer
pub mark_shorter : (bytes : List ℕ) → length (without_mark bytes) ≤ length bytes
mark_shorter bytes = by (bytes_eq (take (length byte_order_mark) bytes) byte_order_mark)
  where
    by : (b : Bool) → length (unwrap_or (cond b (Some (drop 3 bytes)) None) bytes) ≤ length bytes
    by true = omega (arith, length-drop 3 bytes)
    by false = omega arith

-- bytes that are not UTF-8
pub no_text_here : (text whole : List ℕ) (mode : Mode) (depth : ℕ) (old : Names) (n : ℕ) (place : Place) → text ≡ whole → IsValidUpTo text n → place ≡ place_after (take n text) → IsDocFault whole mode depth old (doc.Syntax place kind.NotUtf8)
no_text_here text whole mode depth old n place same valid there = no_text place (subst (λ (t : List ℕ). IsNoText t place) same (record { offset = n; valid = valid; there = there }))

-- a fault of tokens or brackets
pub term_fault_here : (text : List ℕ) (mode : Mode) (depth : ℕ) (old : Names) (found : TermFault) → IsUtf8 text → IsFirstFault text depth found → OrOutOfMemory doc_ran_out (IsDocFault text mode depth old) (term_placed text found)
term_fault_here text mode depth old (term.Lex at) utf8 has = no_token (place_at text at) (utf8, at, has, refl)
term_fault_here text mode depth old (term.Unopened at) utf8 has = unopened (place_at text at) (utf8, at, has, refl)
term_fault_here text mode depth old (term.Unclosed at) utf8 has = unclosed (place_at text at) (utf8, at, has, refl)
term_fault_here text mode depth old (term.TooDeep at) utf8 has = too_deep (place_at text at) (utf8, at, has, refl)
term_fault_here text mode depth old term.OutOfMemory utf8 has = tt

-- a fault of what items say
pub said_fault_here : (text : List ℕ) (mode : Mode) (depth : ℕ) (old : Names) (items : List Item) (found : OffsetFault) → IsUtf8 text → HasItems text depth items → document_of text mode items (empty, old) ≡ Err found → OrOutOfMemory doc_ran_out (IsDocFault text mode depth old) (placed text found)
said_fault_here text mode depth old items found utf8 has read = by found (terms (placed text found) (record { utf8 = utf8; items = items; has = has; first = found; read = read; there = refl }))
  where
    by : (f : OffsetFault) → IsDocFault text mode depth old (placed text f) → OrOutOfMemory doc_ran_out (IsDocFault text mode depth old) (placed text f)
    by (fault.Head at) is = is
    by (fault.Shape at) is = is
    by (fault.PrefixUnknown at) is = is
    by (fault.PrefixClash at) is = is
    by (fault.NoOntology at) is = is
    by (fault.Profile at head) is = is
    by fault.TooManyClasses is = is
    by fault.TooManyProperties is = is
