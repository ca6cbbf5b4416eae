-- The answer of a header.
use Rattle.std.proofs.Common.{◌≡◌, ◌∙◌, ℕ, cond, List, refl, ap, sym, subst}
use Rattle.std.specs.Prelude.{Option, Some, None, is_some, Result, Ok, Err}
use Rattle.text_names.specs.Prefixes.{Prefixes, iri_of, is_declared}
use Rattle.sssom_head.specs.declared.head.HeadFault.{HeadFault}
use Rattle.sssom_head.specs.declared.head.HeadFault.TheVariants.{MapForm, Again, OutOfMemory}
use Rattle.sssom_head.specs.Entries.{IsEntry}
use Rattle.sssom_head.specs.BuiltIn.{built_in, with_built_in}
use Rattle.sssom_head.specs.declared.head.Head.{Head}
use Rattle.sssom_head.specs.Lines.{contents_of}
use Rattle.sssom_head.specs.Heads.{read, IsHeadRead, IsHeader}
use Rattle.sssom_head.specs.Headers.{IsFirstFault, IsReading}
use Rattle.sssom_head.specs.HeaderSteps.{Pair}
use Rattle.sssom_head.proofs.EntryLaws.{entry_of_is}
use Rattle.sssom_head.proofs.PrefixLaws.{or_iri, with_all_iri}
use Rattle.sssom_head.proofs.FoundLaws.{read_is}

-- the answer of a header
fault_says : (bytes : List ℕ) (fault : HeadFault) → read bytes ≡ Err fault → IsFirstFault (contents_of bytes) fault
fault_says bytes fault e = subst (IsReading (contents_of bytes)) e (read_is (contents_of bytes))

-- the answer of a header is what its lines say
pub header_is : (bytes : List ℕ) (result : Result Head HeadFault) → IsHeadRead bytes result → IsHeader bytes result
header_is bytes (Ok head) h = record {
  place = h.map.place;
  entries = h.entries;
  sound = subst (IsReading (contents_of bytes)) h.map.map (read_is (contents_of bytes));
  counted = h.map.counted;
  prefixes = h.prefixes;
}
header_is bytes (Err (MapForm line)) h = fault_says bytes (MapForm line) h
header_is bytes (Err (Again line)) h = fault_says bytes (Again line) h
header_is bytes (Err OutOfMemory) h = tt

-- a line is one entry at most
pub one_entry : (content key value other_key other : List ℕ) → IsEntry content key value → IsEntry content other_key other → (key ≡ other_key) × (value ≡ other)
one_entry content key value other_key other h k =
    let one : Pair = (key, value) in
    let two : Pair = (other_key, other) in
    let same : Some one ≡ Some two = sym (entry_of_is content key value h) ∙ entry_of_is content other_key other k in
    let pair : one ≡ two = cc in
    (ap (λ (p : Pair). p.0) pair, ap (λ (p : Pair). p.1) pair)

-- an entry of the header comes before a built-in one
pub built_in_last : (entries : Prefixes) (prefix : List ℕ) → iri_of (with_built_in entries) prefix ≡ cond (is_declared entries prefix) (iri_of entries prefix) (iri_of built_in prefix)
built_in_last entries prefix = with_all_iri entries built_in prefix ∙ by (iri_of entries prefix)
  where
    by : (o : Option (List ℕ)) → or_iri o (iri_of built_in prefix) ≡ cond (is_some o) o (iri_of built_in prefix)
    by None = refl
    by (Some iri) = refl
