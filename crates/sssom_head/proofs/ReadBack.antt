-- What the lines say is what is read.
use Rattle.std.proofs.Common.{◌≡◌, ◌∙◌, ◌⊎◌, inl, inr, ⊎_elim, ℕ, ◌+◌, ◌≤◌, ◌<◌, Bool, true, false, cond, List, [], ◌∷◌, ◌++◌, length, refl, ap, sym, arith, append_assoc, append-nil}
use Rattle.std.specs.Prelude.{Option, Some, None, is_some, Ok, Err, IsSomeAnd, nat_le, ◌==◌}
use Rattle.std.specs.List.{AllByRecursion}
use Rattle.std.proofs.lemmas.Bool.Decides.{nat_tests}
use Rattle.text_names.specs.Prefixes.{Prefixes, iri_of, with_prefix}
use Rattle.sssom_head.specs.declared.head.HeadFault.{HeadFault}
use Rattle.sssom_head.specs.declared.head.HeadFault.TheVariants.{MapForm, Again, OutOfMemory}
use Rattle.sssom_head.specs.declared.place.MapPlace.{MapPlace}
use Rattle.sssom_head.specs.declared.place.MapPlace.TheVariants.{Before, Inside, Past}
use Rattle.sssom_head.specs.Contents.{indentation, is_empty_list, is_blank, map_text, begins_map, is_empty_map}
use Rattle.sssom_head.specs.Entries.{IsEntry}
use Rattle.sssom_head.specs.Headers.{BeginNoMap, StaysInside, entry_lines, first_indentation, AreEntries, map_of, IsInside, HasEmptyMap, HasEndedMap, IsPlace, IsEntryLine, IsUnlike, IsMapFault, IsAgainAt, IsFault, IsReading}
use Rattle.sssom_head.specs.HeaderSteps.{Pair, Answer, at_place, entry_of, begun_by, has_indentation, is_other, with_entry, inside_by, other_line, map_line, by_line, step, run, start}
use Rattle.sssom_head.proofs.EntryLaws.{entry_is, entry_of_is}
use Rattle.sssom_head.proofs.PrefixLaws.{iri_append, with_all_iri, with_all_push, is_other_value, no_other_value}

-- what the lines say is what is read
pub run_append : (n : ℕ) (answer : Answer) (xs ys : List (List ℕ)) → run n answer (xs ++ ys) ≡ run (n + length xs) (run n answer xs) ys
run_append n (Err fault) xs ys = ended xs
  where
    ends : (n : ℕ) (ys : List (List ℕ)) → run n (Err fault) ys ≡ Err fault
    ends n [] = refl
    ends n (y ∷ ys) = refl

    ended : (xs : List (List ℕ)) → run n (Err fault) (xs ++ ys) ≡ run (n + length xs) (run n (Err fault) xs) ys
    ended [] = let same : n ≡ n + 0 = omega arith in ap (λ (k : ℕ). run k (Err fault) ys) same
    ended (x ∷ xs) = sym (ends (n + length (x ∷ xs)) ys)
run_append n (Ok state) [] ys = let same : n ≡ n + 0 = omega arith in ap (λ (k : ℕ). run k (Ok state) ys) same
run_append n (Ok state) (x ∷ xs) ys =
    let same : n + 1 + length xs ≡ n + length (x ∷ xs) = omega arith in
    run_append (n + 1) (step n state x) xs ys ∙ ap (λ (k : ℕ). run k (run (n + 1) (step n state x) xs) ys) same

-- a step at a line that begins no map
pub step_none : (n : ℕ) (place : MapPlace) (prefixes : Prefixes) (content : List ℕ) → map_text content ≡ None → step n (record { place = place; prefixes = prefixes }) content ≡ other_line n place prefixes content
step_none n place prefixes content e = ap (by_line n place prefixes content) e

-- a step at a line that begins one
pub step_some : (n : ℕ) (place : MapPlace) (prefixes : Prefixes) (content text : List ℕ) → map_text content ≡ Some text → step n (record { place = place; prefixes = prefixes }) content ≡ map_line n place prefixes content text
step_some n place prefixes content text e = ap (by_line n place prefixes content) e

-- lines without a map, before one
pub run_before : (n : ℕ) (prefixes : Prefixes) (lines : List (List ℕ)) → BeginNoMap lines → run n (at_place Before prefixes) lines ≡ at_place Before prefixes
run_before n prefixes [] h = refl
run_before n prefixes (content ∷ contents) h = ap (λ (a : Answer). run (n + 1) a contents) (step_none n Before prefixes content h.0) ∙ run_before (n + 1) prefixes contents h.1

-- lines without a map, after one
pub run_past : (n : ℕ) (prefixes : Prefixes) (lines : List (List ℕ)) → BeginNoMap lines → run n (at_place Past prefixes) lines ≡ at_place Past prefixes
run_past n prefixes [] h = refl
run_past n prefixes (content ∷ contents) h = ap (λ (a : Answer). run (n + 1) a contents) (step_none n Past prefixes content h.0) ∙ run_past (n + 1) prefixes contents h.1

-- the indentation of the entries so far, after more lines
abbrev pub after_entries : Option ℕ → Option ℕ → List (List ℕ) → Option ℕ
after_entries entries all [] = entries
after_entries entries all (content ∷ contents) = all

-- the indentation of all entries stays
pub after_all : (all : Option ℕ) (lines : List (List ℕ)) → after_entries all all lines ≡ all
after_all all [] = refl
after_all all (content ∷ contents) = refl

-- a greater number is not less or equal
pub more_is : (a b : ℕ) → b < a → nat_le a b ≡ false
more_is a b h = grind (arith, nat_tests)

-- a number that is less or equal
pub less_is : (a b : ℕ) → a ≤ b → nat_le a b ≡ true
less_is a b h = grind (arith, nat_tests)

-- the entries so far, if any, have the indentation of all
abbrev pub FitsAll : Option ℕ → Option ℕ → Type 0
FitsAll entries all = (entries ≡ None) ⊎ (entries ≡ all)

-- an entry of that indentation fits
pub fits_like : (entries all : Option ℕ) (n : ℕ) → FitsAll entries all → Some n ≡ all → has_indentation entries n ≡ true
fits_like entries all n h e = ⊎_elim
    (λ (none : entries ≡ None). ap (λ (o : Option ℕ). has_indentation o n) none)
    (λ (same : entries ≡ all). ap (λ (o : Option ℕ). has_indentation o n) (same ∙ sym e) ∙ let own : (n == n) ≡ true = grind (arith, nat_tests) in own)
    h

-- a line that stays in the map and is not blank is deeper
pub stays_deeper : (map : ℕ) (content : List ℕ) → StaysInside map content → is_blank content ≡ false → map < indentation content
stays_deeper map content h e = ⊎_elim (λ (blank : is_blank content ≡ true). absurd cc) (λ deeper. deeper) h

-- a step at an entry
pub entry_step : (n map : ℕ) (entries : Option ℕ) (front : Prefixes) (content : List ℕ) (pair : Pair) → map_text content ≡ None → is_blank content ≡ false → map < indentation content →
    has_indentation entries (indentation content) ≡ true → IsEntry content pair.0 pair.1 → is_other (iri_of (map_of front) pair.0) pair.1 ≡ false →
    step n (record { place = Inside map entries; prefixes = map_of front }) content ≡ at_place (Inside map (Some (indentation content))) (map_of (front ++ pair ∷ []))
entry_step n map entries front content pair none visible deeper like form other =
    step_none n (Inside map entries) (map_of front) content none
    ∙ ap (λ (d : Bool). cond d (at_place (Inside map entries) (map_of front)) (inside_by n map entries (map_of front) content)) visible
    ∙ ap (λ (d : Bool). cond d (at_place Past (map_of front)) (cond (has_indentation entries (indentation content)) (with_entry n map (indentation content) (map_of front) (entry_of content)) (Err (MapForm n)))) (more_is (indentation content) map deeper)
    ∙ ap (λ (d : Bool). cond d (with_entry n map (indentation content) (map_of front) (entry_of content)) (Err (MapForm n))) like
    ∙ ap (with_entry n map (indentation content) (map_of front)) (entry_of_is content pair.0 pair.1 form)
    ∙ ap (λ (d : Bool). cond d (Err (Again n)) (at_place (Inside map (Some (indentation content))) (with_prefix (map_of front) pair.0 pair.1))) other
    ∙ ap (at_place (Inside map (Some (indentation content)))) (sym (with_all_push [] front pair.0 pair.1))

-- the keys that stand in front of an entry have not another value
pub entry_agrees : (front rest : Prefixes) (pair : Pair) → iri_of (front ++ pair ∷ rest) pair.0 ≡ Some pair.1 → is_other (iri_of (map_of front) pair.0) pair.1 ≡ false
entry_agrees front rest pair e =
    ap (λ (o : Option (List ℕ)). is_other o pair.1) (with_all_iri [] front pair.0)
    ∙ no_other_value (iri_of front pair.0) (iri_of (pair ∷ rest) pair.0) pair.1 (sym (iri_append front (pair ∷ rest) pair.0) ∙ e)

-- the lines of a map since its first
pub run_since : (n map : ℕ) (entries all : Option ℕ) (front : Prefixes) (lines : List (List ℕ)) (pairs whole : Prefixes) → whole ≡ front ++ pairs → BeginNoMap lines → AllByRecursion (StaysInside map) lines → FitsAll entries all →
    AllByRecursion (λ content. Some (indentation content) ≡ all) (entry_lines lines) → AreEntries (entry_lines lines) pairs → AllByRecursion (λ pair. iri_of whole pair.0 ≡ Some pair.1) pairs →
    run n (at_place (Inside map entries) (map_of front)) lines ≡ at_place (Inside map (after_entries entries all (entry_lines lines))) (map_of whole)
run_since n map entries all front [] [] whole w none inside fits alike spelled agree = ap (λ (ps : Prefixes). at_place (Inside map entries) (map_of ps)) (sym (append-nil front) ∙ sym w)
run_since n map entries all front [] (pair ∷ pairs) whole w none inside fits alike spelled agree = absurd spelled
run_since n map entries all front (content ∷ contents) pairs whole w none inside fits alike spelled agree =
    by (is_blank content) refl alike spelled
    (λ entries front pairs w fits alike spelled agree. run_since (n + 1) map entries all front contents pairs whole w none.1 inside.1 fits alike spelled agree)
  where
    by : (d : Bool) → is_blank content ≡ d →
        AllByRecursion (λ content. Some (indentation content) ≡ all) (cond d (entry_lines contents) (content ∷ entry_lines contents)) →
        AreEntries (cond d (entry_lines contents) (content ∷ entry_lines contents)) pairs →
        ((entries : Option ℕ) (front pairs : Prefixes) → whole ≡ front ++ pairs → FitsAll entries all → AllByRecursion (λ content. Some (indentation content) ≡ all) (entry_lines contents) → AreEntries (entry_lines contents) pairs → AllByRecursion (λ pair. iri_of whole pair.0 ≡ Some pair.1) pairs →
        run (n + 1) (at_place (Inside map entries) (map_of front)) contents ≡ at_place (Inside map (after_entries entries all (entry_lines contents))) (map_of whole)) →
        run (n + 1) (step n (record { place = Inside map entries; prefixes = map_of front }) content) contents ≡ at_place (Inside map (after_entries entries all (cond d (entry_lines contents) (content ∷ entry_lines contents)))) (map_of whole)
    by true blank a s rest =
        ap (λ (answer : Answer). run (n + 1) answer contents)
        (step_none n (Inside map entries) (map_of front) content none.0 ∙ ap (λ (d : Bool). cond d (at_place (Inside map entries) (map_of front)) (inside_by n map entries (map_of front) content)) blank)
        ∙ rest entries front pairs w fits a s agree
    by false visible a s rest = entry pairs w s agree
      where
        entry : (pairs : Prefixes) → whole ≡ front ++ pairs → AreEntries (content ∷ entry_lines contents) pairs → AllByRecursion (λ pair. iri_of whole pair.0 ≡ Some pair.1) pairs →
            run (n + 1) (step n (record { place = Inside map entries; prefixes = map_of front }) content) contents ≡ at_place (Inside map all) (map_of whole)
        entry [] w s agree = absurd s
        entry (pair ∷ others) w s agree =
            let first : iri_of (front ++ pair ∷ others) pair.0 ≡ Some pair.1 = ap (λ (ps : Prefixes). iri_of ps pair.0) (sym w) ∙ agree.0 in
            let stepped = entry_step n map entries front content pair none.0 visible (stays_deeper map content inside.0 visible) (fits_like entries all (indentation content) fits a.0) s.0 (entry_agrees front others pair first) in
            ap (λ (answer : Answer). run (n + 1) answer contents) stepped
            ∙ rest (Some (indentation content)) (front ++ pair ∷ []) others (w ∙ sym (append_assoc front (pair ∷ []) others)) (inr a.0) a.1 s.1 agree.1
            ∙ ap (λ (o : Option ℕ). at_place (Inside map o) (map_of whole)) (ap (λ (o : Option ℕ). after_entries o all (entry_lines contents)) a.0 ∙ after_all all (entry_lines contents))

-- the first indentation is that of all
pub first_after : (lines : List (List ℕ)) → after_entries None (first_indentation lines) lines ≡ first_indentation lines
first_after [] = refl
first_after (content ∷ contents) = refl

-- a map is read
pub inside_read : (lines : List (List ℕ)) (map : ℕ) (entries : Option ℕ) (pairs : Prefixes) → IsInside lines map entries pairs → run 1 start lines ≡ at_place (Inside map entries) (map_of pairs)
inside_read lines map entries pairs i =
    let all = first_indentation (entry_lines i.since) in
    let n = 1 + length i.before in
    ap (run 1 start) i.whole
    ∙ run_append 1 start i.before (i.own ∷ i.since)
    ∙ ap (λ (a : Answer). run n a (i.own ∷ i.since)) (run_before 1 [] i.before i.no_map)
    ∙ ap (λ (a : Answer). run (n + 1) a i.since) (step_some n Before [] i.own [] i.opens)
    ∙ ap (λ (k : ℕ). run (n + 1) (at_place (Inside k None) []) i.since) (sym i.map_is)
    ∙ run_since (n + 1) map None all [] i.since pairs pairs refl i.no_other i.inside (inl refl) i.alike i.spelled i.consistent
    ∙ ap (λ (o : Option ℕ). at_place (Inside map o) (map_of pairs)) (first_after (entry_lines i.since) ∙ sym i.entries_are)

-- a map that is written {} is read
pub empty_read : (lines : List (List ℕ)) (pairs : Prefixes) → HasEmptyMap lines pairs → run 1 start lines ≡ at_place Past (map_of pairs)
empty_read lines pairs h =
    let n = 1 + length h.before in
    ap (run 1 start) h.whole
    ∙ run_append 1 start h.before (h.own ∷ h.after)
    ∙ ap (λ (a : Answer). run n a (h.own ∷ h.after)) (run_before 1 [] h.before h.no_map)
    ∙ ap (λ (a : Answer). run (n + 1) a h.after) (step_some n Before [] h.own h.text h.opens)
    ∙ ap (λ (a : Answer). run (n + 1) a h.after) (begun n h.own h.text h.braces)
    ∙ run_past (n + 1) [] h.after h.no_other
    ∙ ap (λ (ps : Prefixes). at_place Past (map_of ps)) (sym h.none)
  where
    begun : (n : ℕ) (own text : List ℕ) → is_empty_map text ≡ true → begun_by n own [] text ≡ at_place Past []
    begun n own [] e = absurd cc
    begun n own (b ∷ bs) e = ap (λ (d : Bool). cond d (at_place Past []) (Err (MapForm n))) e

-- a map that has ended is read
pub ended_read : (lines : List (List ℕ)) (pairs : Prefixes) → HasEndedMap lines pairs → run 1 start lines ≡ at_place Past (map_of pairs)
ended_read lines pairs h =
    let n = 1 + length h.map_lines in
    ap (run 1 start) h.whole
    ∙ run_append 1 start h.map_lines (h.last ∷ h.after)
    ∙ ap (λ (a : Answer). run n a (h.last ∷ h.after)) (inside_read h.map_lines h.map h.entries pairs h.open_map)
    ∙ ap (λ (a : Answer). run (n + 1) a h.after)
    (step_none n (Inside h.map h.entries) (map_of pairs) h.last h.no_other.0
    ∙ ap (λ (d : Bool). cond d (at_place (Inside h.map h.entries) (map_of pairs)) (inside_by n h.map h.entries (map_of pairs) h.last)) h.visible
    ∙ ap (λ (d : Bool). cond d (at_place Past (map_of pairs)) (cond (has_indentation h.entries (indentation h.last)) (with_entry n h.map (indentation h.last) (map_of pairs) (entry_of h.last)) (Err (MapForm n)))) (less_is (indentation h.last) h.map h.shallow))
    ∙ run_past (n + 1) (map_of pairs) h.after h.no_other.1

-- lines without a fault are read
pub place_read : (lines : List (List ℕ)) (place : MapPlace) (pairs : Prefixes) → IsPlace lines place pairs → run 1 start lines ≡ at_place place (map_of pairs)
place_read lines Before pairs h = run_before 1 [] lines h.0 ∙ ap (λ (ps : Prefixes). at_place Before (map_of ps)) (sym h.1)
place_read lines Past pairs h = ⊎_elim (empty_read lines pairs) (ended_read lines pairs) h
place_read lines (Inside map entries) pairs h = inside_read lines map entries pairs h

-- a line that begins a map, as a step
pub map_some : (n : ℕ) (place : MapPlace) (prefixes : Prefixes) (content : List ℕ) → begins_map content ≡ true →
    ((text : List ℕ) → map_text content ≡ Some text → map_line n place prefixes content text ≡ Err (MapForm n)) → step n (record { place = place; prefixes = prefixes }) content ≡ Err (MapForm n)
map_some n place prefixes content e next = by (map_text content) refl e
  where
    by : (o : Option (List ℕ)) → map_text content ≡ o → is_some o ≡ true → by_line n place prefixes content (map_text content) ≡ Err (MapForm n)
    by None t h = absurd cc
    by (Some text) t h = step_some n place prefixes content text t ∙ next text t

-- a first line of another form is a fault
pub malformed : (n : ℕ) (prefixes : Prefixes) (content : List ℕ) → IsMapFault Before content → step n (record { place = Before; prefixes = prefixes }) content ≡ Err (MapForm n)
malformed n prefixes content h = by (map_text content) refl h
  where
    begun : (text : List ℕ) → (is_empty_list text ≡ false) × (is_empty_map text ≡ false) → begun_by n content prefixes text ≡ Err (MapForm n)
    begun text both =
        ap (λ (d : Bool). cond d (at_place (Inside (indentation content) None) prefixes) (cond (is_empty_map text) (at_place Past prefixes) (Err (MapForm n)))) both.0
        ∙ ap (λ (d : Bool). cond d (at_place Past prefixes) (Err (MapForm n))) both.1

    by : (o : Option (List ℕ)) → map_text content ≡ o → IsSomeAnd o (λ text. (is_empty_list text ≡ false) × (is_empty_map text ≡ false)) → by_line n Before prefixes content (map_text content) ≡ Err (MapForm n)
    by None t h = absurd h
    by (Some text) t h = step_some n Before prefixes content text t ∙ begun text h

-- a line in the place of an entry
pub at_entry : (n map : ℕ) (entries : Option ℕ) (prefixes : Prefixes) (content : List ℕ) → IsEntryLine map content →
    step n (record { place = Inside map entries; prefixes = prefixes }) content ≡ cond (has_indentation entries (indentation content)) (with_entry n map (indentation content) prefixes (entry_of content)) (Err (MapForm n))
at_entry n map entries prefixes content line =
    step_none n (Inside map entries) prefixes content line.no_map
    ∙ ap (λ (d : Bool). cond d (at_place (Inside map entries) prefixes) (inside_by n map entries prefixes content)) line.visible
    ∙ ap (λ (d : Bool). cond d (at_place Past prefixes) (cond (has_indentation entries (indentation content)) (with_entry n map (indentation content) prefixes (entry_of content)) (Err (MapForm n)))) (more_is (indentation content) map line.deeper)

-- another indentation
pub unlike_is : (entries : Option ℕ) (content : List ℕ) → IsUnlike entries content → has_indentation entries (indentation content) ≡ false
unlike_is None content h = absurd h
unlike_is (Some m) content h = grind (arith, nat_tests)

-- no other indentation
pub like_again : (entries : Option ℕ) (content : List ℕ) → ¬ (IsUnlike entries content) → has_indentation entries (indentation content) ≡ true
like_again None content h = refl
like_again (Some m) content h = by (m == indentation content) refl
  where
    by : (d : Bool) → (m == indentation content) ≡ d → d ≡ true
    by true e = refl
    by false e = absurd (h (λ same. let yes : (m == indentation content) ≡ true = grind (arith, nat_tests) in cc))

-- a line that is no entry
pub no_entry : (content : List ℕ) → ((key value : List ℕ) → IsEntry content key value → ⊥) → entry_of content ≡ None
no_entry content h = by (entry_of content) refl
  where
    by : (o : Option Pair) → entry_of content ≡ o → o ≡ None
    by None e = refl
    by (Some pair) e = absurd (h pair.0 pair.1 (entry_is content pair e))

-- an entry of another form or indentation is a fault
pub bad_entry : (n map : ℕ) (entries : Option ℕ) (prefixes : Prefixes) (content : List ℕ) → IsUnlike entries content ⊎ ((key value : List ℕ) → IsEntry content key value → ⊥) →
    cond (has_indentation entries (indentation content)) (with_entry n map (indentation content) prefixes (entry_of content)) (Err (MapForm n)) ≡ Err (MapForm n)
bad_entry n map entries prefixes content h = ⊎_elim
    (λ (other : IsUnlike entries content). ap (λ (d : Bool). cond d (with_entry n map (indentation content) prefixes (entry_of content)) (Err (MapForm n))) (unlike_is entries content other))
    (λ (formless : (key value : List ℕ) → IsEntry content key value → ⊥).
    ap (λ (o : Option Pair). cond (has_indentation entries (indentation content)) (with_entry n map (indentation content) prefixes o) (Err (MapForm n))) (no_entry content formless)
    ∙ either (has_indentation entries (indentation content)))
    h
  where
    either : (d : Bool) → cond d (with_entry n map (indentation content) prefixes None) (Err (MapForm n)) ≡ Err (MapForm n)
    either true = refl
    either false = refl

-- a line that has no form of a map is a fault
pub map_fault_read : (n : ℕ) (place : MapPlace) (pairs : Prefixes) (content : List ℕ) → IsMapFault place content → step n (record { place = place; prefixes = map_of pairs }) content ≡ Err (MapForm n)
map_fault_read n Before pairs content h = malformed n (map_of pairs) content h
map_fault_read n Past pairs content h = map_some n Past (map_of pairs) content h (λ text e. refl)
map_fault_read n (Inside map entries) pairs content h = ⊎_elim
    (λ (begins : begins_map content ≡ true). map_some n (Inside map entries) (map_of pairs) content begins (λ text e. refl))
    (λ bad. at_entry n map entries (map_of pairs) content bad.0 ∙ bad_entry n map entries (map_of pairs) content bad.1)
    h

-- a prefix with another value is a fault
pub again_read : (n : ℕ) (place : MapPlace) (pairs : Prefixes) (content : List ℕ) → IsAgainAt place pairs content → step n (record { place = place; prefixes = map_of pairs }) content ≡ Err (Again n)
again_read n Before pairs content h = absurd h
again_read n Past pairs content h = absurd h
again_read n (Inside map entries) pairs content h =
    at_entry n map entries (map_of pairs) content h.line
    ∙ ap (λ (d : Bool). cond d (with_entry n map (indentation content) (map_of pairs) (entry_of content)) (Err (MapForm n))) (like_again entries content h.like)
    ∙ ap (with_entry n map (indentation content) (map_of pairs)) (entry_of_is content h.key h.value h.form)
    ∙ ap (λ (d : Bool). cond d (Err (Again n)) (at_place (Inside map (Some (indentation content))) (with_prefix (map_of pairs) h.key h.value)))
    (ap (λ (o : Option (List ℕ)). is_other o h.value) (with_all_iri [] pairs h.key) ∙ is_other_value (iri_of pairs h.key) h.value h.other)

-- a line that is wrong is read as its fault
pub fault_read : (n : ℕ) (place : MapPlace) (pairs : Prefixes) (content : List ℕ) (fault : HeadFault) → IsFault n place pairs content fault → step n (record { place = place; prefixes = map_of pairs }) content ≡ Err fault
fault_read n place pairs content (MapForm line) h = map_fault_read n place pairs content h.1 ∙ ap (λ (k : ℕ). Err (MapForm k)) (sym h.0)
fault_read n place pairs content (Again line) h = again_read n place pairs content h.1 ∙ ap (λ (k : ℕ). Err (Again k)) (sym h.0)
fault_read n place pairs content OutOfMemory h = absurd h

-- a fault stays
pub run_fault : (n : ℕ) (fault : HeadFault) (lines : List (List ℕ)) → run n (Err fault) lines ≡ Err fault
run_fault n fault [] = refl
run_fault n fault (content ∷ contents) = refl

-- what the lines say is read
pub is_read : (lines : List (List ℕ)) (answer : Answer) → IsReading lines answer → run 1 start lines ≡ answer
is_read lines (Ok state) h = place_read lines state.place h.pairs h.sound ∙ ap (at_place state.place) (sym h.entries_are)
is_read lines (Err fault) h =
    let n = 1 + length h.before in
    ap (run 1 start) h.whole
    ∙ run_append 1 start h.before (h.content ∷ h.after)
    ∙ ap (λ (a : Answer). run n a (h.content ∷ h.after)) (place_read h.before h.place h.pairs h.sound)
    ∙ ap (λ (a : Answer). run (n + 1) a h.after) (fault_read n h.place h.pairs h.content fault h.at_fault)
    ∙ run_fault (n + 1) fault h.after
