-- What is read line by line is what the lines say.
use Rattle.std.proofs.Common.{◌≡◌, ◌∙◌, inl, inr, ⊎_elim, ℕ, ◌+◌, ◌<◌, Bool, true, false, cond, List, [], ◌∷◌, ◌++◌, length, refl, ap, sym, subst, arith, append_assoc, append-nil, length-append}
use Rattle.std.specs.Prelude.{Option, Some, None, is_some, Ok, Err, IsSomeAnd, nat_le}
use Rattle.text_names.specs.Prefixes.{Prefixes, iri_of, with_prefix, HasOtherIri}
use Rattle.sssom_head.specs.declared.head.HeadFault.TheVariants.{MapForm, Again}
use Rattle.sssom_head.specs.declared.place.MapPlace.{MapPlace}
use Rattle.sssom_head.specs.declared.place.MapPlace.TheVariants.{Before, Inside, Past}
use Rattle.sssom_head.specs.Contents.{indentation, is_empty_list, is_blank, map_text, begins_map, is_empty_map}
use Rattle.sssom_head.specs.Entries.{IsEntry}
use Rattle.sssom_head.specs.Headers.{BeginNoMap, StaysInside, entry_lines, first_indentation, AreAlike, AreEntries, AreConsistent, map_of, IsInside, HasEmptyMap, HasEndedMap, IsPlace, IsEntryLine, IsFault, IsReading}
use Rattle.sssom_head.specs.HeaderSteps.{Pair, Answer, at_place, entry_of, begun_by, has_indentation, is_other, with_entry, inside_by, other_line, map_line, by_line, step, run, start}
use Rattle.sssom_head.proofs.EntryLaws.{entry_is, entry_of_is}
use Rattle.sssom_head.proofs.PrefixLaws.{with_all_iri, with_all_push, other_is}
use Rattle.sssom_head.proofs.LinePush.{all_push, blank_push, entry_push, entries_push, first_push, first_push, first_stays, consistent_push, StepFound, more_lines, not_more, no_more, unlike, unlike, like_is, like_is}

-- lines inside a map
module _ (n map : ℕ) (entries : Option ℕ) (front : List (List ℕ)) (pairs : Prefixes) (content : List ℕ) (none : map_text content ≡ None) (i : IsInside front map entries pairs) where
  -- a blank line stays in the map
  pub blank_inside : is_blank content ≡ true → IsInside (front ++ content ∷ []) map entries pairs
  blank_inside e =
      let same = blank_push i.since content e in
      record {
        before = i.before;
        own = i.own;
        since = i.since ++ content ∷ [];
        whole = more_lines front i.before i.since i.own content i.whole;
        no_map = i.no_map;
        opens = i.opens;
        map_is = i.map_is;
        no_other = all_push (λ c. map_text c ≡ None) i.since content i.no_other none;
        inside = all_push (StaysInside map) i.since content i.inside (inl e);
        entries_are = i.entries_are ∙ ap first_indentation (sym same);
        alike = subst AreAlike (sym same) i.alike;
        spelled = subst (λ (l : List (List ℕ)). AreEntries l pairs) (sym same) i.spelled;
        consistent = i.consistent;
      }

  -- an entry stays in the map
  pub entry_inside : (pair : Pair) → is_blank content ≡ false → map < indentation content → has_indentation entries (indentation content) ≡ true → IsEntry content pair.0 pair.1 → is_other (iri_of (map_of pairs) pair.0) pair.1 ≡ false →
      IsInside (front ++ content ∷ []) map (Some (indentation content)) (pairs ++ pair ∷ [])
  entry_inside pair visible deeper like form other =
      let more = entry_push i.since content visible in
      let first : has_indentation (first_indentation (entry_lines i.since)) (indentation content) ≡ true = ap (λ (o : Option ℕ). has_indentation o (indentation content)) (sym i.entries_are) ∙ like in
      record {
        before = i.before;
        own = i.own;
        since = i.since ++ content ∷ [];
        whole = more_lines front i.before i.since i.own content i.whole;
        no_map = i.no_map;
        opens = i.opens;
        map_is = i.map_is;
        no_other = all_push (λ c. map_text c ≡ None) i.since content i.no_other none;
        inside = all_push (StaysInside map) i.since content i.inside (inr deeper);
        entries_are = sym (ap first_indentation more ∙ first_push (entry_lines i.since) content first);
        alike = subst AreAlike (sym more) (first_stays (entry_lines i.since) content first i.alike);
        spelled = subst (λ (l : List (List ℕ)). AreEntries l (pairs ++ pair ∷ [])) (sym more) (entries_push (entry_lines i.since) content pairs pair.0 pair.1 i.spelled form);
        consistent = consistent_push pairs pair.0 pair.1 i.consistent other;
      }

  -- a line where an entry has to stand
  pub entry_line : is_blank content ≡ false → map < indentation content → IsEntryLine map content
  entry_line visible deeper = record { no_map = none; visible = visible; deeper = deeper }

  -- an entry that is already there with another value
  pub other_entry : (key value : List ℕ) → is_other (iri_of (map_of pairs) key) value ≡ true → HasOtherIri pairs key value
  other_entry key value e = other_is (iri_of pairs key) value (ap (λ (o : Option (List ℕ)). is_other o value) (sym (with_all_iri [] pairs key)) ∙ e)

  -- what an entry leads to
  pub entry_found : is_blank content ≡ false → map < indentation content → has_indentation entries (indentation content) ≡ true → (o : Option Pair) → entry_of content ≡ o →
      StepFound n front (Inside map entries) pairs content (with_entry n map (indentation content) (map_of pairs) o)
  entry_found visible deeper like None e = (refl, inr (entry_line visible deeper, inr (λ key value form. let some : None ≡ Some (key, value) = sym e ∙ entry_of_is content key value form in cc)))
  entry_found visible deeper like (Some pair) e = by (is_other (iri_of (map_of pairs) pair.0) pair.1) refl
    where
      by : (d : Bool) → is_other (iri_of (map_of pairs) pair.0) pair.1 ≡ d →
          StepFound n front (Inside map entries) pairs content (cond d (Err (Again n)) (at_place (Inside map (Some (indentation content))) (with_prefix (map_of pairs) pair.0 pair.1)))
      by true t = (refl, record { key = pair.0; value = pair.1; line = entry_line visible deeper; like = like_is entries content like; form = entry_is content pair e; other = other_entry pair.0 pair.1 t })
      by false t = record {
        pairs = pairs ++ pair ∷ [];
        sound = entry_inside pair visible deeper like (entry_is content pair e) t;
        entries_are = sym (with_all_push [] pairs pair.0 pair.1);
      }

  -- what a deeper line leads to
  pub deeper_found : is_blank content ≡ false → StepFound n front (Inside map entries) pairs content (inside_by n map entries (map_of pairs) content)
  deeper_found visible = by (nat_le (indentation content) map) refl
    where
      alike : map < indentation content → (d : Bool) → has_indentation entries (indentation content) ≡ d →
          StepFound n front (Inside map entries) pairs content (cond d (with_entry n map (indentation content) (map_of pairs) (entry_of content)) (Err (MapForm n)))
      alike deeper true e = entry_found visible deeper e (entry_of content) refl
      alike deeper false e = (refl, inr (entry_line visible deeper, inl (unlike entries content e)))

      by : (d : Bool) → nat_le (indentation content) map ≡ d →
          StepFound n front (Inside map entries) pairs content (cond d (at_place Past (map_of pairs)) (cond (has_indentation entries (indentation content)) (with_entry n map (indentation content) (map_of pairs) (entry_of content)) (Err (MapForm n))))
      by true e = record {
        pairs = pairs;
        sound = inr (record { map_lines = front; map = map; entries = entries; last = content; after = []; whole = refl; open_map = i; visible = visible; shallow = no_more (indentation content) map e; no_other = (none, tt) });
        entries_are = refl;
      }
      by false e = alike (not_more (indentation content) map e) (has_indentation entries (indentation content)) refl

  -- what a line in the map leads to
  pub inside_found : StepFound n front (Inside map entries) pairs content (other_line n (Inside map entries) (map_of pairs) content)
  inside_found = by (is_blank content) refl
    where
      by : (d : Bool) → is_blank content ≡ d →
          StepFound n front (Inside map entries) pairs content (cond d (at_place (Inside map entries) (map_of pairs)) (inside_by n map entries (map_of pairs) content))
      by true e = record { pairs = pairs; sound = blank_inside e; entries_are = refl }
      by false e = deeper_found e

-- one more line after the map
pub past_push : (front : List (List ℕ)) (pairs : Prefixes) (content : List ℕ) → map_text content ≡ None → IsPlace front Past pairs → IsPlace (front ++ content ∷ []) Past pairs
past_push front pairs content none = ⊎_elim
    (λ (h : HasEmptyMap front pairs). inl (record {
      before = h.before;
      own = h.own;
      text = h.text;
      after = h.after ++ content ∷ [];
      whole = more_lines front h.before h.after h.own content h.whole;
      no_map = h.no_map;
      opens = h.opens;
      braces = h.braces;
      no_other = all_push (λ c. map_text c ≡ None) h.after content h.no_other none;
      none = h.none;
    }))
    (λ (h : HasEndedMap front pairs). inr (record {
      map_lines = h.map_lines;
      map = h.map;
      entries = h.entries;
      last = h.last;
      after = h.after ++ content ∷ [];
      whole = more_lines front h.map_lines h.after h.last content h.whole;
      open_map = h.open_map;
      visible = h.visible;
      shallow = h.shallow;
      no_other = (h.no_other.0, all_push (λ c. map_text c ≡ None) h.after content h.no_other.1 none);
    }))

-- what a line that begins no map leads to
pub other_found : (n : ℕ) (front : List (List ℕ)) (place : MapPlace) (pairs : Prefixes) (content : List ℕ) → map_text content ≡ None → IsPlace front place pairs →
    StepFound n front place pairs content (other_line n place (map_of pairs) content)
other_found n front Before pairs content none h = record { pairs = pairs; sound = (all_push (λ c. map_text c ≡ None) front content h.0 none, h.1); entries_are = refl }
other_found n front Past pairs content none h = record { pairs = pairs; sound = past_push front pairs content none h; entries_are = refl }
other_found n front (Inside map entries) pairs content none h = inside_found n map entries front pairs content none h

-- an empty list is []
pub empty_list : (text : List ℕ) → is_empty_list text ≡ true → text ≡ []
empty_list [] e = refl
empty_list (b ∷ bs) e = absurd cc

-- a map that opens
pub opened : (front : List (List ℕ)) (pairs : Prefixes) (content text : List ℕ) → map_text content ≡ Some text → is_empty_list text ≡ true → BeginNoMap front → pairs ≡ [] → IsInside (front ++ content ∷ []) (indentation content) None pairs
opened front pairs content text e empty none same = record {
  before = front;
  own = content;
  since = [];
  whole = refl;
  no_map = none;
  opens = e ∙ ap (λ (l : List ℕ). Some l) (empty_list text empty);
  map_is = refl;
  no_other = tt;
  inside = tt;
  entries_are = refl;
  alike = tt;
  spelled = subst (AreEntries []) (sym same) tt;
  consistent = subst AreConsistent (sym same) tt;
}

-- what the first line of a map leads to
pub begun_found : (n : ℕ) (front : List (List ℕ)) (pairs : Prefixes) (content text : List ℕ) → map_text content ≡ Some text → IsPlace front Before pairs →
    StepFound n front Before pairs content (begun_by n content (map_of pairs) text)
begun_found n front pairs content text e h = first (is_empty_list text) refl
  where
    second : is_empty_list text ≡ false → (d : Bool) → is_empty_map text ≡ d → StepFound n front Before pairs content (cond d (at_place Past (map_of pairs)) (Err (MapForm n)))
    second some true t = record {
      pairs = pairs;
      sound = inl (record { before = front; own = content; text = text; after = []; whole = refl; no_map = h.0; opens = e; braces = t; no_other = tt; none = h.1 });
      entries_are = refl;
    }
    second some false t = (refl, subst (λ (o : Option (List ℕ)). IsSomeAnd o (λ text. (is_empty_list text ≡ false) × (is_empty_map text ≡ false))) (sym e) (some, t))

    first : (d : Bool) → is_empty_list text ≡ d → StepFound n front Before pairs content (cond d (at_place (Inside (indentation content) None) (map_of pairs)) (cond (is_empty_map text) (at_place Past (map_of pairs)) (Err (MapForm n))))
    first true t = record { pairs = pairs; sound = opened front pairs content text e t h.0 h.1; entries_are = refl }
    first false t = second t (is_empty_map text) refl

-- a line with the text of a map begins one
pub begins_is : (content text : List ℕ) → map_text content ≡ Some text → begins_map content ≡ true
begins_is content text e = ap is_some e

-- what a line that begins a map leads to
pub map_found : (n : ℕ) (front : List (List ℕ)) (place : MapPlace) (pairs : Prefixes) (content text : List ℕ) → map_text content ≡ Some text → IsPlace front place pairs →
    StepFound n front place pairs content (map_line n place (map_of pairs) content text)
map_found n front Before pairs content text e h = begun_found n front pairs content text e h
map_found n front Past pairs content text e h = (refl, begins_is content text e)
map_found n front (Inside map entries) pairs content text e h = (refl, inl (begins_is content text e))

-- what each line leads to
pub step_found : (n : ℕ) (front : List (List ℕ)) (place : MapPlace) (pairs : Prefixes) (content : List ℕ) → IsPlace front place pairs →
    StepFound n front place pairs content (step n (record { place = place; prefixes = map_of pairs }) content)
step_found n front place pairs content h = by (map_text content) refl
  where
    by : (o : Option (List ℕ)) → map_text content ≡ o → StepFound n front place pairs content (by_line n place (map_of pairs) content o)
    by None e = other_found n front place pairs content e h
    by (Some text) e = map_found n front place pairs content text e h

-- from any place on
pub run_found : (n : ℕ) (front : List (List ℕ)) (place : MapPlace) (pairs : Prefixes) (rest : List (List ℕ)) → n ≡ 1 + length front → IsPlace front place pairs →
    IsReading (front ++ rest) (run n (at_place place (map_of pairs)) rest)
run_found n front place pairs [] count h = record { pairs = pairs; sound = subst (λ (l : List (List ℕ)). IsPlace l place pairs) (sym (append-nil front)) h; entries_are = refl }
run_found n front place pairs (content ∷ contents) count h =
    by (step n (record { place = place; prefixes = map_of pairs }) content) (step_found n front place pairs content h)
    (λ place pairs. run_found (n + 1) (front ++ content ∷ []) place pairs contents (omega (arith, count, length-append front (content ∷ []))))
  where
    by : (answer : Answer) → StepFound n front place pairs content answer →
        ((place : MapPlace) (pairs : Prefixes) → IsPlace (front ++ content ∷ []) place pairs → IsReading ((front ++ content ∷ []) ++ contents) (run (n + 1) (at_place place (map_of pairs)) contents)) →
        IsReading (front ++ content ∷ contents) (run (n + 1) answer contents)
    by (Err fault) found rest = ended contents
      where
        ended : (others : List (List ℕ)) → IsReading (front ++ content ∷ others) (run (n + 1) (Err fault) others)
        ended others = record { before = front; content = content; after = others; whole = refl; place = place; pairs = pairs; sound = h; at_fault = subst (λ (line : ℕ). IsFault line place pairs content fault) count found }
    by (Ok state) found rest =
        let more = rest state.place found.pairs found.sound in
        let same : at_place state.place (map_of found.pairs) ≡ Ok state = ap (at_place state.place) (sym found.entries_are) in
        subst (λ (answer : Answer). IsReading (front ++ content ∷ contents) (run (n + 1) answer contents)) same
        (subst (λ (l : List (List ℕ)). IsReading l (run (n + 1) (at_place state.place (map_of found.pairs)) contents)) (append_assoc front (content ∷ []) contents) more)

-- what is read is what the lines say
pub read_is : (lines : List (List ℕ)) → IsReading lines (run 1 start lines)
read_is lines = run_found 1 [] Before [] lines (omega arith) (tt, refl)
