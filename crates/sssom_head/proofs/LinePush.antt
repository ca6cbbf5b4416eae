-- One more line of a header.
use Rattle.std.proofs.Common.{◌≡◌, ◌∙◌, ℕ, ◌≤◌, ◌<◌, Bool, true, false, cond, List, [], ◌∷◌, ◌++◌, refl, ap, sym, arith, append_assoc}
use Rattle.std.specs.Prelude.{Option, Some, None, Ok, Err, nat_le, ◌==◌}
use Rattle.std.specs.List.{AllByRecursion}
use Rattle.std.proofs.lemmas.Bool.Decides.{nat_tests}
use Rattle.text_names.specs.Prefixes.{Prefixes, iri_of}
use Rattle.sssom_head.specs.declared.place.MapPlace.{MapPlace}
use Rattle.sssom_head.specs.Contents.{indentation, is_blank}
use Rattle.sssom_head.specs.Entries.{IsEntry}
use Rattle.sssom_head.specs.Headers.{entry_lines, first_indentation, AreAlike, AreEntries, AreConsistent, map_of, IsPlace, IsUnlike, IsFault}
use Rattle.sssom_head.specs.HeaderSteps.{State, Answer, has_indentation, is_other}
use Rattle.std.specs.Cmp.Lexicographic.{bytes_decides}
use Rattle.sssom_head.proofs.PrefixLaws.{or_iri, iri_append, with_all_iri, same_value}

-- one more line
pub all_push : {X : Type 0} (P : X → Type 0) (xs : List X) (x : X) → AllByRecursion P xs → P x → AllByRecursion P (xs ++ x ∷ [])
all_push P [] x h p = (p, tt)
all_push P (y ∷ ys) x h p = (h.0, all_push P ys x h.1 p)

-- a weaker fact of each
pub all_weaker : {X : Type 0} (P Q : X → Type 0) → ((x : X) → P x → Q x) → (xs : List X) → AllByRecursion P xs → AllByRecursion Q xs
all_weaker P Q f [] h = tt
all_weaker P Q f (x ∷ xs) h = (f x h.0, all_weaker P Q f xs h.1)

-- one more blank line adds no entry
pub blank_push : (lines : List (List ℕ)) (content : List ℕ) → is_blank content ≡ true → entry_lines (lines ++ content ∷ []) ≡ entry_lines lines
blank_push [] content e = ap (λ (d : Bool). cond d [] (content ∷ [])) e
blank_push (line ∷ lines) content e = by (is_blank line) (blank_push lines content e)
  where
    by : (d : Bool) → entry_lines (lines ++ content ∷ []) ≡ entry_lines lines → cond d (entry_lines (lines ++ content ∷ [])) (line ∷ entry_lines (lines ++ content ∷ [])) ≡ cond d (entry_lines lines) (line ∷ entry_lines lines)
    by true h = h
    by false h = ap (λ (l : List (List ℕ)). line ∷ l) h

-- one more line that is not blank is an entry line
pub entry_push : (lines : List (List ℕ)) (content : List ℕ) → is_blank content ≡ false → entry_lines (lines ++ content ∷ []) ≡ entry_lines lines ++ content ∷ []
entry_push [] content e = ap (λ (d : Bool). cond d [] (content ∷ [])) e
entry_push (line ∷ lines) content e = by (is_blank line) (entry_push lines content e)
  where
    by : (d : Bool) → entry_lines (lines ++ content ∷ []) ≡ entry_lines lines ++ content ∷ [] → cond d (entry_lines (lines ++ content ∷ [])) (line ∷ entry_lines (lines ++ content ∷ [])) ≡ cond d (entry_lines lines) (line ∷ entry_lines lines) ++ content ∷ []
    by true h = h
    by false h = ap (λ (l : List (List ℕ)). line ∷ l) h

-- one more entry
pub entries_push : (lines : List (List ℕ)) (content : List ℕ) (pairs : Prefixes) (key value : List ℕ) → AreEntries lines pairs → IsEntry content key value → AreEntries (lines ++ content ∷ []) (pairs ++ (key, value) ∷ [])
entries_push [] content [] key value h e = (e, tt)
entries_push [] content (p ∷ ps) key value h e = absurd h
entries_push (line ∷ lines) content [] key value h e = absurd h
entries_push (line ∷ lines) content (p ∷ ps) key value h e = (h.0, entries_push lines content ps key value h.1 e)

-- the first indentation, with one more line
pub first_push : (lines : List (List ℕ)) (content : List ℕ) → has_indentation (first_indentation lines) (indentation content) ≡ true → first_indentation (lines ++ content ∷ []) ≡ Some (indentation content)
first_push [] content e = refl
first_push (line ∷ lines) content e = ap (λ (n : ℕ). Some n) (let same : indentation line ≡ indentation content = grind (arith, nat_tests) in same)

-- the first indentation is there with one more line
pub first_stays : (lines : List (List ℕ)) (content : List ℕ) → has_indentation (first_indentation lines) (indentation content) ≡ true → AreAlike lines → AreAlike (lines ++ content ∷ [])
first_stays [] content e h = (refl, tt)
first_stays (line ∷ lines) content e h =
    let same : indentation content ≡ indentation line = grind (arith, nat_tests) in
    (refl, all_push (λ c. Some (indentation c) ≡ Some (indentation line)) lines content h.1 (ap (λ (n : ℕ). Some n) same))

-- one more entry that agrees with the others
pub consistent_push : (pairs : Prefixes) (key value : List ℕ) → AreConsistent pairs → is_other (iri_of (map_of pairs) key) value ≡ false → AreConsistent (pairs ++ (key, value) ∷ [])
consistent_push pairs key value h e =
    let more = pairs ++ (key, value) ∷ [] in
    all_push (λ pair. iri_of more pair.0 ≡ Some pair.1) pairs (key, value)
    (all_weaker (λ pair. iri_of pairs pair.0 ≡ Some pair.1) (λ pair. iri_of more pair.0 ≡ Some pair.1)
    (λ pair first. iri_append pairs ((key, value) ∷ []) pair.0 ∙ ap (λ (o : Option (List ℕ)). or_iri o (iri_of ((key, value) ∷ []) pair.0)) first) pairs h)
    (iri_append pairs ((key, value) ∷ []) key ∙ ap (or_iri (iri_of pairs key)) (own_iri key value)
    ∙ same_value (iri_of pairs key) value (ap (λ (o : Option (List ℕ)). is_other o value) (sym (with_all_iri [] pairs key)) ∙ e))
  where
    own_iri : (key value : List ℕ) → iri_of ((key, value) ∷ []) key ≡ Some value
    own_iri key value = ap (λ (d : Bool). cond d (Some value) None) ((bytes_decides key key).1 refl)

-- what a step leads to
pub record Leads (lines : List (List ℕ)) (state : State) : Type 0 where
  pub pairs : Prefixes
  pub sound : IsPlace lines state.place pairs
  pub entries_are : state.prefixes ≡ map_of pairs

-- what a step finds of the lines so far
abbrev pub StepFound : ℕ → List (List ℕ) → MapPlace → Prefixes → List ℕ → Answer → Type 0
StepFound n front place pairs content (Ok state) = Leads (front ++ content ∷ []) state
StepFound n front place pairs content (Err fault) = IsFault n place pairs content fault

-- one more line after those of a map
pub more_lines : (front before since : List (List ℕ)) (own content : List ℕ) → front ≡ before ++ own ∷ since → front ++ content ∷ [] ≡ before ++ own ∷ (since ++ content ∷ [])
more_lines front before since own content e = ap (λ (l : List (List ℕ)). l ++ content ∷ []) e ∙ append_assoc before (own ∷ since) (content ∷ [])

-- a failed comparison is the other way round
pub not_more : (a b : ℕ) → nat_le a b ≡ false → b < a
not_more a b e = grind (arith, nat_tests)

-- a comparison that holds
pub no_more : (a b : ℕ) → nat_le a b ≡ true → a ≤ b
no_more a b e = grind (arith, nat_tests)

-- another indentation than that of the entries
pub unlike : (entries : Option ℕ) (content : List ℕ) → has_indentation entries (indentation content) ≡ false → IsUnlike entries content
unlike None content e = absurd cc
unlike (Some n) content e = λ same. let yes : (n == indentation content) ≡ true = grind (arith, nat_tests) in absurd cc

-- the same indentation as that of the entries
pub like_is : (entries : Option ℕ) (content : List ℕ) → has_indentation entries (indentation content) ≡ true → ¬ (IsUnlike entries content)
like_is None content e = λ h. h
like_is (Some n) content e = λ h. h (let same : n ≡ indentation content = grind (arith, nat_tests) in same)
