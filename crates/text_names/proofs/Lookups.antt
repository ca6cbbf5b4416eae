-- Where a name stands among the keys.
use Rattle.std.proofs.Common.{◌≡◌, ◌≢◌, ℕ, zero, suc, ◌+◌, ◌-◌, ◌<◌, ◌≤◌, Bool, true, false, cond, ◌&&◌, ⊎_elim, List, [], ◌∷◌, ◌++◌, Option, Some, None, is_some, refl, sym, ap, ◌∙◌, arith}
use Rattle.std.specs.Prelude.{◌==◌, nat_lt, bytes_eq, position}
use Rattle.std.specs.List.{position_from}
use Rattle.std.specs.Map.{lookup, keys_of, values_of}
use Rattle.std.specs.Cmp.Lexicographic.{bytes_decides}
use Rattle.std.proofs.lemmas.Iterator.Adapters.{position_from-zero}
use Rattle.std.proofs.lemmas.Bool.Decides.{nat_tests, eqb_tells}
use Rattle.std.proofs.lemmas.List.Sums.{sum_by_push, sum_by-cons}
use Rattle.text_names.specs.Names.{number_of}
use Rattle.text_names.specs.Inside.NameKeys.{hash_of, count_with_hash, keys_behind}

-- the key of the names of hash h that has o such names before it
abbrev pub is_key : ℕ → ℕ → ℕ × ℕ → Bool
is_key h o key = (h == key.0) && (o == key.1)

-- the number of a name, from k on, where d names of hash h are passed over
abbrev pub seek : ℕ → ℕ → ℕ → List ℕ → List (List ℕ) → Option ℕ
seek k h d name [] = None
seek k h d name (n ∷ ns) = cond (hash_of n == h) (cond (d == 0) (cond (bytes_eq name n) (Some k) (seek (k + 1) h 0 name ns)) (seek (k + 1) h (d - 1) name ns)) (seek (k + 1) h d name ns)

-- a name of that hash, with none to pass over, is compared
pub seek_here : (k h : ℕ) (name n : List ℕ) (ns : List (List ℕ)) → hash_of n ≡ h → seek k h 0 name (n ∷ ns) ≡ cond (bytes_eq name n) (Some k) (seek (k + 1) h 0 name ns)
seek_here k h name n ns e = let t : (hash_of n == h) ≡ true = grind (arith, nat_tests) in rw t refl

-- a name of that hash is passed over
pub seek_past : (k h d : ℕ) (name n : List ℕ) (ns : List (List ℕ)) → hash_of n ≡ h → seek k h (d + 1) name (n ∷ ns) ≡ seek (k + 1) h d name ns
seek_past k h d name n ns e =
    let t : (hash_of n == h) ≡ true = grind (arith, nat_tests) in
    let z : (d + 1 == 0) ≡ false = grind (arith, nat_tests) in
    let m : d + 1 - 1 ≡ d = omega arith in
    rw (t, z, m) refl

-- a name of another hash does not count
pub seek_other : (k h d : ℕ) (name n : List ℕ) (ns : List (List ℕ)) → hash_of n ≢ h → seek k h d name (n ∷ ns) ≡ seek (k + 1) h d name ns
seek_other k h d name n ns e = let f : (hash_of n == h) ≡ false = grind (arith, nat_tests) in rw f refl

-- one more name counted
pub count_push : (before : List (List ℕ)) (n : List ℕ) (h : ℕ) → count_with_hash (before ++ n ∷ []) h ≡ count_with_hash before h + cond (hash_of n == h) 1 0
count_push before n h = sum_by_push (λ (other : List ℕ). cond (hash_of other == h) 1 0) before n

-- one more name of that hash
pub count_same : (before : List (List ℕ)) (n : List ℕ) (h : ℕ) → hash_of n ≡ h → count_with_hash (before ++ n ∷ []) h ≡ count_with_hash before h + 1
count_same before n h e = let t : cond {A = ℕ} (hash_of n == h) 1 0 ≡ 1 = grind (arith, nat_tests) in count_push before n h ∙ ap (λ (m : ℕ). count_with_hash before h + m) t

-- one more name of another hash
pub count_other : (before : List (List ℕ)) (n : List ℕ) (h : ℕ) → hash_of n ≢ h → count_with_hash (before ++ n ∷ []) h ≡ count_with_hash before h
count_other before n h e =
    let t : cond {A = ℕ} (hash_of n == h) 1 0 ≡ 0 = grind (arith, nat_tests) in
    let more : count_with_hash (before ++ n ∷ []) h ≡ count_with_hash before h + cond (hash_of n == h) 1 0 = count_push before n h in
    omega (arith, t, more)

-- the answer of a look-up: the name there, or the answer with one more passed over
abbrev pub next : List ℕ → Option ℕ → Option (List ℕ) → Option ℕ → Option ℕ
next name None found later = None
next name (Some k) None later = None
next name (Some k) (Some n) later = cond (bytes_eq name n) (Some k) later

module _ (t : ℕ × ℕ → Bool) (name : List ℕ) (k : ℕ) (e : (ℕ × ℕ) × List ℕ) (es : List ((ℕ × ℕ) × List ℕ)) (later : Option ℕ) where
  -- the first entry has the key
  pub found_here : t e.0 ≡ true → next name (position_from t k (keys_of (e ∷ es))) (lookup t (e ∷ es)) later ≡ cond (bytes_eq name e.1) (Some k) later
  found_here there = rw there refl

  -- the first entry has another key
  pub found_later : t e.0 ≡ false → next name (position_from t k (keys_of (e ∷ es))) (lookup t (e ∷ es)) later ≡ next name (position_from t (k + 1) (keys_of es)) (lookup t es) later
  found_later away = rw away refl

-- the first key, and those after it
pub first_key : (before : List (List ℕ)) (e : (ℕ × ℕ) × List ℕ) (es : List ((ℕ × ℕ) × List ℕ)) → keys_of (e ∷ es) ≡ keys_behind before (values_of (e ∷ es)) →
    (e.0.0 ≡ hash_of e.1) × (e.0.1 ≡ count_with_hash before (hash_of e.1)) × (keys_of es ≡ keys_behind (before ++ e.1 ∷ []) (values_of es))
first_key before e es keyed = (cc, cc, cc)

-- the key of a name with no more of its hash before it
pub key_is : (h o : ℕ) (before : List (List ℕ)) (e : (ℕ × ℕ) × List ℕ) → e.0.0 ≡ hash_of e.1 → e.0.1 ≡ count_with_hash before (hash_of e.1) → hash_of e.1 ≡ h → o ≡ count_with_hash before h → is_key h o e.0 ≡ true
key_is h o before e hash place same at =
    let count : count_with_hash before (hash_of e.1) ≡ count_with_hash before h = ap (count_with_hash before) same in
    let one : h ≡ e.0.0 = sym same ∙ sym hash in
    let two : o ≡ e.0.1 = at ∙ sym count ∙ sym place in
    grind (arith, nat_tests)

-- a key with a greater count is not that of this name
pub key_is_later : (h o d : ℕ) (before : List (List ℕ)) (e : (ℕ × ℕ) × List ℕ) → e.0.1 ≡ count_with_hash before (hash_of e.1) → hash_of e.1 ≡ h → o ≡ count_with_hash before h + suc d → is_key h o e.0 ≡ false
key_is_later h o d before e place same at =
    let count : count_with_hash before (hash_of e.1) ≡ count_with_hash before h = ap (count_with_hash before) same in
    let two : e.0.1 < o = omega (arith, count, place, at) in
    grind (arith, nat_tests)

-- nor is a key of another hash
pub key_is_other : (h o : ℕ) (e : (ℕ × ℕ) × List ℕ) → e.0.0 ≡ hash_of e.1 → hash_of e.1 ≢ h → is_key h o e.0 ≡ false
key_is_other h o e hash other =
    let one : h ≢ e.0.0 = λ same. other (sym hash ∙ sym same) in
    grind (arith, nat_tests)

-- a look-up after k entries, and what it tells of the search there
abbrev pub answer : (h o : ℕ) (name : List ℕ) (k : ℕ) → List ((ℕ × ℕ) × List ℕ) → Option ℕ → Option ℕ
answer h o name k es later = next name (position_from (is_key h o) k (keys_of es)) (lookup (is_key h o) es) later

module _ (h o : ℕ) (name : List ℕ) (k : ℕ) (before : List (List ℕ)) (e : (ℕ × ℕ) × List ℕ) (es : List ((ℕ × ℕ) × List ℕ))
    (hash : e.0.0 ≡ hash_of e.1) (place : e.0.1 ≡ count_with_hash before (hash_of e.1))
    (rest : (c : ℕ) → o ≡ count_with_hash (before ++ e.1 ∷ []) h + c → seek (k + 1) h c name (values_of es) ≡ answer h o name (k + 1) es (seek (k + 1) h (c + 1) name (values_of es))) where
  -- a look-up past a name of that hash
  pub step_same : (d : ℕ) → hash_of e.1 ≡ h → o ≡ count_with_hash before h + d → seek k h d name (values_of (e ∷ es)) ≡ answer h o name k (e ∷ es) (seek k h (d + 1) name (values_of (e ∷ es)))
  step_same zero same at =
      let found = found_here (is_key h o) name k e es (seek k h (0 + 1) name (values_of (e ∷ es))) (key_is h o before e hash place same (let z : o ≡ count_with_hash before h = omega arith in z)) in
      seek_here k h name e.1 (values_of es) same ∙ ap (λ (r : Option ℕ). cond (bytes_eq name e.1) (Some k) r) (sym (seek_past k h 0 name e.1 (values_of es) same)) ∙ sym found
  step_same (suc d) same at =
      let later = found_later (is_key h o) name k e es (seek k h (suc d + 1) name (values_of (e ∷ es))) (key_is_later h o d before e place same at) in
      let more : o ≡ count_with_hash (before ++ e.1 ∷ []) h + d = omega (arith, count_same before e.1 h same) in
      let one : suc d ≡ d + 1 = omega arith in
      let past : seek k h (suc d) name (values_of (e ∷ es)) ≡ seek (k + 1) h d name (values_of es) = ap (λ (m : ℕ). seek k h m name (values_of (e ∷ es))) one ∙ seek_past k h d name e.1 (values_of es) same in
      let past_two : seek k h (suc d + 1) name (values_of (e ∷ es)) ≡ seek (k + 1) h (d + 1) name (values_of es) = seek_past k h (suc d) name e.1 (values_of es) same ∙ ap (λ (m : ℕ). seek (k + 1) h m name (values_of es)) one in
      past ∙ rest d more ∙ ap (answer h o name (k + 1) es) (sym past_two) ∙ sym later

  -- a look-up past a name of another hash
  pub step_other : (d : ℕ) → hash_of e.1 ≢ h → o ≡ count_with_hash before h + d → seek k h d name (values_of (e ∷ es)) ≡ answer h o name k (e ∷ es) (seek k h (d + 1) name (values_of (e ∷ es)))
  step_other d other at =
      let later = found_later (is_key h o) name k e es (seek k h (d + 1) name (values_of (e ∷ es))) (key_is_other h o e hash other) in
      let more : o ≡ count_with_hash (before ++ e.1 ∷ []) h + d = omega (arith, count_other before e.1 h other) in
      seek_other k h d name e.1 (values_of es) other ∙ rest d more ∙ ap (answer h o name (k + 1) es) (sym (seek_other k h (d + 1) name e.1 (values_of es) other)) ∙ sym later

-- one look-up goes one step on with the search
pub seek_step : (h o : ℕ) (name : List ℕ) (k d : ℕ) (before : List (List ℕ)) (es : List ((ℕ × ℕ) × List ℕ)) → keys_of es ≡ keys_behind before (values_of es) → o ≡ count_with_hash before h + d →
    seek k h d name (values_of es) ≡ answer h o name k es (seek k h (d + 1) name (values_of es))
seek_step h o name k d before [] keyed at = refl
seek_step h o name k d before (e ∷ es) keyed at =
    let key = first_key before e es keyed in
    let rest = λ (c : ℕ) (here : o ≡ count_with_hash (before ++ e.1 ∷ []) h + c). seek_step h o name (k + 1) c (before ++ e.1 ∷ []) es key.2 here in
    ⊎_elim (λ same. step_same h o name k before e es key.0 key.1 rest d same.1 at) (λ other. step_other h o name k before e es key.0 key.1 rest d other.1 at) (eqb_tells (hash_of e.1) h)

-- a key is there exactly where enough names have its hash
pub count_first : (n : List ℕ) (ns : List (List ℕ)) (h : ℕ) → count_with_hash (n ∷ ns) h ≡ cond (hash_of n == h) 1 0 + count_with_hash ns h
count_first n ns h = sum_by-cons (λ (other : List ℕ). cond (hash_of other == h) 1 0) n ns

module _ (h o total : ℕ) (before : List (List ℕ)) (e : (ℕ × ℕ) × List ℕ) (es : List ((ℕ × ℕ) × List ℕ))
    (hash : e.0.0 ≡ hash_of e.1) (place : e.0.1 ≡ count_with_hash before (hash_of e.1))
    (all : total ≡ count_with_hash before h + count_with_hash (e.1 ∷ values_of es) h)
    (rest : count_with_hash (before ++ e.1 ∷ []) h ≤ o → total ≡ count_with_hash (before ++ e.1 ∷ []) h + count_with_hash (values_of es) h → is_some (lookup (is_key h o) es) ≡ nat_lt o total) where
  -- whether a key is there, past a name of its hash
  pub there_same : (d : ℕ) → hash_of e.1 ≡ h → o ≡ count_with_hash before h + d → is_some (lookup (is_key h o) (e ∷ es)) ≡ nat_lt o total
  there_same zero same at =
      let t : cond {A = ℕ} (hash_of e.1 == h) 1 0 ≡ 1 = grind (arith, nat_tests) in
      let less : o < total = omega (arith, count_first e.1 (values_of es) h, t) in
      let test : nat_lt o total ≡ true = grind (arith, nat_tests) in
      rw (key_is h o before e hash place same (let z : o ≡ count_with_hash before h = omega arith in z), test) refl
  there_same (suc d) same at =
      let t : cond {A = ℕ} (hash_of e.1 == h) 1 0 ≡ 1 = grind (arith, nat_tests) in
      let more = count_same before e.1 h same in
      let low : count_with_hash (before ++ e.1 ∷ []) h ≤ o = omega (arith, more) in
      let sum : total ≡ count_with_hash (before ++ e.1 ∷ []) h + count_with_hash (values_of es) h = omega (arith, more, count_first e.1 (values_of es) h, t) in
      rw (key_is_later h o d before e place same at) (rest low sum)

  -- whether a key is there, past a name of another hash
  pub there_other : hash_of e.1 ≢ h → count_with_hash before h ≤ o → is_some (lookup (is_key h o) (e ∷ es)) ≡ nat_lt o total
  there_other other at =
      let t : cond {A = ℕ} (hash_of e.1 == h) 1 0 ≡ 0 = grind (arith, nat_tests) in
      let more = count_other before e.1 h other in
      let low : count_with_hash (before ++ e.1 ∷ []) h ≤ o = omega (arith, more) in
      let sum : total ≡ count_with_hash (before ++ e.1 ∷ []) h + count_with_hash (values_of es) h = omega (arith, more, count_first e.1 (values_of es) h, t) in
      rw (key_is_other h o e hash other) (rest low sum)

-- a key is there if its count is below that of its hash
pub key_there : (h o total : ℕ) (before : List (List ℕ)) (es : List ((ℕ × ℕ) × List ℕ)) → keys_of es ≡ keys_behind before (values_of es) → count_with_hash before h ≤ o →
    total ≡ count_with_hash before h + count_with_hash (values_of es) h → is_some (lookup (is_key h o) es) ≡ nat_lt o total
key_there h o total before [] keyed at all = let high : total ≤ o = omega (arith, all) in let test : nat_lt o total ≡ false = grind (arith, nat_tests) in sym test
key_there h o total before (e ∷ es) keyed at all =
    let key = first_key before e es keyed in
    let rest = key_there h o total (before ++ e.1 ∷ []) es key.2 in
    ⊎_elim
    (λ same. there_same h o total before e es key.0 key.1 all rest (o - count_with_hash before h) same.1 (let d : o ≡ count_with_hash before h + (o - count_with_hash before h) = omega arith in d))
    (λ other. there_other h o total before e es key.0 key.1 all rest other.1 at)
    (eqb_tells (hash_of e.1) h)

-- the search that passes over no name
pub differ : (name n : List ℕ) → hash_of n ≢ hash_of name → bytes_eq name n ≡ false
differ name n other = by (bytes_eq name n) refl
  where
    by : (b : Bool) → bytes_eq name n ≡ b → b ≡ false
    by true e = absurd (other (ap hash_of (sym ((bytes_decides name n).0 e))))
    by false e = refl

-- the search for a name is the search among those of its hash
pub seek_all : (k : ℕ) (name : List ℕ) (names : List (List ℕ)) → position_from (bytes_eq name) k names ≡ seek k (hash_of name) 0 name names
seek_all k name [] = refl
seek_all k name (n ∷ ns) =
    ⊎_elim
    (λ same. ap (λ (r : Option ℕ). cond (bytes_eq name n) (Some k) r) (seek_all (k + 1) name ns) ∙ sym (seek_here k (hash_of name) name n ns same.1))
    (λ other. let e = differ name n other.1 in rw e (seek_all (k + 1) name ns) ∙ sym (seek_other k (hash_of name) 0 name n ns other.1))
    (eqb_tells (hash_of n) (hash_of name))

-- what one look-up tells, where q is the hash of the name and o names were passed over
module _ (q o : ℕ) (name : List ℕ) (es : List ((ℕ × ℕ) × List ℕ)) (keyed : keys_of es ≡ keys_behind [] (values_of es)) (hash : q ≡ hash_of name)
    (so_far : seek 0 (hash_of name) o name (values_of es) ≡ number_of (values_of es) name) where
  -- what a look-up tells of the rest of the search
  pub told : (r : Option ℕ) (v : Option (List ℕ)) → r ≡ position (is_key q o) (keys_of es) → v ≡ lookup (is_key q o) es → number_of (values_of es) name ≡ next name r v (seek 0 (hash_of name) (o + 1) name (values_of es))
  told r v index value =
      let zero_on : o ≡ count_with_hash [] (hash_of name) + o = omega arith in
      let at : position_from (is_key (hash_of name) o) 0 (keys_of es) ≡ r = ap (λ (h : ℕ). position_from (is_key h o) 0 (keys_of es)) (sym hash) ∙ sym (position_from-zero (is_key q o) (keys_of es)) ∙ sym index in
      let there : lookup (is_key (hash_of name) o) es ≡ v = ap (λ (h : ℕ). lookup (is_key h o) es) (sym hash) ∙ sym value in
      sym so_far ∙ seek_step (hash_of name) o name 0 o [] es keyed zero_on
      ∙ ap (λ (x : Option ℕ). next name x (lookup (is_key (hash_of name) o) es) (seek 0 (hash_of name) (o + 1) name (values_of es))) at
      ∙ ap (λ (x : Option (List ℕ)). next name r x (seek 0 (hash_of name) (o + 1) name (values_of es))) there

  -- a look-up that gives the name ends the search
  pub found_at : (k : ℕ) (n : List ℕ) → Some k ≡ position (is_key q o) (keys_of es) → Some n ≡ lookup (is_key q o) es → bytes_eq name n ≡ true → number_of (values_of es) name ≡ Some k
  found_at k n index value same = told (Some k) (Some n) index value ∙ (rw same refl)

  -- a look-up that gives another name goes on
  pub passed_at : (k : ℕ) (n : List ℕ) → Some k ≡ position (is_key q o) (keys_of es) → Some n ≡ lookup (is_key q o) es → bytes_eq name n ≡ false → seek 0 (hash_of name) (o + 1) name (values_of es) ≡ number_of (values_of es) name
  passed_at k n index value other = sym (told (Some k) (Some n) index value ∙ (rw other refl))

  -- a look-up that gives nothing ends it without the name
  pub ended_at : None ≡ position (is_key q o) (keys_of es) → number_of (values_of es) name ≡ None
  ended_at index = told None (lookup (is_key q o) es) index refl

-- how many look-ups find a name
module _ (q o : ℕ) (name : List ℕ) (es : List ((ℕ × ℕ) × List ℕ)) (keyed : keys_of es ≡ keys_behind [] (values_of es)) (hash : q ≡ hash_of name) where
  -- the same, from the first name on
  pub counted : (v : Option (List ℕ)) → v ≡ lookup (is_key q o) es → is_some v ≡ nat_lt o (count_with_hash (values_of es) (hash_of name))
  counted v value =
      let total : count_with_hash (values_of es) (hash_of name) ≡ count_with_hash [] (hash_of name) + count_with_hash (values_of es) (hash_of name) = omega arith in
      ap is_some value ∙ ap (λ (h : ℕ). is_some (lookup (is_key h o) es)) hash ∙ key_there (hash_of name) o (count_with_hash (values_of es) (hash_of name)) [] es keyed (omega arith) total

  -- a count whose key is there is below the count of the hash
  pub below : (n : List ℕ) → Some n ≡ lookup (is_key q o) es → o < count_with_hash (values_of es) (hash_of name)
  below n value = let t : true ≡ nat_lt o (count_with_hash (values_of es) (hash_of name)) = counted (Some n) value in grind (arith, nat_tests)

  -- a count whose key is not there is not
  pub beyond : None ≡ lookup (is_key q o) es → count_with_hash (values_of es) (hash_of name) ≤ o
  beyond value = let t : false ≡ nat_lt o (count_with_hash (values_of es) (hash_of name)) = counted None value in grind (arith, nat_tests)

-- the search begins with no name passed over
pub seek_start : (name : List ℕ) (names : List (List ℕ)) → seek 0 (hash_of name) 0 name names ≡ number_of names name
seek_start name names = sym (seek_all 0 name names) ∙ sym (position_from-zero (bytes_eq name) names)
