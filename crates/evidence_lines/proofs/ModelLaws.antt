-- A line of a model is read as the list that it spells, and as no other.
use Rattle.std.proofs.Common.{◌≡◌, ℕ, ◌+◌, ◌^◌, ◌<◌, ◌==◌, Bool, true, false, cond, List, [], ◌∷◌, refl, ap, subst, ◌∙◌, arith, Option, Some, None}
use Rattle.std.specs.Prelude.{decimal, bytes_eq, codes}
use Rattle.std.specs.Cmp.Lexicographic.{bytes_decides}
use Rattle.std.proofs.lemmas.Bool.{eqb-true}
use Rattle.std.proofs.lemmas.Bool.Decides.{nat_tests}
use Rattle.std.proofs.lemmas.Option.{cond_some}
use Rattle.line_fields.specs.Lines.{Fields}
use Rattle.line_fields.specs.Numbers.{short_number}
use Rattle.line_fields.specs.Reading.{◌>>=◌, short_in}
use Rattle.evidence_lines.specs.Model.{element_fields, pair_fields, class_fields, property_fields, number_follows, pair_follows, ElementsAscend, PairsAscend, onto, if_follows, elements_in, pairs_in, after_number, after_word, members_of, pairs_of, AreElementNumbers, ArePairNumbers}
use Rattle.evidence_lines.proofs.Found.{NumberLaw, bound, some_is, none_is, Makes, makes, short_takes}

-- an element before others
record IsOnto {X : Type 0} (x : X) (o : Option (List X)) (xs : List X) : Type 0 where
  others : List X
  is : o ≡ Some others
  all : x ∷ others ≡ xs

onto_is : {X : Type 0} → (x : X) (o : Option (List X)) (xs : List X) → onto x o ≡ Some xs → IsOnto x o xs
onto_is x None xs e = none_is xs e
onto_is x (Some others) xs e = record { others = others; is = refl; all = some_is (x ∷ others) xs e }

follows_is : {X : Type 0} → (test : Bool) (o : Option X) (x : X) → if_follows test o ≡ Some x → (test ≡ true) × (o ≡ Some x)
follows_is true o x e = (refl, e)
follows_is false o x e = none_is x e

-- ---- members

pub record FitsElements (before : Option ℕ) (xs : List ℕ) : Type 0 where
  pub ascend : ElementsAscend before xs
  pub numbers : AreElementNumbers xs

abbrev MakesElements : Option ℕ → Fields → List ℕ → Type 0
MakesElements before fields xs = Makes element_fields (FitsElements before) fields xs

elements_are : NumberLaw → (before : Option ℕ) (fields : Fields) (xs : List ℕ) → elements_in before fields ≡ Some xs → MakesElements before fields xs
elements_are law before [] xs e = makes element_fields (FitsElements before) [] [] xs e refl (record { ascend = tt; numbers = tt })
elements_are law before (field ∷ rest) xs e =
    let b = bound (short_number field) (λ x. if_follows (number_follows before x) (onto x (elements_in (Some x) rest))) xs e in
    let f = follows_is (number_follows before b.found) (onto b.found (elements_in (Some b.found) rest)) xs b.later in
    let o = onto_is b.found (elements_in (Some b.found) rest) xs f.1 in
    let number = law.short field b.found b.is in
    let later = elements_are law (Some b.found) rest o.others o.is in
    makes element_fields (FitsElements before) (field ∷ rest) (b.found ∷ o.others) xs (ap (λ x. Some x) o.all)
    (ap (λ w. w ∷ rest) number.0 ∙ ap (λ r. decimal b.found ∷ r) later.whole)
    (record { ascend = (f.0, later.fits.ascend); numbers = (number.1, later.fits.numbers) })

elements_again : NumberLaw → (before : Option ℕ) (xs : List ℕ) → ElementsAscend before xs → AreElementNumbers xs → elements_in before (element_fields xs) ≡ Some xs
elements_again law before [] ascend numbers = refl
elements_again law before (x ∷ xs) ascend numbers =
    rw (law.short_again x numbers.0, ascend.0, elements_again law (Some x) xs ascend.1 numbers.1) refl

-- ---- words and numbers before the lists

pub after_word_is : (word : List ℕ) (fields rest : Fields) → after_word word fields ≡ Some rest → fields ≡ word ∷ rest
after_word_is word [] rest e = none_is rest e
after_word_is word (field ∷ others) rest e =
    let t = cond_some (bytes_eq field word) others rest e in
    ap (λ f. f ∷ others) ((bytes_decides field word).0 t.0) ∙ ap (λ r. word ∷ r) t.1

record IsNumbered (number : ℕ) (fields rest : Fields) : Type 0 where
  whole : fields ≡ decimal number ∷ rest
  below : number < 2 ^ 32

after_number_is : NumberLaw → (number : ℕ) (fields rest : Fields) → after_number number fields ≡ Some rest → IsNumbered number fields rest
after_number_is law number fields rest e =
    let b = bound (short_in fields) (λ f. cond (f.0 == number) (Some f.1) None) rest e in
    let t = cond_some (b.found.0 == number) b.found.1 rest b.later in
    let short = short_takes law fields b.found b.is in
    let same : b.found.0 ≡ number = eqb-true b.found.0 number t.0 in
    record {
      whole = short.whole ∙ ap (λ n. decimal n ∷ b.found.1) same ∙ ap (λ r. decimal number ∷ r) t.1;
      below = subst (λ n. n < 2 ^ 32) same short.fits;
    }

same_number : (n : ℕ) → (n == n) ≡ true
same_number n = grind (arith, nat_tests)

after_number_again : NumberLaw → (number : ℕ) (rest : Fields) → number < 2 ^ 32 → after_number number (decimal number ∷ rest) ≡ Some rest
after_number_again law number rest below = rw (law.short_again number below, same_number number) refl

-- ---- lines

pub record FitsMembers (place : ℕ) (xs : List ℕ) : Type 0 where
  pub within : place + 2 < 2 ^ 32
  pub elements : FitsElements None xs

pub members_back : NumberLaw → (place : ℕ) (fields : Fields) (xs : List ℕ) → members_of place fields ≡ Some xs → Makes (class_fields place) (FitsMembers place) fields xs
unfolding members_of
members_back law place fields xs e =
    let w = bound (after_word (codes "class") fields) (λ numbered. after_number (place + 2) numbered >>= λ rest. elements_in None rest) xs e in
    let n = bound (after_number (place + 2) w.found) (λ rest. elements_in None rest) xs w.later in
    let word = after_word_is (codes "class") fields w.found w.is in
    let number = after_number_is law (place + 2) w.found n.found n.is in
    let list = elements_are law None n.found xs n.later in
    record {
      whole = word ∙ ap (λ r. codes "class" ∷ r) (number.whole ∙ ap (λ r. decimal (place + 2) ∷ r) list.whole);
      fits = record { within = number.below; elements = list.fits };
    }

pub members_again : NumberLaw → (place : ℕ) (xs : List ℕ) → FitsMembers place xs → members_of place (class_fields place xs) ≡ Some xs
unfolding members_of
members_again law place xs fits =
    rw (after_number_again law (place + 2) (element_fields xs) fits.within) (elements_again law None xs fits.elements.ascend fits.elements.numbers)

-- ---- pairs

pub record FitsPairList (before : Option (ℕ × ℕ)) (ps : List (ℕ × ℕ)) : Type 0 where
  pub ascend : PairsAscend before ps
  pub numbers : ArePairNumbers ps

abbrev MakesPairs : Option (ℕ × ℕ) → Fields → List (ℕ × ℕ) → Type 0
MakesPairs before fields ps = Makes pair_fields (FitsPairList before) fields ps

pairs_are : NumberLaw → (before : Option (ℕ × ℕ)) (fields : Fields) (ps : List (ℕ × ℕ)) → pairs_in before fields ≡ Some ps → MakesPairs before fields ps
pairs_are law before [] ps e = makes pair_fields (FitsPairList before) [] [] ps e refl (record { ascend = tt; numbers = tt })
pairs_are law before (field ∷ []) ps e = none_is ps e
pairs_are law before (field ∷ next ∷ rest) ps e =
    let a = bound (short_number field) (λ a. short_number next >>= λ b. if_follows (pair_follows before (a, b)) (onto (a, b) (pairs_in (Some (a, b)) rest))) ps e in
    let b = bound (short_number next) (λ b. if_follows (pair_follows before (a.found, b)) (onto (a.found, b) (pairs_in (Some (a.found, b)) rest))) ps a.later in
    let f = follows_is (pair_follows before (a.found, b.found)) (onto (a.found, b.found) (pairs_in (Some (a.found, b.found)) rest)) ps b.later in
    let o = onto_is (a.found, b.found) (pairs_in (Some (a.found, b.found)) rest) ps f.1 in
    let one = law.short field a.found a.is in
    let other = law.short next b.found b.is in
    let later = pairs_are law (Some (a.found, b.found)) rest o.others o.is in
    makes pair_fields (FitsPairList before) (field ∷ next ∷ rest) ((a.found, b.found) ∷ o.others) ps (ap (λ x. Some x) o.all)
    (ap (λ w. w ∷ next ∷ rest) one.0 ∙ ap (λ w. decimal a.found ∷ w ∷ rest) other.0 ∙ ap (λ r. decimal a.found ∷ decimal b.found ∷ r) later.whole)
    (record { ascend = (f.0, later.fits.ascend); numbers = (one.1, other.1, later.fits.numbers) })

pairs_again : NumberLaw → (before : Option (ℕ × ℕ)) (ps : List (ℕ × ℕ)) → PairsAscend before ps → ArePairNumbers ps → pairs_in before (pair_fields ps) ≡ Some ps
pairs_again law before [] ascend numbers = refl
pairs_again law before (p ∷ ps) ascend numbers =
    rw (law.short_again p.0 numbers.0, law.short_again p.1 numbers.1, ascend.0, pairs_again law (Some p) ps ascend.1 numbers.2) refl

pub record FitsPairs (place : ℕ) (ps : List (ℕ × ℕ)) : Type 0 where
  pub within : place < 2 ^ 32
  pub pairs : FitsPairList None ps

pub pairs_back : NumberLaw → (place : ℕ) (fields : Fields) (ps : List (ℕ × ℕ)) → pairs_of place fields ≡ Some ps → Makes (property_fields place) (FitsPairs place) fields ps
unfolding pairs_of
pairs_back law place fields ps e =
    let w = bound (after_word (codes "role") fields) (λ numbered. after_number place numbered >>= λ rest. pairs_in None rest) ps e in
    let n = bound (after_number place w.found) (λ rest. pairs_in None rest) ps w.later in
    let word = after_word_is (codes "role") fields w.found w.is in
    let number = after_number_is law place w.found n.found n.is in
    let list = pairs_are law None n.found ps n.later in
    record {
      whole = word ∙ ap (λ r. codes "role" ∷ r) (number.whole ∙ ap (λ r. decimal place ∷ r) list.whole);
      fits = record { within = number.below; pairs = list.fits };
    }

pub pairs_of_again : NumberLaw → (place : ℕ) (ps : List (ℕ × ℕ)) → FitsPairs place ps → pairs_of place (property_fields place ps) ≡ Some ps
unfolding pairs_of
pairs_of_again law place ps fits =
    rw (after_number_again law place (pair_fields ps) fits.within) (pairs_again law None ps fits.pairs.ascend fits.pairs.numbers)
