-- A token that is read has its form, and no front with a form is longer.
use Rattle.std.proofs.Common.{◌≡◌, ◌≤◌, ℕ, ◌+◌, Bool, true, false, cond, List, [], ◌∷◌, ◌++◌, length, refl, ap, sym, subst, ◌∙◌, arith, Option, Some, None, append_assoc, eqb-true, length-append}
use Rattle.std.specs.Prelude.{◌==◌, ⊤}
use Rattle.std.specs.List.{AllByRecursion}
use Rattle.ofn_lex.specs.declared.token.Token.{Token}
use Rattle.ofn_lex.specs.declared.token.TokenKind.{TokenKind}
use Rattle.ofn_lex.specs.declared.token.TokenKind.TheVariants.{Open, Close, Equals, FullIri, Quoted, Lang, Carets, Run}
use Rattle.byte_words.specs.Lists.{AllPassing}
use Rattle.ofn_lex.specs.Bytes.{is_iri_byte, is_language_byte, is_run_byte}
use Rattle.ofn_lex.specs.Ends.{iri_end, quoted_end, span_end, some_span_end, carets_end}
use Rattle.ofn_lex.specs.Forms.{HasForm, QuotedPart, IsQuotedPart, quoted_bytes}
use Rattle.ofn_lex.specs.NextToken.{token_to, token_at}
use Rattle.ofn_lex.proofs.EndLaws.{span_found, span_reaches, iri_found, iri_again, quoted_found, quoted_again}

-- the token is a front of the bytes, which begin at the offset n, and has the form of its kind
pub record IsFront (n : ℕ) (bytes : List ℕ) (token : Token) : Type 0 where
  pub own : List ℕ
  pub rest : List ℕ
  pub whole : bytes ≡ own ++ rest
  pub form : HasForm token.kind own
  pub starts : token.start ≡ n
  pub ends : token.end ≡ n + length own

-- the token, if there is one, is a front
abbrev pub IsFrontIfSome : ℕ → List ℕ → Option Token → Type 0
IsFrontIfSome n bytes None = ⊤
IsFrontIfSome n bytes (Some token) = IsFront n bytes token

-- a front by either branch
by_test : (c : Bool) (n : ℕ) (bytes : List ℕ) (x y : Option Token) → (c ≡ true → IsFrontIfSome n bytes x) → (c ≡ false → IsFrontIfSome n bytes y) → IsFrontIfSome n bytes (cond c x y)
by_test true n bytes x y f g = f refl
by_test false n bytes x y f g = g refl

-- a token of one byte
one_front : (kind : TokenKind) (n b k : ℕ) (bs : List ℕ) → HasForm kind (k ∷ []) → (b == k) ≡ true → IsFrontIfSome n (b ∷ bs) (token_to kind n (Some (n + 1)))
one_front kind n b k bs form e = record { own = k ∷ []; rest = bs; whole = ap (λ (x : ℕ). x ∷ bs) (eqb-true b k e); form = form; starts = refl; ends = refl }

-- a full IRI
iri_front : (n b : ℕ) (bs : List ℕ) (o : Option ℕ) → iri_end (n + 1) bs ≡ o → (b == 60) ≡ true → IsFrontIfSome n (b ∷ bs) (token_to FullIri n o)
iri_front n b bs None i e = tt
iri_front n b bs (Some m) i e =
    let r = iri_found (n + 1) m bs i in
    record {
      own = 60 ∷ (r.inner ++ 62 ∷ []);
      rest = r.rest;
      whole = ap (λ (x : ℕ). x ∷ bs) (eqb-true b 60 e) ∙ ap (λ (l : List ℕ). 60 ∷ l) (r.whole ∙ sym (append_assoc r.inner (62 ∷ []) r.rest));
      form = (r.inner, r.all, refl);
      starts = refl;
      ends = simp length-append (omega (arith, r.ends));
    }

-- a quoted text
quoted_front : (n b : ℕ) (bs : List ℕ) (o : Option ℕ) → quoted_end (n + 1) bs ≡ o → (b == 34) ≡ true → IsFrontIfSome n (b ∷ bs) (token_to Quoted n o)
quoted_front n b bs None i e = tt
quoted_front n b bs (Some m) i e =
    let r = quoted_found (n + 1) m bs i in
    record {
      own = 34 ∷ (quoted_bytes r.parts ++ 34 ∷ []);
      rest = r.rest;
      whole = ap (λ (x : ℕ). x ∷ bs) (eqb-true b 34 e) ∙ ap (λ (l : List ℕ). 34 ∷ l) (r.whole ∙ sym (append_assoc (quoted_bytes r.parts) (34 ∷ []) r.rest));
      form = (r.parts, r.all, refl);
      starts = refl;
      ends = simp length-append (omega (arith, r.ends));
    }

-- a language tag, by its first byte
lang_step : (v : Bool) (n b c : ℕ) (bs : List ℕ) → is_language_byte c ≡ v → (b == 64) ≡ true → IsFrontIfSome n (b ∷ c ∷ bs) (token_to Lang n (cond v (Some (span_end is_language_byte (n + 1 + 1) bs)) None))
lang_step true n b c bs i e =
    let r = span_found is_language_byte (n + 1 + 1) bs in
    record {
      own = 64 ∷ c ∷ r.own;
      rest = r.rest;
      whole = ap (λ (x : ℕ). x ∷ c ∷ bs) (eqb-true b 64 e) ∙ ap (λ (l : List ℕ). 64 ∷ c ∷ l) r.whole;
      form = (c ∷ r.own, omega arith, (i, r.all), refl);
      starts = refl;
      ends = omega (arith, r.ends);
    }
lang_step false n b c bs i e = tt

-- a language tag
lang_front : (n b : ℕ) (bs : List ℕ) → (b == 64) ≡ true → IsFrontIfSome n (b ∷ bs) (token_to Lang n (some_span_end is_language_byte (n + 1) bs))
lang_front n b [] e = tt
lang_front n b (c ∷ bs) e = lang_step (is_language_byte c) n b c bs refl e

-- two carets, by the second
carets_step : (v : Bool) (n b c : ℕ) (bs : List ℕ) → (c == 94) ≡ v → (b == 94) ≡ true → IsFrontIfSome n (b ∷ c ∷ bs) (token_to Carets n (cond v (Some (n + 1 + 1)) None))
carets_step true n b c bs i e = record { own = 94 ∷ 94 ∷ []; rest = bs; whole = ap (λ (x : ℕ). x ∷ c ∷ bs) (eqb-true b 94 e) ∙ ap (λ (x : ℕ). 94 ∷ x ∷ bs) (eqb-true c 94 i); form = refl; starts = refl; ends = omega arith }
carets_step false n b c bs i e = tt

-- two carets
carets_front : (n b : ℕ) (bs : List ℕ) → (b == 94) ≡ true → IsFrontIfSome n (b ∷ bs) (token_to Carets n (carets_end (n + 1) bs))
carets_front n b [] e = tt
carets_front n b (c ∷ bs) e = carets_step (c == 94) n b c bs refl e

-- a run
run_front : (n b : ℕ) (bs : List ℕ) → is_run_byte b ≡ true → IsFrontIfSome n (b ∷ bs) (token_to Run n (Some (span_end is_run_byte (n + 1) bs)))
run_front n b bs e =
    let r = span_found is_run_byte (n + 1) bs in
    record { own = b ∷ r.own; rest = r.rest; whole = ap (λ (l : List ℕ). b ∷ l) r.whole; form = (omega arith, (e, r.all)); starts = refl; ends = omega (arith, r.ends) }

-- the token that is read is a front with its form
pub token_is_front : (n b : ℕ) (bs : List ℕ) → IsFrontIfSome n (b ∷ bs) (token_at n b bs)
token_is_front n b bs =
    by_test (b == 40) n (b ∷ bs) _ _ (one_front Open n b 40 bs refl) (λ _.
    by_test (b == 41) n (b ∷ bs) _ _ (one_front Close n b 41 bs refl) (λ _.
    by_test (b == 61) n (b ∷ bs) _ _ (one_front Equals n b 61 bs refl) (λ _.
    by_test (b == 60) n (b ∷ bs) _ _ (iri_front n b bs (iri_end (n + 1) bs) refl) (λ _.
    by_test (b == 34) n (b ∷ bs) _ _ (quoted_front n b bs (quoted_end (n + 1) bs) refl) (λ _.
    by_test (b == 64) n (b ∷ bs) _ _ (lang_front n b bs) (λ _.
    by_test (b == 94) n (b ∷ bs) _ _ (carets_front n b bs) (λ _.
    by_test (is_run_byte b) n (b ∷ bs) _ _ (run_front n b bs) (λ _. tt))))))))

-- the token with which the bytes begin
abbrev pub first_token : ℕ → List ℕ → Option Token
first_token n [] = None
first_token n (b ∷ bs) = token_at n b bs

-- a token of this kind, which ends there or further on
abbrev pub Reaches : TokenKind → ℕ → Option Token → Type 0
Reaches kind n None = ⊥
Reaches kind n (Some token) = (token.kind ≡ kind) × (n ≤ token.end)

-- a token reaches its end
reaches_end : (kind : TokenKind) (n m k : ℕ) (o : Option ℕ) → o ≡ Some k → m ≤ k → Reaches kind m (token_to kind n o)
reaches_end kind n m k None e h = absurd (cc)
reaches_end kind n m k (Some j) e h = let same : j ≡ k = cc in (refl, omega arith)

-- a full IRI is read to its end
iri_reaches : (n : ℕ) (inner rest : List ℕ) → AllPassing is_iri_byte inner → Reaches FullIri (n + length (60 ∷ (inner ++ 62 ∷ []))) (first_token n ((60 ∷ (inner ++ 62 ∷ [])) ++ rest))
iri_reaches n inner rest all =
    reaches_end FullIri n _ (n + 1 + length inner + 1) _ (ap (iri_end (n + 1)) (append_assoc inner (62 ∷ []) rest) ∙ iri_again (n + 1) inner rest all) (simp length-append (omega arith))

-- a quoted text is read to its end
quoted_reaches : (n : ℕ) (parts : List QuotedPart) (rest : List ℕ) → AllByRecursion IsQuotedPart parts → Reaches Quoted (n + length (34 ∷ (quoted_bytes parts ++ 34 ∷ []))) (first_token n ((34 ∷ (quoted_bytes parts ++ 34 ∷ [])) ++ rest))
quoted_reaches n parts rest all =
    reaches_end Quoted n _ (n + 1 + length (quoted_bytes parts) + 1) _ (ap (quoted_end (n + 1)) (append_assoc (quoted_bytes parts) (34 ∷ []) rest) ∙ quoted_again (n + 1) parts rest all) (simp length-append (omega arith))

-- a language tag is read to its end
lang_reaches : (n : ℕ) (inner rest : List ℕ) → 1 ≤ length inner → AllPassing is_language_byte inner → Reaches Lang (n + length (64 ∷ inner)) (first_token n ((64 ∷ inner) ++ rest))
lang_reaches n [] rest some all = absurd (omega arith)
lang_reaches n (b ∷ bs) rest some all =
    let reached = span_reaches is_language_byte (n + 1 + 1) bs rest all.1 in
    reaches_end Lang n _ (span_end is_language_byte (n + 1 + 1) (bs ++ rest)) _ (rw all.0 refl) (omega (arith, reached))

-- one byte is not another
differs_step : (c : Bool) (b k : ℕ) → (b == k) ≡ c → is_run_byte b ≡ true → is_run_byte k ≡ false → c ≡ false
differs_step true b k e p q = let same = ap is_run_byte (eqb-true b k e) in cc
differs_step false b k e p q = refl

-- a byte of a run is no mark
differs : (b k : ℕ) → is_run_byte b ≡ true → is_run_byte k ≡ false → (b == k) ≡ false
differs b k p q = differs_step (b == k) b k refl p q

-- the test of a mark fails
skip : (c : Bool) (x y : Option Token) → c ≡ false → cond c x y ≡ y
skip true x y e = cc
skip false x y e = refl

-- the bytes of a run are read as one
run_is_read : (n b : ℕ) (bs : List ℕ) → is_run_byte b ≡ true → token_at n b bs ≡ token_to Run n (Some (span_end is_run_byte (n + 1) bs))
run_is_read n b bs p =
    skip (b == 40) _ _ (differs b 40 p refl) ∙
    skip (b == 41) _ _ (differs b 41 p refl) ∙
    skip (b == 61) _ _ (differs b 61 p refl) ∙
    skip (b == 60) _ _ (differs b 60 p refl) ∙
    skip (b == 34) _ _ (differs b 34 p refl) ∙
    skip (b == 64) _ _ (differs b 64 p refl) ∙
    skip (b == 94) _ _ (differs b 94 p refl) ∙
    (rw p refl)

-- a run is read to its end
run_reaches : (n : ℕ) (own rest : List ℕ) → 1 ≤ length own → AllPassing is_run_byte own → Reaches Run (n + length own) (first_token n (own ++ rest))
run_reaches n [] rest some all = absurd (omega arith)
run_reaches n (b ∷ bs) rest some all =
    let reached = span_reaches is_run_byte (n + 1) bs rest all.1 in
    let far : n + length (b ∷ bs) ≤ span_end is_run_byte (n + 1) (bs ++ rest) = omega (arith, reached) in
    subst (Reaches Run (n + length (b ∷ bs))) (sym (run_is_read n b (bs ++ rest) all.0)) (refl, far)

-- from a form's spelling to the bytes that are spelled so
spelled : (kind : TokenKind) (n : ℕ) (own spelling rest : List ℕ) → own ≡ spelling → Reaches kind (n + length spelling) (first_token n (spelling ++ rest)) → Reaches kind (n + length own) (first_token n (own ++ rest))
spelled kind n own spelling rest e h = subst (λ (l : List ℕ). Reaches kind (n + length l) (first_token n (l ++ rest))) (sym e) h

-- where a front has a form, a token of its kind is read that is as long at least
pub form_is_read : (kind : TokenKind) (n : ℕ) (own rest : List ℕ) → HasForm kind own → Reaches kind (n + length own) (first_token n (own ++ rest))
form_is_read Open n own rest form = spelled Open n own (40 ∷ []) rest form (refl, omega arith)
form_is_read Close n own rest form = spelled Close n own (41 ∷ []) rest form (refl, omega arith)
form_is_read Equals n own rest form = spelled Equals n own (61 ∷ []) rest form (refl, omega arith)
form_is_read FullIri n own rest form = spelled FullIri n own (60 ∷ (form.0 ++ 62 ∷ [])) rest form.2 (iri_reaches n form.0 rest form.1)
form_is_read Quoted n own rest form = spelled Quoted n own (34 ∷ (quoted_bytes form.0 ++ 34 ∷ [])) rest form.2 (quoted_reaches n form.0 rest form.1)
form_is_read Lang n own rest form = spelled Lang n own (64 ∷ form.0) rest form.3 (lang_reaches n form.0 rest form.1 form.2)
form_is_read Carets n own rest form = spelled Carets n own (94 ∷ 94 ∷ []) rest form (refl, omega arith)
form_is_read Run n own rest form = run_reaches n own rest form.0 form.1
