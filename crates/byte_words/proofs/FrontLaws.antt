-- Fronts of texts.
use Rattle.std.proofs.Common.{◌≡◌, ◌≢◌, ◌∙◌, ℕ, Bool, true, false, cond, List, ◌++◌, length, take, drop, refl, ap, sym}
use Rattle.std.specs.Prelude.{bytes_eq, Option, Some, None, unwrap_or}
use Rattle.std.specs.Cmp.Lexicographic.{bytes_decides}
use Rattle.std.proofs.Math.Seq.{take-append_seam}
use Rattle.std.proofs.lemmas.List.{drop_at, take-append-drop}
use Rattle.byte_words.specs.Fronts.{without_front, byte_order_mark, without_mark}

-- the front of a text that begins with it
pub front_found : (front rest : List ℕ) → without_front front (front ++ rest) ≡ Some rest
front_found front rest =
    ap (λ (b : Bool). cond b (Some (drop (length front) (front ++ rest))) None) ((bytes_decides (take (length front) (front ++ rest)) front).1 (take-append_seam front rest))
    ∙ ap (λ (l : List ℕ). Some l) (drop_at front rest (length front) refl)

-- a text is its front and what follows
pub front_whole : (front text rest : List ℕ) → without_front front text ≡ Some rest → text ≡ front ++ rest
front_whole front text rest = by (bytes_eq (take (length front) text) front) refl
  where
    by : (b : Bool) → bytes_eq (take (length front) text) front ≡ b → cond b (Some (drop (length front) text)) None ≡ Some rest → text ≡ front ++ rest
    by true e found =
        let back : drop (length front) text ≡ rest = cc in
        sym (take-append-drop (length front) text) ∙ ap (λ (l : List ℕ). l ++ drop (length front) text) ((bytes_decides (take (length front) text) front).0 e) ∙ ap (λ (l : List ℕ). front ++ l) back
    by false e found = cc

-- a text without this front does not begin with it
pub front_missing : (front text rest : List ℕ) → without_front front text ≡ None → text ≢ front ++ rest
front_missing front text rest missing same =
    let found : without_front front text ≡ Some rest = ap (without_front front) same ∙ front_found front rest in
    let both : Some rest ≡ None = sym found ∙ missing in cc

-- the mark at the start is left out
pub mark_left_out : (text : List ℕ) → without_mark (byte_order_mark ++ text) ≡ text
mark_left_out text = ap (λ (o : Option (List ℕ)). unwrap_or o (byte_order_mark ++ text)) (front_found byte_order_mark text)

-- a text without the mark stays
pub unmarked_stays : (text : List ℕ) → ((rest : List ℕ) → text ≢ byte_order_mark ++ rest) → without_mark text ≡ text
unmarked_stays text unmarked = by (without_front byte_order_mark text) refl
  where
    by : (o : Option (List ℕ)) → without_front byte_order_mark text ≡ o → unwrap_or o text ≡ text
    by None e = refl
    by (Some rest) e = absurd (unmarked rest (front_whole byte_order_mark text rest e))
