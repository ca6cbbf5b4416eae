use Rattle.std.proofs.Common.{◌≡◌, ◌∙◌, ◌+◌, ◌++◌, ◌∷◌, [], ℕ, List, Bor, ap₂, map, take, sym, subst}
use Rattle.std.specs.List.{All}
use Rattle.std.specs.Str.{IsUtf8}
use Rattle.std.proofs.lemmas.List.{map-append, take_more}
use Rattle.std.proofs.lemmas.List.Elements.{All-push}
use Rattle.command_words.proofs.reading.texts_of.Goals as goal

-- the texts so far are these words
abbrev Stand : List (List ℕ) → List (List ℕ) → Type 0
Stand words texts = (texts ≡ words) × All IsUtf8 texts

pub loop-word-preserved : goal.loop-word-preserved
loop-word-preserved c =
    let words = c.args.words.now in
    let index = c.loop-word.word-index in
    let texts = c.loop-word.texts.items in
    let text = c.as_str.result in
    subst (λ (items : List (Bor (List ℕ))). Stand (take (index + 1) words) (map (λ (text : Bor (List ℕ)). text.now) items)) (sym c.in_ok-push.ensures.items)
    (subst (Stand (take (index + 1) words)) (sym (map-append (λ (text : Bor (List ℕ)). text.now) texts (text ∷ []))) (
      ap₂ (λ (done : List (List ℕ)) (next : List ℕ). done ++ next ∷ []) c.loop-word.invariant.0 (c.as_str.ensures.value ∙ c.word-item.is)
          ∙ sym (take_more words index c.word-item.result c.loop-word-test.true),
      All-push IsUtf8 (map (λ (text : Bor (List ℕ)). text.now) texts) text.now c.loop-word.invariant.1 c.as_str.ensures.utf8,
    ))
