-- An item is a token, a group without a head, or a group with one.
use Rattle.std.proofs.Common.{ℕ, List, sym, subst}
use Rattle.std.specs.Prelude.{Some, None}
use Rattle.ofn_lex.specs.declared.token.Token.{Token}
use Rattle.ofn_term.specs.declared.item.Item.{Item, roll-Item}
use Rattle.ofn_term.specs.declared.item.Item.TheOpen.{Item-F}
use Rattle.ofn_term.specs.declared.item.Item.TheFolds.{ind-Item}
use Rattle.ofn_term.specs.declared.item.Item.TheVariants as item
use Rattle.ofn_term.specs.declared.item.Item.TheVariants.{rolls-Atom, rolls-Group}

-- what is so of each form is so of each item
pub by_form : (P : Item → Type 0) → ((token : Token) → P (item.Atom token)) → ((is : List Item) (start end : ℕ) → P (item.Group None is start end)) → ((word : Token) (is : List Item) (start end : ℕ) → P (item.Group (Some word) is start end)) → (i : Item) → P i
by_form P atom bare headed = ind-Item P (λ x y is. step x)
  where
    step : (x : Item-F Item) → P (roll-Item x)
    step (Item-F.Atom token) = subst P (sym (rolls-Atom token)) (atom token)
    step (Item-F.Group None is start end) = subst P (sym (rolls-Group None is start end)) (bare is start end)
    step (Item-F.Group (Some word) is start end) = subst P (sym (rolls-Group (Some word) is start end)) (headed word is start end)
