use Rattle.std.proofs.Common.{◌≡◌, ◌++◌, [], ◌∷◌, ℕ, List, IsTrue, sym, subst}
use Rattle.std.specs.Prelude.{◌↔◌}
use Rattle.std.proofs.lemmas.List.{nil_from_length}
use Rattle.std.proofs.lemmas.Result.{IfOk-weaker}
use Rattle.el_logic.specs.Meaning.{AreRelated, AreChained, pairs_of}
use Rattle.model_members.specs.Inside.Pairs.{Lead}
use Rattle.model_members.proofs.PropertyLaws.{alone, same_by, through, wanted_of}
use Rattle.model_members.proofs.properties.is_chain_within.Goals as goal

pub returns-in-Some : goal.returns-in-Some
returns-in-Some c =
    let i = c.args.lists.now.ordered in
    let first = c.args.first in
    let others = c.args.others.now in
    let upper = c.args.upper in
    let wanted = c.pairs-wanted.result.now in
    let between = c.in-Some.between.now in
    let last = c.in-Some.last.now in
    let is : others ≡ between ++ last ∷ [] = c.in-Some.ensures.cases.0 in
    IfOk-weaker c.is_led_within.result
    (λ yes. IsTrue yes ↔ ((x y : ℕ) → AreChained i (first ∷ (between ++ last ∷ [])) x y → Lead wanted x y))
    (λ yes. IsTrue yes ↔ ((x y : ℕ) → AreChained i (first ∷ others) x y → AreRelated i upper x y))
    (λ yes told. through (subst (λ (rest : List ℕ). IsTrue yes ↔ ((x y : ℕ) → AreChained i (first ∷ rest) x y → Lead wanted x y)) (sym is) told)
    (wanted_of i upper wanted (first ∷ others) (same_by wanted (pairs_of i upper) c.pairs-wanted.ensures.list)))
    c.is_led_within.ensures

pub returns-in-None : goal.returns-in-None
returns-in-None c =
    let i = c.args.lists.now.ordered in
    let first = c.args.first in
    let upper = c.args.upper in
    let wanted = c.pairs-wanted.result.now in
    let is : c.args.others.now ≡ [] = nil_from_length c.args.others.now c.in-None.ensures.cases in
    subst (λ (rest : List ℕ). IsTrue c.are_pairs_among.result ↔ ((x y : ℕ) → AreChained i (first ∷ rest) x y → AreRelated i upper x y)) (sym is)
    (through (subst (λ (ps : List (ℕ × ℕ)). IsTrue c.are_pairs_among.result ↔ ((x y : ℕ) → Lead ps x y → Lead wanted x y)) c.pairs.ensures.list c.are_pairs_among.ensures)
    (through (alone i first wanted)
    (wanted_of i upper wanted (first ∷ []) (same_by wanted (pairs_of i upper) c.pairs-wanted.ensures.list))))
