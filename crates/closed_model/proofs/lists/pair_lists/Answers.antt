use Rattle.std.proofs.Common.{◌≡◌, ◌∙◌, ◌++◌, ◌+◌, ℕ, List, [], ◌∷◌, Vec, Global, map, take, All, ap, sym, subst}
use Rattle.std.specs.List.{AllPairs}
use Rattle.closed_model.specs.Models.{ComesBefore}
use Rattle.std.proofs.lemmas.List.{map_more, take_all, length-map}
use Rattle.std.proofs.lemmas.List.Elements.{All-push}
use Rattle.closed_model.specs.Models.{HaveTheSame}
use Rattle.closed_model.specs.Inside.Ordered.{AreTheSame}
use Rattle.closed_model.proofs.SaidLaws.{lists_of, lists_more}
use Rattle.closed_model.proofs.lists.pair_lists.Goals as goal

pub loop-list-preserved : goal.loop-list-preserved
loop-list-preserved c =
    let items = λ (list : Vec (ℕ × ℕ) Global). list.items in
    let lists = c.as_slice-list-items.result.now in
    let index = c.loop-list.list-index in
    let longer : map items (take (index + 1) lists) ≡ map items (take index lists) ++ c.list-item.result.items ∷ [] =
    map_more items lists index c.list-item.result c.loop-list-test.true ∙ ap (λ one. map items (take index lists) ++ items one ∷ []) (sym c.list-item.is) in
    record {
      same = lists_more c.loop-list.ordered.items c.push.new.self.items (map items (take index lists)) (map items (take (index + 1) lists)) c.in_ok-ordered_pairs.field-0 c.list-item.result.items
          c.in_ok-push.ensures.items longer (subst (HaveTheSame c.in_ok-ordered_pairs.field-0) c.as_slice.ensures.value c.in_ok-ordered_pairs.ensures.same) c.loop-list.invariant.same;
      ascending = subst (All (AllPairs ComesBefore)) (sym c.in_ok-push.ensures.items)
          (All-push (AllPairs ComesBefore) c.loop-list.ordered.items c.in_ok-ordered_pairs.field-0 c.loop-list.invariant.ascending c.in_ok-ordered_pairs.ensures.ascending);
    }

pub returns-clause-lists : goal.returns-clause-lists
returns-clause-lists c =
    let items = λ (list : Vec (ℕ × ℕ) Global). list.items in
    let whole : take c.loop-list.list-index c.as_slice-list-items.result.now ≡ c.in_ok-lists.lists.items =
    take_all c.loop-list.list-index c.as_slice-list-items.result.now c.loop-list-test.false ∙ c.as_slice-list-items.ensures.value in
    lists_of c.args.keys c.args.entries.now c.from_vec.result (map items c.in_ok-lists.lists.items) (length-map c.in_ok-lists.lists.items items ∙ c.in_ok-lists.ensures.each) c.in_ok-lists.ensures.values
    (subst (λ (lists : List (List (ℕ × ℕ))). AreTheSame lists (map items c.in_ok-lists.lists.items)) (sym c.from_vec.ensures)
    (subst (λ (vecs : List (Vec (ℕ × ℕ) Global)). AreTheSame c.loop-list.ordered.items (map items vecs)) whole c.loop-list.invariant.same))
