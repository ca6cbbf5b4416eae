use Rattle.std.proofs.Common.{◌≡◌, ◌∙◌, ◌<◌, ℕ, List, All, Contains, take, sym, subst}
use Rattle.std.specs.Prelude.{IfOk}
use Rattle.std.specs.List.{filter}
use Rattle.std.specs.List.Sorted.{IsStrictlyIncreasing}
use Rattle.std.proofs.lemmas.List.{take_all}
use Rattle.std.proofs.lemmas.List.Elements.{All-contains}
use Rattle.std.proofs.lemmas.Result.{IfOk-weaker}
use Rattle.el_logic.specs.declared.types.Expr.{Expr}
use Rattle.el_logic.specs.declared.types.Expr.TheVariants.{Bottom, Exists}
use Rattle.el_logic.specs.Meaning.{IsMember, members_of}
use Rattle.model_members.specs.declared.sets.Members.TheVariants.{Listed}
use Rattle.model_members.specs.Numbers.{has_number}
use Rattle.model_members.specs.Inside.Pairs.{Lead}
use Rattle.model_members.specs.Inside.Sets.{AreElements, AreListed, IsSetOf}
use Rattle.model_members.proofs.ClassLaws.{take_next}
use Rattle.model_members.proofs.KeptLaws.{kept_elements}
use Rattle.model_members.proofs.AmongLaws.{listed_all, listed_none, listed_common, among_start, among_more, among_all, reached_elements, ends_found, among_leading}
use Rattle.model_members.proofs.among.+among.Goals as goal

pub returns-in-Top : goal.returns-in-Top
returns-in-Top t c elements =
    let i = c.args.lists.now.ordered in
    let numbers = c.args.numbers.now in
    subst (λ e. IfOk c.from_slice.result (AreListed (λ x. Contains numbers x × IsMember i x e))) (sym c.in-Top.is)
    (IfOk-weaker c.from_slice.result (λ kept. kept ≡ numbers) (AreListed (λ x. Contains numbers x × (x < i.size)))
    (λ kept is. listed_all (λ x. x < i.size) numbers kept i.size elements is (λ x there. All-contains (λ y. y < i.size) numbers x elements.1 there)) c.from_slice.ensures)

pub returns-in-Bottom : goal.returns-in-Bottom
returns-in-Bottom t c elements =
    let i = c.args.lists.now.ordered in
    let numbers = c.args.numbers.now in
    subst (λ e. AreListed (λ x. Contains numbers x × IsMember i x e) c.new.result) (sym c.in-Bottom.is)
    (listed_none (λ x. IsMember i x Bottom) numbers c.new.result c.new.ensures (λ x member. member))

pub returns-in-Name : goal.returns-in-Name
returns-in-Name t c elements =
    let i = c.args.lists.now.ordered in
    let numbers = c.args.numbers.now in
    let others = c.named.result.now in
    subst (λ e. IfOk c.common.result (AreListed (λ x. Contains numbers x × IsMember i x e))) (sym c.in-Name.is)
    (IfOk-weaker c.common.result (λ kept. kept ≡ filter (has_number others) numbers) (AreListed (λ x. Contains numbers x × Contains (members_of i c.in-Name.class) x))
    (λ kept is. subst (λ (own : List ℕ). AreListed (λ x. Contains numbers x × Contains own x) kept) c.named.ensures.list (listed_common i.size numbers others kept elements is))
    c.common.ensures)

pub loop-operand-init : goal.loop-operand-init
loop-operand-init t c elements = among_start c.args.lists.now.ordered c.args.numbers.now c.in_ok-all-in-And.all elements c.in_ok-all-in-And.ensures

pub loop-operand-preserved : goal.loop-operand-preserved
loop-operand-preserved t c elements =
    let i = c.args.lists.now.ordered in
    let numbers = c.args.numbers.now in
    let operands = c.as_slice-operand-items.result.now in
    let index = c.loop-operand.operand-index in
    let fewer = c.in_ok-fewer-in-And.fewer in
    let done = take index operands in
    let read : AreElements i.size c.as_slice.result.now = subst (AreElements i.size) (sym c.as_slice.ensures)
    (kept_elements i.size (λ x. All (IsMember i x) done) numbers c.loop-operand.all elements (c.loop-operand.invariant elements)) in
    subst (λ (done : List Expr). AreListed (λ x. Contains numbers x × All (IsMember i x) done) fewer)
    (sym (take_next operands index c.operand-item.result c.loop-operand-test.true c.operand-item.is))
    (among_more i numbers c.loop-operand.all c.as_slice.result.now fewer done c.operand-item.result (c.loop-operand.invariant elements) c.as_slice.ensures (c.in_ok-fewer-in-And.ensures read))

pub returns-after-loop-operand : goal.returns-after-loop-operand
returns-after-loop-operand t c elements =
    let i = c.args.lists.now.ordered in
    let numbers = c.args.numbers.now in
    let operands = c.in-And.operands in
    let items = c.as_slice-operand-items.result.now in
    let whole : take c.loop-operand.operand-index items ≡ operands = take_all c.loop-operand.operand-index items c.loop-operand-test.false ∙ c.as_slice-operand-items.ensures in
    subst (λ e. AreListed (λ x. Contains numbers x × IsMember i x e) c.loop-operand.all) (sym c.in-And.is)
    (among_all i numbers c.loop-operand.all operands elements (λ x. c.members_of_an_intersection.ensures i x operands)
    (subst (λ (done : List Expr). AreListed (λ x. Contains numbers x × All (IsMember i x) done) c.loop-operand.all) whole (c.loop-operand.invariant elements)))

pub returns-in-Some : goal.returns-in-Some
returns-in-Some t c elements =
    let i = c.args.lists.now.ordered in
    let numbers = c.args.numbers.now in
    let role = c.in-Exists.role in
    let filler = c.in-Exists.filler in
    let steps = c.pairs-steps.result.now in
    let ends = c.in-Some.ends.now in
    let set = subst (λ e. IsSetOf i.size (λ x. IsMember i x e) (Listed ends)) c.get.ensures c.in-Some.ensures in
    subst (λ e. IfOk c.leading.result (AreListed (λ x. Contains numbers x × IsMember i x e))) (sym c.in-Exists.is)
    (IfOk-weaker c.leading.result (AreListed (λ x. Contains numbers x × ((y : ℕ) × Lead steps x y × Contains ends y))) (AreListed (λ x. Contains numbers x × IsMember i x (Exists role filler)))
    (λ kept. among_leading i role steps numbers ends kept filler c.pairs-steps.ensures.list (λ x. c.members_of_a_restriction.ensures i x role filler) (λ x y there related. set.same y))
    (c.leading.ensures elements.0))

pub leading-requires-in-None-clause-ends : goal.leading-requires-in-None-clause-ends
leading-requires-in-None-clause-ends t c =
    let i = c.args.lists.now.ordered in
    let numbers = c.args.numbers.now in
    let reached = c.in_ok-reached-in-None.reached in
    let read_elements : AreElements i.size c.as_slice-in-None.result.now = subst (AreElements i.size) (sym c.as_slice-in-None.ensures)
    (reached_elements i c.in-Exists.role numbers reached c.requires.fits
    (subst (λ (ps : List (ℕ × ℕ)). AreListed (λ y. (x : ℕ) × Contains numbers x × Lead ps x y) reached) c.pairs-steps.ensures.list c.in_ok-reached-in-None.ensures)) in
    subst IsStrictlyIncreasing (sym c.as_slice-in-None-2.ensures) (c.in_ok-ends-in-None.ensures read_elements).ascending

pub returns-in_ok-ends-in-None : goal.returns-in_ok-ends-in-None
returns-in_ok-ends-in-None t c elements =
    let i = c.args.lists.now.ordered in
    let numbers = c.args.numbers.now in
    let role = c.in-Exists.role in
    let filler = c.in-Exists.filler in
    let steps = c.pairs-steps.result.now in
    let own = c.pairs-steps.ensures.list in
    let read = c.as_slice-in-None.result.now in
    let ends = c.as_slice-in-None-2.result.now in
    let reached = c.in_ok-reached-in-None.reached in
    let read_elements : AreElements i.size read = subst (AreElements i.size) (sym c.as_slice-in-None.ensures)
    (reached_elements i role numbers reached c.requires.fits (subst (λ (ps : List (ℕ × ℕ)). AreListed (λ y. (x : ℕ) × Contains numbers x × Lead ps x y) reached) own c.in_ok-reached-in-None.ensures)) in
    let found : AreListed (λ y. Contains read y × IsMember i y filler) ends =
    subst (AreListed (λ y. Contains read y × IsMember i y filler)) (sym c.as_slice-in-None-2.ensures)
    (subst (λ e. AreListed (λ y. Contains read y × IsMember i y e) c.in_ok-ends-in-None.ends) c.get-in-None.ensures (c.in_ok-ends-in-None.ensures read_elements)) in
    subst (λ e. IfOk c.leading-in-None.result (AreListed (λ x. Contains numbers x × IsMember i x e))) (sym c.in-Exists.is)
    (IfOk-weaker c.leading-in-None.result (AreListed (λ x. Contains numbers x × ((y : ℕ) × Lead steps x y × Contains ends y))) (AreListed (λ x. Contains numbers x × IsMember i x (Exists role filler)))
    (λ kept. among_leading i role steps numbers ends kept filler own (λ x. c.members_of_a_restriction.ensures i x role filler)
    (ends_found i role steps numbers reached read ends filler own c.in_ok-reached-in-None.ensures c.as_slice-in-None.ensures found))
    (c.leading-in-None.ensures elements.0))
