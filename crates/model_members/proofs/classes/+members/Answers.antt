use Rattle.std.proofs.Common.{◌≡◌, ◌∙◌, ◌<◌, ℕ, List, All, take, sym, subst}
use Rattle.std.specs.Prelude.{IfOk}
use Rattle.std.proofs.lemmas.List.{take_all}
use Rattle.std.proofs.lemmas.Result.{IfOk-weaker}
use Rattle.el_logic.specs.declared.types.Expr.{Expr}
use Rattle.el_logic.specs.declared.types.Expr.TheVariants.{Bottom, And, Exists}
use Rattle.el_logic.specs.Meaning.{IsMember, AreRelated}
use Rattle.model_members.specs.declared.sets.Members.TheVariants.{Whole, Listed}
use Rattle.model_members.specs.Inside.Sets.{Has, IsSetOf}
use Rattle.model_members.proofs.ClassLaws.{set_none, set_more, set_same, set_leading, take_next}
use Rattle.model_members.proofs.AmongLaws.{set_among}
use Rattle.model_members.proofs.classes.+members.Goals as goal

pub returns-in-Top : goal.returns-in-Top
returns-in-Top t c =
    subst (λ e. IsSetOf c.args.lists.now.ordered.size (λ x. IsMember c.args.lists.now.ordered x e) Whole) (sym c.in-Top.is)
    (record { ordered = tt; same = λ x. ((λ below. below), (λ below. below)) })

pub returns-in-Bottom : goal.returns-in-Bottom
returns-in-Bottom t c =
    subst (λ e. IsSetOf c.args.lists.now.ordered.size (λ x. IsMember c.args.lists.now.ordered x e) (Listed c.new.result)) (sym c.in-Bottom.is)
    (set_none c.args.lists.now.ordered.size (λ x. IsMember c.args.lists.now.ordered x Bottom) c.new.result c.new.ensures (λ x member. member))

pub returns-in-Name : goal.returns-in-Name
returns-in-Name t c =
    subst (λ e. IfOk c.members_of_name.result (IsSetOf c.args.lists.now.ordered.size (λ x. IsMember c.args.lists.now.ordered x e))) (sym c.in-Name.is) c.members_of_name.ensures

pub returns-in_ok-kept-in-Some : goal.returns-in_ok-kept-in-Some
returns-in_ok-kept-in-Some t c =
    let i = c.args.lists.now.ordered in
    let e = c.args.e.now in
    let operands = c.in-And.operands in
    let has = c.in-Some.ensures in
    set_among i e c.in-Some.numbers.now c.in_ok-kept-in-Some.kept has.elements
    (λ x member. has.all x (subst (All (IsMember i x)) (sym c.as_slice.ensures) ((c.members_of_an_intersection.ensures i x operands).0 (subst (IsMember i x) c.in-And.is member)).1))
    (c.in_ok-kept-in-Some.ensures has.elements)

pub loop-operand-preserved : goal.loop-operand-preserved
loop-operand-preserved t c =
    let i = c.args.lists.now.ordered in
    let operands = c.as_slice-operand-items.result.now in
    let index = c.loop-operand.operand-index in
    subst (λ (done : List Expr). IsSetOf i.size (λ x. (x < i.size) × All (IsMember i x) done) c.in_ok-both-in-None.both)
    (sym (take_next operands index c.operand-item.result c.loop-operand-test.true c.operand-item.is))
    (set_more i (take index operands) c.operand-item.result c.loop-operand.all c.in_ok-next-in-None.next c.in_ok-both-in-None.both
    c.loop-operand.invariant c.in_ok-next-in-None.ensures c.in_ok-both-in-None.ensures)

pub returns-after-loop-operand : goal.returns-after-loop-operand
returns-after-loop-operand t c =
    let i = c.args.lists.now.ordered in
    let operands = c.in-And.operands in
    let items = c.as_slice-operand-items.result.now in
    let whole : take c.loop-operand.operand-index items ≡ operands = take_all c.loop-operand.operand-index items c.loop-operand-test.false ∙ c.as_slice-operand-items.ensures in
    subst (λ e. IsSetOf i.size (λ x. IsMember i x e) c.loop-operand.all) (sym c.in-And.is)
    (set_same i.size (λ x. (x < i.size) × All (IsMember i x) operands) (λ x. IsMember i x (And operands)) c.loop-operand.all
    (λ x. (c.members_of_an_intersection.ensures i x operands).1) (λ x. (c.members_of_an_intersection.ensures i x operands).0)
    (subst (λ (done : List Expr). IsSetOf i.size (λ x. (x < i.size) × All (IsMember i x) done) c.loop-operand.all) whole c.loop-operand.invariant))

pub returns-in_ok-ends-in-Exists : goal.returns-in_ok-ends-in-Exists
returns-in_ok-ends-in-Exists t c =
    let i = c.args.lists.now.ordered in
    let role = c.in-Exists.role in
    let filler = c.in-Exists.filler in
    let ends = c.in_ok-ends-in-Exists.ends in
    subst (λ e. IfOk c.members_before.result (IsSetOf i.size (λ x. IsMember i x e))) (sym c.in-Exists.is)
    (IfOk-weaker c.members_before.result (IsSetOf i.size (λ x. (y : ℕ) × AreRelated i role x y × Has i.size ends y)) (IsSetOf i.size (λ x. IsMember i x (Exists role filler)))
    (λ set is_set. set_same i.size (λ x. (y : ℕ) × AreRelated i role x y × IsMember i y filler) (λ x. IsMember i x (Exists role filler)) set
    (λ x. (c.members_of_a_restriction.ensures i x role filler).1) (λ x. (c.members_of_a_restriction.ensures i x role filler).0)
    (set_leading i role filler ends set (subst (λ e. IsSetOf i.size (λ x. IsMember i x e) ends) c.get.ensures c.in_ok-ends-in-Exists.ensures) is_set))
    c.members_before.ensures)
