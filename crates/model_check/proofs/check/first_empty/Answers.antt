use Rattle.std.proofs.Common.{◌≡◌, ◌∙◌, ◌+◌, ◌<◌, ℕ, List, [], length, Contains, ap, sym, subst, arith, true≢false}
use Rattle.std.specs.Prelude.{slice_index_or}
use Rattle.std.proofs.lemmas.List.{get_or_read}
use Rattle.el_logic.specs.Meaning.{members_of}
use Rattle.concept_store.specs.Order.{AreInOrder}
use Rattle.concept_store.specs.Roles.{Numbered, store_of}
use Rattle.case_file.specs.Cases.{CaseView}
use Rattle.model_check.proofs.FailLaws.{some_of, is_first_empty, none_empty, has_more, class_fits}
use Rattle.model_check.proofs.check.first_empty.Goals as goal

pub loop-class-preserved-then-not-is_empty : goal.loop-class-preserved-then-not-is_empty
loop-class-preserved-then-not-is_empty c =
    let class = c.loop-class.class in
    let lists = c.as_slice-classes.result.now in
    let long = ap (λ (ls : List (List ℕ)). length ls) c.as_slice-classes.ensures in
    let within : class < length lists = omega (arith, long, c.requires.each_class, c.loop-class-test.true, c.classes-class-end.ensures) in
    let list_is : c.index-classes-class.result ≡ members_of c.args.i.now class =
    get_or_read lists class c.index-classes-class.result within c.index-classes-class.is [] ∙ ap (λ (ls : List (List ℕ)). slice_index_or ls class []) c.as_slice-classes.ensures in
    has_more c.args.case.now c.args.i.now class c.loop-class.invariant (λ _.
    some_of (members_of c.args.i.now class) (λ none. true≢false (sym (c.is_empty.ensures.1 (list_is ∙ none)) ∙ c.if-not-is_empty.true)))

pub overflow_add-node : goal.overflow_add-node
overflow_add-node c =
    let case = c.args.case.now in
    let given = c.store.ensures.case.given in
    let store_is : store_of case.classes case.properties case.left case.right ≡ case.store = sym (ap (λ (v : CaseView). v.store) c.store.ensures.case.built) in
    let order = subst (λ (s : Numbered). AreInOrder case.classes case.properties s.nodes) store_is (c.nodes_stand_in_order.ensures case.classes case.properties case.left case.right given.left given.right) in
    let fits = class_fits case c.nodes-nodes.result c.loop-class.class (c.nodes-nodes.ensures ∙ ap (λ (s : Numbered). length s.nodes) c.store.ensures.store) (omega arith) order
    (omega (arith, c.loop-class-test.true, c.classes-class-end.ensures)) in
    omega (arith, fits)

pub loop-class-preserved : goal.loop-class-preserved
loop-class-preserved c =
    let class = c.loop-class.class in
    has_more c.args.case.now c.args.i.now class c.loop-class.invariant (λ kept.
    absurd (kept (subst (λ (numbers : List ℕ). Contains numbers (class + 2)) c.excused.ensures (c.has_number.ensures.there.0 c.if-has_number.true))))

pub returns-in-loop-class : goal.returns-in-loop-class
returns-in-loop-class c =
    let class = c.loop-class.class in
    let lists = c.as_slice-classes.result.now in
    let long = ap (λ (ls : List (List ℕ)). length ls) c.as_slice-classes.ensures in
    let within : class < length lists = omega (arith, long, c.requires.each_class, c.loop-class-test.true, c.classes-class-end.ensures) in
    let list_is : c.index-classes-class.result ≡ members_of c.args.i.now class =
    get_or_read lists class c.index-classes-class.result within c.index-classes-class.is [] ∙ ap (λ (ls : List (List ℕ)). slice_index_or ls class []) c.as_slice-classes.ensures in
    is_first_empty c.args.case.now c.args.i.now class c.requires (omega (arith, c.loop-class-test.true, c.classes-class-end.ensures))
    (sym list_is ∙ c.is_empty.ensures.0 c.if-not-is_empty.false)
    (λ there. true≢false (sym (c.has_number.ensures.there.1 (subst (λ (numbers : List ℕ). Contains numbers (class + 2)) (sym c.excused.ensures) there)) ∙ c.if-has_number.false))
    c.loop-class.invariant

pub returns : goal.returns
returns c = none_empty c.args.case.now c.args.i.now c.loop-class.class c.requires (omega (arith, c.loop-class-test.false, c.classes-class-end.ensures)) c.loop-class.invariant
