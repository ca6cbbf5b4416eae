use Rattle.std.proofs.Common.{◌∙◌, ◌+◌, ℕ, List, Contains, take, sym, subst, true≢false}
use Rattle.std.proofs.lemmas.List.{take_all}
use Rattle.model_members.specs.Inside.Pairs.{Lead}
use Rattle.model_members.specs.Inside.Sets.{AreListed}
use Rattle.model_members.proofs.KeptLaws.{kept_more, kept_same, kept_none}
use Rattle.model_members.proofs.lists.leading.Goals as goal

pub loop-x-preserved-then-not-leads_into : goal.loop-x-preserved-then-not-leads_into
loop-x-preserved-then-not-leads_into c up =
    let Leads : ℕ → Type 0 = λ x. (y : ℕ) × Lead c.args.pairs.now x y × Contains c.args.ends.now y in
    kept_same Leads c.args.numbers.now c.loop-x.x-index c.loop-x.kept.items c.loop-x-test.true
    (λ leads. true≢false (sym (c.leads_into.ensures.1 leads) ∙ c.if-not-leads_into.true)) (c.loop-x.invariant up)

pub loop-x-preserved : goal.loop-x-preserved
loop-x-preserved c up =
    let Leads : ℕ → Type 0 = λ x. (y : ℕ) × Lead c.args.pairs.now x y × Contains c.args.ends.now y in
    let numbers = c.args.numbers.now in
    let index = c.loop-x.x-index in
    subst (AreListed (λ x. Contains (take (index + 1) numbers) x × Leads x)) (sym c.in_ok-push.ensures.items)
    (kept_more Leads numbers index c.loop-x.kept.items up c.loop-x-test.true (c.leads_into.ensures.0 c.if-not-leads_into.false) (c.loop-x.invariant up))

pub returns : goal.returns
returns c up =
    let Leads : ℕ → Type 0 = λ x. (y : ℕ) × Lead c.args.pairs.now x y × Contains c.args.ends.now y in
    subst (AreListed (λ x. Contains c.args.numbers.now x × Leads x)) (sym c.from_vec.ensures)
    (subst (λ (done : List ℕ). AreListed (λ x. Contains done x × Leads x) c.loop-x.kept.items) (take_all c.loop-x.x-index c.args.numbers.now c.loop-x-test.false) (c.loop-x.invariant up))

pub loop-x-init : goal.loop-x-init
loop-x-init c up =
    let Leads : ℕ → Type 0 = λ x. (y : ℕ) × Lead c.args.pairs.now x y × Contains c.args.ends.now y in
    kept_none Leads c.args.numbers.now c.new-kept.result.items c.new-kept.ensures.items
