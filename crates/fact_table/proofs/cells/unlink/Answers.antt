use Rattle.std.proofs.Common.{rules, ◌≡◌, ◌∙◌, ◌-◌, ℕ, length, set, ap}
use Rattle.fact_table.specs.declared.types.FactSide.TheVariants.{From, Into}
use Rattle.fact_table.specs.declared.types.FactGroup.{FactGroup}
use Rattle.fact_table.specs.Inside.Buckets.{bucket_of, head_of, head_at}
use Rattle.fact_table.proofs.CellChains.{all_less}
use Rattle.fact_table.proofs.cells.unlink.Goals as goal

pub returns-clause-chained : goal.returns-clause-chained
returns-clause-chained c =
    let h = c.args.heads.now in
    let cell = c.in-Some.cell in
    let same_long : c.len.result ≡ length h.same.items = search rules in
    let from_long : c.len-2.result ≡ length h.from.items = search rules in
    let into_long : c.len-3.result ≡ length h.into.items = search rules in
    let same : c.bucket-at_same.result ≡ bucket_of (length h.same.items - 1) cell.fact = rw same_long at c.bucket-at_same.ensures.value in
    let from : c.head-at_from.result ≡ head_at From (length h.from.items - 1) cell.fact = (rw from_long at c.head-at_from.ensures.value) ∙ ap (λ (g : FactGroup). head_of (length h.from.items - 1) g) c.group_at.ensures in
    let into : c.head-at_into.result ≡ head_at Into (length h.into.items - 1) cell.fact = (rw into_long at c.head-at_into.ensures.value) ∙ ap (λ (g : FactGroup). head_of (length h.into.items - 1) g) c.group_at-2.ensures in
    all_less c.args.cells.now.items c.pop.new.self.items h _ cell c.requires.chained c.in-Some.ensures.items
    (ap (λ (n : ℕ). set h.same.items n cell.same) same)
    (ap (λ (n : ℕ). set h.from.items n cell.from) from)
    (ap (λ (n : ℕ). set h.into.items n cell.into) into)
