use Rattle.std.proofs.Common.{◌≡◌, ◌<◌, ◌≤◌, ◌∙◌, sym, ap, List, ℕ, arith, length}
use Rattle.std.specs.Prelude.{◌==◌, bytes_eq}
use Rattle.indexmap.specs.IndexMap.{values}
use Rattle.std.proofs.lemmas.List.Sums.{count_by-le-length}
use Rattle.text_names.specs.Names.{number_of}
use Rattle.text_names.specs.Inside.NameKeys.{hash_of, count_with_hash}
use Rattle.text_names.proofs.Lookups.{seek_start, found_at, passed_at, ended_at, below, beyond}
use Rattle.text_names.proofs.names.NameTable.search.Goals as goal

pub loop-number-init : goal.loop-number-init
loop-number-init c = record { rest = seek_start c.args.name.now (values c.self.inside.names); within = omega arith }

pub returns-then-eq-clause-found : goal.returns-then-eq-clause-found
returns-then-eq-clause-found c =
    let es = c.self.inside.names.entries in
    let name = c.args.name.now in
    let same = ap (λ (n : List ℕ). bytes_eq name n) (sym c.bytes.ensures.value) ∙ sym c.eq.ensures ∙ c.if-eq.true in
    ap (λ (l : List (List ℕ)). number_of l name) (ap (λ t. t.names) (sym c.self.view_is))
    ∙ found_at c.hash_of-hash.result c.loop-number.clashes name es c.self.invariant.keyed c.hash_of-hash.ensures c.loop-number.invariant.rest c.in-Some.number c.in-Some.held.now c.in-Some.ensures.index c.in-Some.ensures.value same

pub overflow_add-clashes : goal.overflow_add-clashes
overflow_add-clashes c =
    let names = values c.self.inside.names in
    let less : c.loop-number.clashes < count_with_hash names (hash_of c.args.name.now) = below c.hash_of-hash.result c.loop-number.clashes c.args.name.now c.self.inside.names.entries c.self.invariant.keyed c.hash_of-hash.ensures c.in-Some.held.now c.in-Some.ensures.value in
    let count : count_with_hash names (hash_of c.args.name.now) ≤ length names = count_by-le-length (λ (other : List ℕ). hash_of other == hash_of c.args.name.now) names in
    omega (arith, less, count, c.self.invariant.bounded, c.self.invariant.fits)

pub loop-number-smaller : goal.loop-number-smaller
loop-number-smaller c =
    let less = below c.hash_of-hash.result c.loop-number.clashes c.args.name.now c.self.inside.names.entries c.self.invariant.keyed c.hash_of-hash.ensures c.in-Some.held.now c.in-Some.ensures.value in
    omega (arith, less)

pub loop-number-preserved : goal.loop-number-preserved
loop-number-preserved c =
    let es = c.self.inside.names.entries in
    let name = c.args.name.now in
    let other = ap (λ (n : List ℕ). bytes_eq name n) (sym c.bytes.ensures.value) ∙ sym c.eq.ensures ∙ c.if-eq.false in
    let less = below c.hash_of-hash.result c.loop-number.clashes name es c.self.invariant.keyed c.hash_of-hash.ensures c.in-Some.held.now c.in-Some.ensures.value in
    record {
      rest = passed_at c.hash_of-hash.result c.loop-number.clashes name es c.self.invariant.keyed c.hash_of-hash.ensures c.loop-number.invariant.rest c.in-Some.number c.in-Some.held.now c.in-Some.ensures.index c.in-Some.ensures.value other;
      within = omega (arith, less);
    }

pub returns-clause-missing : goal.returns-clause-missing
returns-clause-missing c =
    ap (λ (l : List (List ℕ)). number_of l c.args.name.now) (ap (λ t. t.names) (sym c.self.view_is))
    ∙ ended_at c.hash_of-hash.result c.loop-number.clashes c.args.name.now c.self.inside.names.entries c.self.invariant.keyed c.hash_of-hash.ensures c.loop-number.invariant.rest c.in_default.ensures.index

pub returns-clause-key : goal.returns-clause-key
returns-clause-key c =
    let high = beyond c.hash_of-hash.result c.loop-number.clashes c.args.name.now c.self.inside.names.entries c.self.invariant.keyed c.hash_of-hash.ensures c.in_default.ensures.value in
    let same = ap (λ t. count_with_hash t.names (hash_of c.args.name.now)) c.self.view_is in
    let clashes : c.loop-number.clashes ≡ count_with_hash c.args.self.now.names (hash_of c.args.name.now) = omega (arith, high, c.loop-number.invariant.within, same) in
    λ i. (c.hash_of-hash.ensures i, clashes i)
