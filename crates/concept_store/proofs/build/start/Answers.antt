use Rattle.std.proofs.Common.{◌∙◌, ◌≡◌, ap, length, arith}
use Rattle.std.proofs.lemmas.List.FromFn.{length-map-range_with_len}
use Rattle.concept_store.specs.declared.types.Node.TheVariants.{Class}
use Rattle.concept_store.specs.Nodes.{nodes_over, names_of}
use Rattle.concept_store.proofs.BuildLaws.{next_class, names_are}
use Rattle.concept_store.proofs.build.start.Goals as goal

pub loop-class-preserved : goal.loop-class-preserved
loop-class-preserved c = next_class c.loop-class.nodes.keys c.insert-in-loop-class.new.self.keys c.loop-class.class c.loop-class.invariant c.in_ok-insert-3.ensures.keys

pub returns-clause-nodes : goal.returns-clause-nodes
returns-clause-nodes c =
    let all : c.loop-class.class ≡ c.args.classes = omega arith in
    c.loop-class.invariant ∙ names_are c.loop-class.class ∙ ap (λ n. nodes_over (names_of n)) all

pub returns-clause-room : goal.returns-clause-room
returns-clause-room c = omega (arith, ap length c.loop-class.invariant, length-map-range_with_len Class 0 c.loop-class.class, c.from.ensures, c.from-2.ensures, c.if-from.false)
