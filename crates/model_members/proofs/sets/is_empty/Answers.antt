use Rattle.std.proofs.Common.{ℕ, false, IsTrue, sym, subst, arith}
use Rattle.std.specs.Prelude.{◌↔◌}
use Rattle.std.proofs.lemmas.Bool.{false≢true}
use Rattle.model_members.specs.Inside.Sets.{Has}
use Rattle.model_members.proofs.SetLaws.{empty_of, none_of}
use Rattle.model_members.proofs.sets.is_empty.Goals as goal

pub returns-in-Whole : goal.returns-in-Whole
returns-in-Whole c =
    subst (λ s. IsTrue false ↔ ((x : ℕ) → ¬ (Has c.args.size s x))) (sym c.in-Whole.is) (
      (λ yes. absurd (false≢true yes)),
      (λ none. absurd (none 0 (omega (arith, c.requires)))),
    )

pub returns-in-Listed : goal.returns-in-Listed
returns-in-Listed c =
    subst (λ s. IsTrue c.is_empty.result ↔ ((x : ℕ) → ¬ (Has c.args.size s x))) (sym c.in-Listed.is) (
      (λ yes x there. none_of c.in-Listed.numbers x (c.is_empty.ensures.0 yes) there),
      (λ none. c.is_empty.ensures.1 (empty_of c.in-Listed.numbers none)),
    )
