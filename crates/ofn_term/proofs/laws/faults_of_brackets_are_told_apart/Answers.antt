use Rattle.std.proofs.Common.{◌≡◌, List, [], ◌∷◌}
use Rattle.std.specs.Prelude.{Some}
use Rattle.ofn_lex.specs.declared.token.Token.{Token}
use Rattle.ofn_lex.specs.declared.token.TokenKind.TheVariants.{Open, Close}
use Rattle.ofn_term.specs.declared.fault.TermFault.TheVariants.{Unclosed}
use Rattle.ofn_term.specs.Writing.{bracket}
use Rattle.ofn_term.proofs.Faults.{fault_said}
use Rattle.ofn_term.proofs.FaultLaws.{unclosed_found}
use Rattle.ofn_term.proofs.laws.faults_of_brackets_are_told_apart.Goals as goal

abbrev first_is_open : List Token
first_is_open = bracket Open 0 ∷ bracket Open 1 ∷ bracket Close 2 ∷ []

apart : Some (Unclosed 0) ≡ Some (Unclosed 1) → ⊥
apart e = cc

pub returns-clause-unclosed : goal.returns-clause-unclosed
returns-clause-unclosed c = (fault_said 2 first_is_open, λ is. apart (unclosed_found 2 first_is_open 1 is))

pub returns-clause-unopened : goal.returns-clause-unopened
returns-clause-unopened c = fault_said 1 (bracket Open 0 ∷ bracket Close 1 ∷ bracket Close 2 ∷ [])

pub returns-clause-too_deep : goal.returns-clause-too_deep
returns-clause-too_deep c = λ rest. fault_said 1 (bracket Open 0 ∷ bracket Open 1 ∷ rest)

pub returns-clause-within : goal.returns-clause-within
returns-clause-within c = (fault_said 1 (bracket Open 0 ∷ bracket Close 1 ∷ bracket Open 2 ∷ bracket Close 3 ∷ [])).0
