-- Names that may stand between < and >.
use Rattle.std.specs.Prelude.{◌≡◌, ℕ, true, List}
use Rattle.std.specs.List.{AllByRecursion}
use Rattle.ofn_axiom.specs.declared.types.Names.{Names}
use Rattle.evidence_lines.specs.Names.{is_iri}

-- each has none of <, >, space and line feed
abbrev pub AreIris : List (List ℕ) → Type 0
AreIris names = AllByRecursion (λ name. is_iri name ≡ true) names

pub record HaveIris (names : Names) : Type 0 where
  pub classes : AreIris names.classes.names
  pub roles : AreIris names.roles.names
