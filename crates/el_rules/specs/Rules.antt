-- The fourteen rules: those of saturation for EL (Baader, Brandt and Lutz, 2005), with rules for
-- reflexive roles, domains and disjoint classes.
use Rattle.std.specs.Prelude.{◌≡◌, ℕ, ◌<◌, Bool, true, false, List, length}
use Rattle.concept_store.specs.Nodes.{IsNode}
use Rattle.concept_store.specs.declared.types.Node.{Node}
use Rattle.concept_store.specs.declared.types.Node.TheVariants.{And, Exists}
use Rattle.concept_store.specs.declared.types.NodeAxiom.{NodeAxiom}
use Rattle.fact_table.specs.declared.types.Fact.{Fact}
use Rattle.fact_table.specs.declared.types.Fact.TheVariants.{Sub, Link}
use Rattle.fact_table.specs.declared.types.Rule.{Rule}
use Rattle.el_rules.specs.Saying.{Includes, Separates, IncludesRole, Joins, MakesReflexive, HasDomain}

-- the rule gives the fact from a first and a second premise and from an axiom, if it has them: a
-- fact of the first kind, one of the second kind, and an axiom that is named. Node 0 is owl:Thing,
-- node 1 owl:Nothing.
abbrev pub Gives : List Node → (NodeAxiom → Type 0) → (Fact → Type 0) → (Fact → Type 0) → Rule → Fact
    → Type 0
Gives nodes Named One Two Rule.Itself (Sub a b) = (a < length nodes) × (a ≡ b)
Gives nodes Named One Two Rule.Top (Sub a b) = (a < length nodes) × (b ≡ 0)
Gives nodes Named One Two Rule.Incl (Sub a d) =
    (c : ℕ) × (said : NodeAxiom) × Named said × Includes said c d × One (Sub a c)
Gives nodes Named One Two Rule.Left (Sub a c) =
    (n d : ℕ) × IsNode nodes n (And c d) × One (Sub a n)
Gives nodes Named One Two Rule.Right (Sub a d) =
    (n c : ℕ) × IsNode nodes n (And c d) × One (Sub a n)
Gives nodes Named One Two Rule.Both (Sub a n) =
    (c d : ℕ) × IsNode nodes n (And c d) × One (Sub a c) × Two (Sub a d)
Gives nodes Named One Two Rule.Out (Link a r c) =
    (n : ℕ) × IsNode nodes n (Exists r c) × One (Sub a n)
Gives nodes Named One Two Rule.Into (Sub a n) =
    (r b c : ℕ) × IsNode nodes n (Exists r c) × One (Link a r b) × Two (Sub b c)
Gives nodes Named One Two Rule.Void (Sub a n) =
    (r b : ℕ) × (n ≡ 1) × One (Link a r b) × Two (Sub b 1)
Gives nodes Named One Two Rule.Role (Link a s b) =
    (r : ℕ) × (said : NodeAxiom) × Named said × IncludesRole said r s × One (Link a r b)
Gives nodes Named One Two Rule.Chain (Link a t c) =
    (r s b : ℕ) × (said : NodeAxiom)
    × Named said × Joins said r s t × One (Link a r b) × Two (Link b s c)
Gives nodes Named One Two Rule.Refl (Link a r b) =
    (said : NodeAxiom) × Named said × MakesReflexive said r × (a < length nodes) × (a ≡ b)
Gives nodes Named One Two Rule.Dom (Sub a c) =
    (r b : ℕ) × (said : NodeAxiom) × Named said × HasDomain said r c × One (Link a r b)
Gives nodes Named One Two Rule.Disj (Sub a n) =
    (c d : ℕ) × (said : NodeAxiom)
    × (n ≡ 1) × Named said × Separates said c d × One (Sub a c) × Two (Sub a d)
Gives nodes Named One Two _ fact = ⊥

-- how many facts the rule starts from
abbrev pub premises : Rule → ℕ
premises Rule.Itself = 0
premises Rule.Top = 0
premises Rule.Refl = 0
premises Rule.Both = 2
premises Rule.Into = 2
premises Rule.Void = 2
premises Rule.Chain = 2
premises Rule.Disj = 2
premises _ = 1

-- the rule starts from an axiom too
abbrev pub names_axiom : Rule → Bool
names_axiom Rule.Incl = true
names_axiom Rule.Role = true
names_axiom Rule.Chain = true
names_axiom Rule.Refl = true
names_axiom Rule.Dom = true
names_axiom Rule.Disj = true
names_axiom _ = false
