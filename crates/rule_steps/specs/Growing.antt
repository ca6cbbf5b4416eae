-- Lists of facts to which facts are added that follow.
use Rattle.std.specs.Prelude.{◌≡◌, ◌<◌, ◌++◌, ℕ, List, Some, length, slice_get}
use Rattle.fact_table.specs.declared.types.Fact.{Fact}
use Rattle.fact_table.specs.declared.types.Fact.TheVariants.{Link}
use Rattle.fact_table.specs.declared.types.Proved.{Proved}
use Rattle.fact_table.specs.Lists.{facts_of}
use Rattle.fact_layers.specs.Tops.{Topped, whole}
use Rattle.el_rules.specs.Following.{EachFollowsByReason}
use Rattle.case_file.specs.Cases.{theory_of}
use Rattle.rule_steps.specs.Counted.{GroundsView, nodes_of}

abbrev pub facts_in : Topped → List Fact
facts_in layers = facts_of (whole layers)

-- each link is by one of this number of roles
abbrev pub AreLinksWithin : ℕ → List Fact → Type 0
AreLinksWithin roles facts =
    (k a r b : ℕ) → slice_get facts k ≡ Some (Link a r b) → r < roles

-- each fact follows by its reason, and each link is by a role of the case
pub record AreDerived (grounds : GroundsView) (items : List Proved) : Type 0 where
  pub follows : EachFollowsByReason (nodes_of grounds) (theory_of grounds.case) grounds.part
      grounds.ranks items
  pub links : AreLinksWithin (length grounds.case.store.roles) (facts_of items)

-- facts were added at the end of the list, and each follows if the old ones do
pub record HasGrown (grounds : GroundsView) (old new : Topped) : Type 0 where
  pub base : new.base ≡ old.base
  pub top : (more : List Proved) × (new.top ≡ old.top ++ more)
  pub derived : AreDerived grounds (whole old) → AreDerived grounds (whole new)
