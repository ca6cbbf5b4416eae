-- Links that are joined with a fact at a place.
use Rattle.std.proofs.Common.{◌≡◌, ℕ, ◌<◌, List, length, get_or, Some, refl, sym, ◌∙◌, ap, arith}
use Rattle.std.proofs.lemmas.Option.{slice_get-get_or}
use Rattle.concept_store.specs.Nodes.{IsNode}
use Rattle.concept_store.specs.declared.types.Node.TheVariants.{Exists}
use Rattle.fact_table.specs.declared.types.Fact.{Fact}
use Rattle.fact_table.specs.declared.types.Fact.TheVariants.{Sub, Link}
use Rattle.fact_table.specs.declared.types.FactSide.{FactSide}
use Rattle.fact_table.specs.declared.types.FactGroup.TheVariants.{Subs, Links}
use Rattle.fact_table.specs.Groups.{group_at, node_at}
use Rattle.fact_layers.specs.Tops.{Topped, whole}
use Rattle.rule_steps.specs.declared.walks.Joined.{Joined}
use Rattle.rule_steps.specs.Counted.{GroundsView, nodes_of}
use Rattle.rule_steps.specs.Growing.{facts_in, HasGrown}
use Rattle.rule_steps.specs.Answering.{IsAt}
use Rattle.rule_steps.specs.Inside.Steps.{IsDerivedFrom, CanJoin, joined_item, JoinsBy}
use Rattle.rule_steps.proofs.GrowthLaws.{at_grown, earlier_at}

-- a fact of a group of links into a node
link_into : (fact : Fact) (r b : ℕ) → group_at FactSide.Into fact ≡ Links b r → fact ≡ Link (node_at FactSide.From fact) r b
link_into (Sub a c) r b grouped = cc
link_into (Link a s c) r b grouped = cc

-- of a group of links from a node
link_from : (fact : Fact) (r a : ℕ) → group_at FactSide.From fact ≡ Links a r → fact ≡ Link a r (node_at FactSide.Into fact)
link_from (Sub b c) r a grouped = cc
link_from (Link b s c) r a grouped = cc

-- of a group of subsumptions from a node
sub_from : (fact : Fact) (a : ℕ) → group_at FactSide.From fact ≡ Subs a → fact ≡ Sub a (node_at FactSide.Into fact)
sub_from (Sub b c) a grouped = cc
sub_from (Link b s c) a grouped = cc

module _ (facts : List Fact) (k : ℕ) (fact : Fact) where
  -- what is at the place, by the node that was read there
  pub link_into_at : (r a b : ℕ) → IsAt k facts fact → group_at FactSide.Into fact ≡ Links b r → a ≡ node_at FactSide.From fact → IsAt k facts (Link a r b)
  link_into_at r a b at grouped read = at ∙ ap Some (link_into fact r b grouped ∙ ap (λ x. Link x r b) (sym read))

  pub link_from_at : (r a b : ℕ) → IsAt k facts fact → group_at FactSide.From fact ≡ Links a r → b ≡ node_at FactSide.Into fact → IsAt k facts (Link a r b)
  link_from_at r a b at grouped read = at ∙ ap Some (link_from fact r a grouped ∙ ap (λ x. Link a r x) (sym read))

  pub sub_from_at : (a b : ℕ) → IsAt k facts fact → group_at FactSide.From fact ≡ Subs a → b ≡ node_at FactSide.Into fact → IsAt k facts (Sub a b)
  sub_from_at a b at grouped read = at ∙ ap Some (sub_from fact a grouped ∙ ap (λ x. Sub a x) (sym read))

module _ (grounds : GroundsView) where
  -- a link gives its fact together with the one at the place
  pub joined_follows : (role into place partner a : ℕ) (joined : Joined) (initial current : Topped) → HasGrown grounds initial current → place < length (facts_in initial) →
      ((here : Fact) → IsAt place (facts_in initial) here → CanJoin grounds role into here joined) → IsAt partner (facts_in current) (Link a role into) →
      IsDerivedFrom grounds (whole current) (joined_item joined a partner place)
  joined_follows role into place partner a joined initial current grown within joins at =
      let here : Fact = get_or (facts_in initial) place (Sub 0 0) in
      let is : IsAt place (facts_in initial) here = slice_get-get_or (facts_in initial) place (Sub 0 0) within in
      joins here is (whole current) a partner place (earlier_at (whole current) partner (Link a role into) at)
      (earlier_at (whole current) place here (at_grown grounds initial current place here grown is))

  -- by the rule `Into`
  pub can_fill : (role b c node : ℕ) → IsNode (nodes_of grounds) node (Exists role c) → CanJoin grounds role b (Sub b c) (Joined.Filler node)
  can_fill role b c node is items a first second one two = record {
    follows = (role, b, c, is, one, two);
    names = record { first_is = λ few. absurd (omega arith); second_is = λ few. absurd (omega arith); source_is = λ no. refl };
  }

  -- by the rule `Void`
  pub can_void : (role b : ℕ) → CanJoin grounds role b (Sub b 1) Joined.Nothing
  can_void role b items a first second one two = record {
    follows = (role, b, refl, one, two);
    names = record { first_is = λ few. absurd (omega arith); second_is = λ few. absurd (omega arith); source_is = λ no. refl };
  }

  -- by the rule `Chain`
  pub can_chain : (r s t b c : ℕ) (source : _) → JoinsBy grounds source r s t → CanJoin grounds r b (Link b s c) (Joined.Onward t c source)
  can_chain r s t b c source (said, named, says) items a first second one two = record {
    follows = (r, s, b, said, named, says, one, two);
    names = record { first_is = λ few. absurd (omega arith); second_is = λ few. absurd (omega arith); source_is = λ no. cc };
  }
