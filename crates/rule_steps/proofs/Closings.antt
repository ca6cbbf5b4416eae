-- Places that are closed, one after the other.
use Rattle.std.proofs.Common.{◌≡◌, ℕ, zero, suc, ◌+◌, ◌<◌, ◌≤◌, ◌⊎◌, List, ◌++◌, length, Contains, refl, ⊎_elim, sym, arith}
use Rattle.std.proofs.lemmas.List.Elements.{Contains-append_left}
use Rattle.concept_store.specs.declared.types.Node.{Node}
use Rattle.concept_store.specs.declared.types.NodeAxiom.{NodeAxiom}
use Rattle.fact_table.specs.declared.types.Fact.{Fact}
use Rattle.fact_table.specs.declared.types.Fact.TheVariants.{Sub, Link}
use Rattle.fact_table.specs.declared.types.Rule.{Rule}
use Rattle.el_rules.specs.Rules.{Gives, premises}
use Rattle.el_rules.specs.Following.{AreClosed, IsPlacedBelow}
use Rattle.rule_steps.specs.Answering.{IsAt, AreClosedBelow, IsAnsweredFirst, IsAnsweredSecond, IsAnswered, IsNoFact, AreBegunBelow}
use Rattle.rule_steps.proofs.Giving.{gives_more, gives_apart}
use Rattle.rule_steps.proofs.PlaceLaws.{was_at, below_or_at, below_next, below_end}

module _ (nodes : List Node) (Named : NodeAxiom → Type 0) where
  -- the same axioms
  pub gives_from_more : (One Two First Second : Fact → Type 0) → ((fact : Fact) → One fact → First fact) → ((fact : Fact) → Two fact → Second fact) →
      (rule : Rule) (fact : Fact) → Gives nodes Named One Two rule fact → Gives nodes Named First Second rule fact
  gives_from_more One Two First Second one two = gives_more nodes Named Named One Two First Second (λ said is. is) one two

  -- an answered place is closed too
  pub one_more_closed : (p : ℕ) (facts : List Fact) → AreClosedBelow nodes Named p facts → IsAnswered nodes Named p facts → AreClosedBelow nodes Named (p + 1) facts
  one_more_closed p facts closed answered rule fact some given =
      let Below : Fact → Type 0 = IsPlacedBelow p facts in
      let Here : Fact → Type 0 = IsAt p facts in
      let Next : Fact → Type 0 = IsPlacedBelow (p + 1) facts in
      ⊎_elim (closed rule fact some)
      (⊎_elim (λ first. (answered rule).0 fact some (gives_from_more Here (λ f. Below f ⊎ Here f) Here Next (λ f at. at) (below_next p facts) rule fact first))
      (λ second. (answered rule).1 fact second.0 (gives_from_more (λ f. Below f ⊎ Here f) Here Next Here (below_next p facts) (λ f at. at) rule fact second.1)))
      (gives_apart nodes Named Below Here rule fact some
      (gives_from_more Next Next (λ f. Below f ⊎ Here f) (λ f. Below f ⊎ Here f) (below_or_at p facts) (below_or_at p facts) rule fact given))

  -- a rule without premises gives its fact for a node from no fact
  from_nothing : (One Two : Fact → Type 0) (rule : Rule) (fact : Fact) → premises rule ≡ 0 → Gives nodes Named One Two rule fact → Gives nodes Named IsNoFact IsNoFact rule fact
  from_nothing One Two Rule.Itself (Sub a b) none given = given
  from_nothing One Two Rule.Top (Sub a b) none given = given
  from_nothing One Two Rule.Refl (Link a r b) none given = given
  from_nothing One Two Rule.Itself (Link a r b) none given = absurd given
  from_nothing One Two Rule.Top (Link a r b) none given = absurd given
  from_nothing One Two Rule.Refl (Sub a b) none given = absurd given
  from_nothing One Two Rule.Incl fact none given = absurd (omega arith)
  from_nothing One Two Rule.Left fact none given = absurd (omega arith)
  from_nothing One Two Rule.Right fact none given = absurd (omega arith)
  from_nothing One Two Rule.Both fact none given = absurd (omega arith)
  from_nothing One Two Rule.Out fact none given = absurd (omega arith)
  from_nothing One Two Rule.Into fact none given = absurd (omega arith)
  from_nothing One Two Rule.Void fact none given = absurd (omega arith)
  from_nothing One Two Rule.Role fact none given = absurd (omega arith)
  from_nothing One Two Rule.Chain fact none given = absurd (omega arith)
  from_nothing One Two Rule.Dom fact none given = absurd (omega arith)
  from_nothing One Two Rule.Disj fact none given = absurd (omega arith)

  -- what the rules without premises give for nodes is there
  begun_has : (facts : List Fact) → AreBegunBelow nodes Named (length nodes) facts → (rule : Rule) (fact : Fact) → Gives nodes Named IsNoFact IsNoFact rule fact → Contains facts fact
  begun_has facts begun Rule.Itself (Sub a b) given = begun a given.0 Rule.Itself (Sub a b) refl given
  begun_has facts begun Rule.Top (Sub a b) given = begun a given.0 Rule.Top (Sub a b) refl given
  begun_has facts begun Rule.Refl (Link a r b) given = begun a given.3 Rule.Refl (Link a r b) refl given
  begun_has facts begun Rule.Incl (Sub a d) given = absurd given.4
  begun_has facts begun Rule.Left (Sub a c) given = absurd given.3
  begun_has facts begun Rule.Right (Sub a d) given = absurd given.3
  begun_has facts begun Rule.Both (Sub a n) given = absurd given.3
  begun_has facts begun Rule.Out (Link a r c) given = absurd given.2
  begun_has facts begun Rule.Into (Sub a n) given = absurd given.4
  begun_has facts begun Rule.Void (Sub a n) given = absurd given.3
  begun_has facts begun Rule.Role (Link a s b) given = absurd given.4
  begun_has facts begun Rule.Chain (Link a t c) given = absurd given.6
  begun_has facts begun Rule.Dom (Sub a c) given = absurd given.5
  begun_has facts begun Rule.Disj (Sub a n) given = absurd given.6
  begun_has facts begun _ fact given = absurd given

  -- all places are closed, and all nodes begun
  pub all_closed : (facts : List Fact) → AreClosedBelow nodes Named (length facts) facts → AreBegunBelow nodes Named (length nodes) facts → AreClosed nodes Named facts
  all_closed facts closed begun rule fact given = by_count (premises rule) refl
    where
      by_count : (count : ℕ) → count ≡ premises rule → Contains facts fact
      by_count zero same = begun_has facts begun rule fact (from_nothing (Contains facts) (Contains facts) rule fact (sym same) given)
      by_count (suc n) same = closed rule fact (omega (arith, same))
          (gives_from_more (Contains facts) (Contains facts) (IsPlacedBelow (length facts) facts) (IsPlacedBelow (length facts) facts) (below_end facts) (below_end facts) rule fact given)

  -- a fact below an old place was there
  pub was_below : (p : ℕ) (facts more : List Fact) (fact : Fact) → p ≤ length facts → IsPlacedBelow p (facts ++ more) fact → IsPlacedBelow p facts fact
  was_below p facts more fact within (k, below, at) = (k, below, was_at facts more k fact (omega arith) at)

  -- facts that are added leave what is closed closed
  pub closed_stays : (p : ℕ) (facts more : List Fact) → p ≤ length facts → AreClosedBelow nodes Named p facts → AreClosedBelow nodes Named p (facts ++ more)
  closed_stays p facts more within closed rule fact some given =
      let Old : Fact → Type 0 = IsPlacedBelow p facts in
      let New : Fact → Type 0 = IsPlacedBelow p (facts ++ more) in
      let was = λ (f : Fact) (below : IsPlacedBelow p (facts ++ more) f). was_below p facts more f within below in
      Contains-append_left facts more fact (closed rule fact some (gives_from_more New New Old Old was was rule fact given))

  -- and what is answered answered
  pub first_stays : (p : ℕ) (facts more : List Fact) (rule : Rule) → p < length facts → IsAnsweredFirst nodes Named p facts rule → IsAnsweredFirst nodes Named p (facts ++ more) rule
  first_stays p facts more rule within answered fact some given =
      Contains-append_left facts more fact (answered fact some
      (gives_from_more (IsAt p (facts ++ more)) (IsPlacedBelow (p + 1) (facts ++ more)) (IsAt p facts) (IsPlacedBelow (p + 1) facts)
      (λ f at. was_at facts more p f within at) (λ f below. was_below (p + 1) facts more f (omega arith) below) rule fact given))

  pub second_stays : (p : ℕ) (facts more : List Fact) (rule : Rule) → p < length facts → IsAnsweredSecond nodes Named p facts rule → IsAnsweredSecond nodes Named p (facts ++ more) rule
  second_stays p facts more rule within answered fact some given =
      Contains-append_left facts more fact (answered fact some
      (gives_from_more (IsPlacedBelow (p + 1) (facts ++ more)) (IsAt p (facts ++ more)) (IsPlacedBelow (p + 1) facts) (IsAt p facts)
      (λ f below. was_below (p + 1) facts more f (omega arith) below) (λ f at. was_at facts more p f within at) rule fact given))
