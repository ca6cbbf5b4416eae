-- Facts that follow by their reasons are true.
use Rattle.std.proofs.Common.{◌≡◌, ◌<◌, ℕ, zero, suc, List, Some, slice_get, Contains, subst, arith, ◌∙◌, ap}
use Rattle.std.proofs.lemmas.Option.{slice_get-get_or}
use Rattle.el_logic.specs.declared.types.Part.{Part}
use Rattle.concept_store.specs.Reading.{Reading}
use Rattle.concept_store.specs.declared.types.Node.{Node}
use Rattle.fact_table.specs.declared.types.Fact.{Fact}
use Rattle.fact_table.specs.declared.types.Proved.{Proved}
use Rattle.fact_table.specs.declared.types.Source.{Source}
use Rattle.el_rules.specs.Theories.{Theory, IsNamedBy, IsStated}
use Rattle.el_rules.specs.Following.{IsEarlier, EachFollowsByReason}
use Rattle.el_rules.specs.Truth.{IsTrueIn, IsModelOf}
use Rattle.el_rules.proofs.Sound.{sound_rule}

module _ (nodes : List Node) (theory : Theory) (part : Part) (ranks : List ℕ) (m : Reading) (model : IsModelOf nodes (IsStated theory part ranks) m) where
  -- the axiom of one source is one of those that are stated
  of_source : (source : Source) → IsModelOf nodes (IsNamedBy theory part ranks source) m
  of_source source = record {
    reading = model.reading;
    thing = model.thing;
    nothing = model.nothing;
    holds = λ said named. model.holds said (source, named);
    parts = λ said named. model.parts said (source, named);
  }

  -- items below a place are true, and so the item there
  true_below : (items : List Proved) → EachFollowsByReason nodes theory part ranks items → (p k : ℕ) (item : Proved) → k < p → slice_get items k ≡ Some item → IsTrueIn m item.fact
  true_below items each zero k item below at = absurd (omega arith)
  true_below items each (suc p) k item below at =
      let earlier : (place : ℕ) (fact : Fact) → IsEarlier items k place fact → IsTrueIn m fact =
      λ place fact found. subst (IsTrueIn m) found.3 (true_below items each p place found.0 (let less = found.1 in omega arith) found.2) in
      sound_rule nodes (IsNamedBy theory part ranks item.reason.source) m (of_source item.reason.source)
      (IsEarlier items k item.reason.first) (IsEarlier items k item.reason.second)
      (earlier item.reason.first) (earlier item.reason.second) item.reason.rule item.fact (each k item at)

  pub true_item : (items : List Proved) → EachFollowsByReason nodes theory part ranks items → (item : Proved) → Contains items item → IsTrueIn m item.fact
  true_item items each item held =
      true_below items each (suc held.0) held.0 item (omega arith) (slice_get-get_or items held.0 item held.1 ∙ ap Some held.2)
