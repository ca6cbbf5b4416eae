-- Links that follow are by roles of the case.
use Rattle.std.proofs.Common.{◌≡◌, ◌∙◌, ℕ, ◌+◌, ◌<◌, ◌≤◌, List, [], length, map, get_or, Some, All, ap, sym, subst, ⊎_elim, arith}
use Rattle.std.specs.Prelude.{slice_get, slice_index_or}
use Rattle.std.proofs.lemmas.Bool.{cases_lt}
use Rattle.std.proofs.Math.ListN.{get_or-eq_default}
use Rattle.std.proofs.lemmas.List.{get_or-map, length-map}
use Rattle.std.proofs.lemmas.List.Elements.{All-nil, All-map, All-contains}
use Rattle.el_logic.specs.declared.types.Axiom.{Axiom}
use Rattle.el_logic.specs.declared.types.Axiom.TheVariants as A
use Rattle.el_logic.specs.declared.types.Part.{Part}
use Rattle.concept_store.specs.declared.types.NodeAxiom.{NodeAxiom}
use Rattle.concept_store.specs.Nodes.{trees_of, parts_within}
use Rattle.concept_store.specs.Order.{AreInOrder}
use Rattle.concept_store.specs.Roles.{Numbered, IsOver, AreOver, roles_of, store_of}
use Rattle.fact_table.specs.declared.types.Fact.{Fact}
use Rattle.fact_table.specs.declared.types.Fact.TheVariants.{Link}
use Rattle.fact_table.specs.declared.types.Proved.{Proved}
use Rattle.fact_table.specs.declared.types.Rule.{Rule}
use Rattle.fact_table.specs.declared.types.Source.{Source}
use Rattle.fact_table.specs.Lists.{facts_of}
use Rattle.el_rules.specs.Rules.{Gives}
use Rattle.el_rules.specs.Theories.{IsNamedBy, IsNumbered}
use Rattle.el_rules.specs.Following.{EachFollowsByReason, IsEarlier}
use Rattle.case_file.specs.Cases.{CaseView, IsCase, IsRowAxiom, row_over, row_at, rows_over, theory_of}
use Rattle.rule_steps.specs.Growing.{AreLinksWithin}
use Rattle.saturate.proofs.Places.{held_at}
use Rattle.saturate.proofs.RoleBounds.{LeadsWithin, over_within, all_within}

-- an axiom of a row
row_leads : (classes props roles : ℕ) (said : Axiom) → IsRowAxiom said → IsOver classes props said → props ≤ roles → LeadsWithin roles (row_over said)
row_leads classes props roles (A.SubClass low high) is over fits = record { includes = λ r s says. absurd says; joins = λ r s t says. absurd says; reflexive = λ r says. absurd says }
row_leads classes props roles (A.SubRole chain role) is over fits = over_within [] classes props roles 0 (A.SubRole chain role) over fits (omega (arith, is))
row_leads classes props roles _ is over fits = absurd is

-- the axioms of the row with an index
row_leads_all : (classes props roles : ℕ) (axioms : List Axiom) → All IsRowAxiom axioms → All (IsOver classes props) axioms → props ≤ roles → All (LeadsWithin roles) (map row_over axioms)
row_leads_all classes props roles axioms rows over fits = All-map (LeadsWithin roles) row_over axioms (λ k d within. row_leads classes props roles (get_or axioms k d) (rows k d within) (over k d within) fits)

index_leads : (classes props roles : ℕ) (rows : List (List Axiom)) (index : ℕ) → All (All IsRowAxiom) rows → All (AreOver classes props) rows → props ≤ roles → All (LeadsWithin roles) (map row_over (row_at rows index))
index_leads classes props roles rows index are over fits = ⊎_elim
    (λ within. row_leads_all classes props roles (row_at rows index) (are index [] within) (over index [] within).each fits)
    (λ past. subst (λ axioms. All (LeadsWithin roles) (map row_over axioms)) (sym (get_or-eq_default rows [] past)) (All-nil (LeadsWithin roles)))
    (cases_lt index (length rows))

-- the axioms over nodes of the row with a rank
rank_leads : (classes props roles : ℕ) (rows : List (List Axiom)) (order : List ℕ) (rank : ℕ) → All (All IsRowAxiom) rows → All (AreOver classes props) rows → props ≤ roles
    → All (LeadsWithin roles) (slice_index_or (rows_over rows order) rank [])
rank_leads classes props roles rows order rank are over fits = ⊎_elim
    (λ (within : rank < length order). subst (All (LeadsWithin roles))
    (sym (get_or-map (λ (index : ℕ). map row_over (row_at rows index)) order rank 0 [] within))
    (index_leads classes props roles rows (get_or order rank 0) are over fits))
    (λ past. subst (All (LeadsWithin roles))
    (sym (get_or-eq_default (rows_over rows order) [] (omega (arith, length-map order (λ (index : ℕ). map row_over (row_at rows index))))))
    (All-nil (LeadsWithin roles)))
    (cases_lt rank (length order))

module _ (case : CaseView) (is : IsCase case) (in_order : AreInOrder case.classes case.properties case.store.nodes)
    (role_count : length (roles_of case.properties case.left case.right) ≡ case.properties + parts_within case.left + parts_within case.right) where
  store_is : store_of case.classes case.properties case.left case.right ≡ case.store
  store_is = sym (ap (λ (v : CaseView). v.store) is.built)

  -- the properties and the parts of chains are the roles
  room : case.properties + parts_within case.left + parts_within case.right ≡ length case.store.roles
  room = sym role_count ∙ ap (λ (s : Numbered). length s.roles) store_is

  left_leads : All (LeadsWithin (length case.store.roles)) case.store.left
  left_leads =
      let full = room in
      subst (λ (s : Numbered). All (LeadsWithin (length case.store.roles)) s.left) store_is
      (all_within (trees_of case.classes case.left case.right) case.classes case.properties (length case.store.roles) case.properties case.left is.given.left.each (omega arith) (omega arith))

  right_leads : All (LeadsWithin (length case.store.roles)) case.store.right
  right_leads =
      let full = room in
      subst (λ (s : Numbered). All (LeadsWithin (length case.store.roles)) s.right) store_is
      (all_within (trees_of case.classes case.left case.right) case.classes case.properties (length case.store.roles) (case.properties + parts_within case.left) case.right is.given.right.each (omega arith) (omega arith))

  rows_lead : (rank : ℕ) → All (LeadsWithin (length case.store.roles)) (slice_index_or case.over rank [])
  rows_lead rank =
      let full = room in
      subst (λ over. All (LeadsWithin (length case.store.roles)) (slice_index_or over rank [])) (sym (ap (λ (v : CaseView). v.over) is.built))
      (rank_leads case.classes case.properties (length case.store.roles) case.rows case.order rank is.given.row_axioms is.given.row_names (omega arith))

  numbered_leads : (axioms : List NodeAxiom) (number : ℕ) (said : NodeAxiom) → All (LeadsWithin (length case.store.roles)) axioms → IsNumbered axioms number said → LeadsWithin (length case.store.roles) said
  numbered_leads axioms number said each (k, same, at) = All-contains (LeadsWithin (length case.store.roles)) axioms said each (held_at axioms k said at)

  -- an axiom that is named leads to roles of the case
  named_leads : (part : Part) (ranks : List ℕ) (source : Source) (said : NodeAxiom) → IsNamedBy (theory_of case) part ranks source said → LeadsWithin (length case.store.roles) said
  named_leads part ranks (Source.Left number) said named = numbered_leads case.store.left number said left_leads named.1
  named_leads part ranks (Source.Right number) said named = numbered_leads case.store.right number said right_leads named.1
  named_leads part ranks (Source.Row rank number) said named = numbered_leads (slice_index_or case.over rank []) number said (rows_lead rank) named.1
  named_leads part ranks Source.Nothing said named = absurd named.1

  -- so does a rule
  given_leads : (Named : NodeAxiom → Type 0) (One Two : Fact → Type 0) → ((said : NodeAxiom) → Named said → LeadsWithin (length case.store.roles) said) →
      (rule : Rule) (a r b : ℕ) → Gives case.store.nodes Named One Two rule (Link a r b) → r < length case.store.roles
  given_leads Named One Two leads Rule.Out a r b (n, node, p) =
      let full = room in
      let below = (in_order.some n r b node).0 in omega arith
  given_leads Named One Two leads Rule.Role a s b (r, said, named, says, p) = (leads said named).includes r s says
  given_leads Named One Two leads Rule.Chain a t c (r, s, b, said, named, says, p, q) = (leads said named).joins r s t says
  given_leads Named One Two leads Rule.Refl a r b (said, named, says, within, same) = (leads said named).reflexive r says
  given_leads Named One Two leads _ a r b given = absurd given

  -- each link is by a role of the case
  pub links_within : (part : Part) (ranks : List ℕ) (items : List Proved)
      → ((k : ℕ) (fact : Fact) → slice_get (facts_of items) k ≡ Some fact → (item : Proved) × (slice_get items k ≡ Some item) × (item.fact ≡ fact))
      → EachFollowsByReason case.store.nodes (theory_of case) part ranks items → AreLinksWithin (length case.store.roles) (facts_of items)
  links_within part ranks items stand follows k a r b at =
      let found = stand k (Link a r b) at in
      let item = found.0 in
      given_leads (IsNamedBy (theory_of case) part ranks item.reason.source) (IsEarlier items k item.reason.first) (IsEarlier items k item.reason.second)
      (named_leads part ranks item.reason.source) item.reason.rule a r b
      (subst (Gives case.store.nodes (IsNamedBy (theory_of case) part ranks item.reason.source) (IsEarlier items k item.reason.first) (IsEarlier items k item.reason.second) item.reason.rule)
      found.2 (follows k item found.1))
