-- Rules of one premise and an axiom.
use Rattle.std.proofs.Common.{◌≡◌, ℕ, ◌+◌, ◌≤◌, List, length, Contains, Some, refl, subst, sym, ◌∙◌, arith}
use Rattle.std.specs.Prelude.{Option, slice_get}
use Rattle.std.proofs.lemmas.Option.{same_Some}
use Rattle.fact_table.specs.declared.types.Fact.{Fact}
use Rattle.fact_table.specs.declared.types.Fact.TheVariants.{Sub, Link}
use Rattle.fact_table.specs.declared.types.Rule.{Rule}
use Rattle.fact_table.specs.declared.types.Source.{Source}
use Rattle.fact_layers.specs.Tops.{Topped, whole}
use Rattle.el_rules.specs.Saying.{Includes, IncludesRole, HasDomain}
use Rattle.case_tables.specs.declared.types.Inclusion.{Inclusion}
use Rattle.case_tables.specs.declared.types.RoleInclusion.{RoleInclusion}
use Rattle.case_tables.specs.declared.types.RoleDomain.{RoleDomain}
use Rattle.rule_steps.specs.Counted.{GroundsView, IsCounting, IsSince, IsCounted, IsCountedSince, nodes_of}
use Rattle.rule_steps.specs.Growing.{facts_in, HasGrown}
use Rattle.rule_steps.specs.Answering.{IsAt, IsAnsweredFirst}
use Rattle.rule_steps.specs.Inside.Entries.{AreEntriesOf, EachBelow}
use Rattle.rule_steps.specs.Inside.Steps.{IsDerivedFrom}
use Rattle.rule_steps.proofs.GrowthLaws.{earlier_at, has_stays}
use Rattle.rule_steps.proofs.LoopLaws.{each_all, each_more}

-- what an entry gives, if its source counts
abbrev pub GivesCounted : {T : Type 0} → GroundsView → Option ℕ → (T → Source) → (T → Fact) → List Fact → T → Type 0
GivesCounted grounds first source_of conclusion facts entry =
    IsSince first (source_of entry) → IsCounting grounds (source_of entry) → Contains facts (conclusion entry)

-- one more entry of a loop
pub counted_more : {T : Type 0} (grounds : GroundsView) (first : Option ℕ) (source_of : T → Source) (conclusion : T → Fact) (old new : Topped) (entries : List T) (n : ℕ) (here : T) →
    HasGrown grounds old new → EachBelow entries n (GivesCounted grounds first source_of conclusion (facts_in old)) → slice_get entries n ≡ Some here →
    GivesCounted grounds first source_of conclusion (facts_in new) here → EachBelow entries (n + 1) (GivesCounted grounds first source_of conclusion (facts_in new))
counted_more grounds first source_of conclusion old new entries n here grown each at is =
    each_more entries n (GivesCounted grounds first source_of conclusion (facts_in old)) (GivesCounted grounds first source_of conclusion (facts_in new)) here
    (λ x has since counts. has_stays grounds old new (conclusion x) grown (has since counts)) each at is

module _ (grounds : GroundsView) (place : ℕ) where
  -- an entry of the inclusions of a node
  pub include_follows : (layers : Topped) (a c : ℕ) (entries : List Inclusion) (entry : Inclusion) → AreEntriesOf grounds (λ e. e.source) (λ e said. Includes said c e.into) entries → Contains entries entry →
      IsAt place (facts_in layers) (Sub a c) → IsCounting grounds entry.source →
      IsDerivedFrom grounds (whole layers) (record { fact = Sub a entry.into; reason = record { first = place; second = 0; source = entry.source; rule = Rule.Incl } })
  include_follows layers a c entries entry are held at counts =
      let says = (are entry counts).0 held in
      record {
        follows = (c, says.0, (counts, says.1), says.2, earlier_at (whole layers) place (Sub a c) at);
        names = record { first_is = λ few. absurd (omega arith); second_is = λ few. refl; source_is = λ no. cc };
      }

  pub include_answers : (first : Option ℕ) (facts : List Fact) (a c n : ℕ) (entries : List Inclusion) → AreEntriesOf grounds (λ e. e.source) (λ e said. Includes said c e.into) entries →
      IsAt place facts (Sub a c) → length entries ≤ n → EachBelow entries n (GivesCounted grounds first (λ e. e.source) (λ e. Sub a e.into) facts) →
      IsAnsweredFirst (nodes_of grounds) (IsCountedSince first grounds) place facts Rule.Incl
  include_answers first facts a c n entries are at past each (Link x r y) some given = absurd given
  include_answers first facts a c n entries are at past each (Sub x d) some (b, said, (source, ((since, counts), named)), says, is) =
      let same : Sub a c ≡ Sub x b = same_Some (Sub a c) (Sub x b) (sym at ∙ is) in
      let left : a ≡ x = cc in
      let right : b ≡ c = cc in
      let entry : Inclusion = record { into = d; source = source } in
      let held : Contains entries entry = (are entry counts).1 (said, named, subst (λ y. Includes said y d) right says) in
      subst (λ y. Contains facts (Sub y d)) left (each_all entries n (GivesCounted grounds first (λ e. e.source) (λ e. Sub a e.into) facts) entry past each held since counts)

  -- an entry of the inclusions of a role
  pub role_follows : (layers : Topped) (a r b : ℕ) (entries : List RoleInclusion) (entry : RoleInclusion) → AreEntriesOf grounds (λ e. e.source) (λ e said. IncludesRole said r e.into) entries → Contains entries entry →
      IsAt place (facts_in layers) (Link a r b) → IsCounting grounds entry.source →
      IsDerivedFrom grounds (whole layers) (record { fact = Link a entry.into b; reason = record { first = place; second = 0; source = entry.source; rule = Rule.Role } })
  role_follows layers a r b entries entry are held at counts =
      let says = (are entry counts).0 held in
      record {
        follows = (r, says.0, (counts, says.1), says.2, earlier_at (whole layers) place (Link a r b) at);
        names = record { first_is = λ few. absurd (omega arith); second_is = λ few. refl; source_is = λ no. cc };
      }

  pub role_answers : (first : Option ℕ) (facts : List Fact) (a r b n : ℕ) (entries : List RoleInclusion) → AreEntriesOf grounds (λ e. e.source) (λ e said. IncludesRole said r e.into) entries →
      IsAt place facts (Link a r b) → length entries ≤ n → EachBelow entries n (GivesCounted grounds first (λ e. e.source) (λ e. Link a e.into b) facts) →
      IsAnsweredFirst (nodes_of grounds) (IsCountedSince first grounds) place facts Rule.Role
  role_answers first facts a r b n entries are at past each (Sub x y) some given = absurd given
  role_answers first facts a r b n entries are at past each (Link x s y) some (q, said, (source, ((since, counts), named)), says, is) =
      let same : Link a r b ≡ Link x q y = same_Some (Link a r b) (Link x q y) (sym at ∙ is) in
      let left : a ≡ x = cc in
      let right : b ≡ y = cc in
      let role : q ≡ r = cc in
      let entry : RoleInclusion = record { into = s; source = source } in
      let held : Contains entries entry = (are entry counts).1 (said, named, subst (λ p. IncludesRole said p s) role says) in
      subst (λ z. Contains facts (Link x s z)) right (subst (λ z. Contains facts (Link z s b)) left
      (each_all entries n (GivesCounted grounds first (λ e. e.source) (λ e. Link a e.into b) facts) entry past each held since counts))

  -- an entry of the domains of a role
  pub domain_follows : (layers : Topped) (a r b : ℕ) (entries : List RoleDomain) (entry : RoleDomain) → AreEntriesOf grounds (λ e. e.source) (λ e said. HasDomain said r e.domain) entries → Contains entries entry →
      IsAt place (facts_in layers) (Link a r b) → IsCounting grounds entry.source →
      IsDerivedFrom grounds (whole layers) (record { fact = Sub a entry.domain; reason = record { first = place; second = 0; source = entry.source; rule = Rule.Dom } })
  domain_follows layers a r b entries entry are held at counts =
      let says = (are entry counts).0 held in
      record {
        follows = (r, b, says.0, (counts, says.1), says.2, earlier_at (whole layers) place (Link a r b) at);
        names = record { first_is = λ few. absurd (omega arith); second_is = λ few. refl; source_is = λ no. cc };
      }

  pub domain_answers : (first : Option ℕ) (facts : List Fact) (a r b n : ℕ) (entries : List RoleDomain) → ((source : Source) → IsSince first source) →
      AreEntriesOf grounds (λ e. e.source) (λ e said. HasDomain said r e.domain) entries →
      IsAt place facts (Link a r b) → length entries ≤ n → EachBelow entries n (GivesCounted grounds first (λ e. e.source) (λ e. Sub a e.domain) facts) →
      IsAnsweredFirst (nodes_of grounds) (IsCounted grounds) place facts Rule.Dom
  domain_answers first facts a r b n entries any are at past each (Link x s y) some given = absurd given
  domain_answers first facts a r b n entries any are at past each (Sub x d) some (q, y, said, (source, (counts, named)), says, is) =
      let same : Link a r b ≡ Link x q y = same_Some (Link a r b) (Link x q y) (sym at ∙ is) in
      let left : a ≡ x = cc in
      let role : q ≡ r = cc in
      let entry : RoleDomain = record { domain = d; source = source } in
      let held : Contains entries entry = (are entry counts).1 (said, named, subst (λ p. HasDomain said p d) role says) in
      subst (λ z. Contains facts (Sub z d)) left (each_all entries n (GivesCounted grounds first (λ e. e.source) (λ e. Sub a e.domain) facts) entry past each held (any source) counts)
