-- A derivation from documents alone names no row, so it is good whatever the rows are.
use Rattle.std.proofs.Common.{◌≡◌, ◌<◌, ℕ, suc, Bool, true, false, List, [], ◌∷◌, length, Contains, refl, sym, ap, ap₂, subst, ◌∙◌, arith, true≢false}
use Rattle.std.specs.Prelude.{Some, slice_get, ⊤}
use Rattle.std.specs.List.{AllByRecursion}
use Rattle.el_logic.specs.declared.types.Part.{Part}
use Rattle.concept_store.specs.declared.types.Node.{Node}
use Rattle.concept_store.specs.declared.types.NodeAxiom.{NodeAxiom}
use Rattle.fact_table.specs.declared.types.Fact.{Fact}
use Rattle.fact_table.specs.declared.types.Fact.TheVariants.{Sub, Link}
use Rattle.fact_table.specs.declared.types.Rule.{Rule}
use Rattle.fact_table.specs.declared.types.Source.{Source}
use Rattle.el_rules.specs.Rules.{Gives, names_axiom}
use Rattle.el_rules.specs.Theories.{Theory, IsNamedBy}
use Rattle.sssom_rows.specs.declared.table.Table.{Table}
use Rattle.case_file.specs.Cases.{case_of, theory_of}
use Rattle.case_load.specs.declared.documents.Documents.{Documents}
use Rattle.case_load.specs.Loads.{input_of}
use Rattle.derivation.specs.declared.types.Step.{Step}
use Rattle.derivation.specs.Steps.{IsGoodDerivation, IsStepBefore}
use Rattle.valid_evidence.specs.Rows.{source_by_rank, step_by_rank, steps_by_rank}

-- the source is no row
abbrev pub IsNoRow : Source → Type 0
IsNoRow (Source.Row rank number) = ⊥
IsNoRow _ = ⊤

-- a rule that starts from an axiom is given one
given_axiom : (nodes : List Node) (Named : NodeAxiom → Type 0) (One Two : Fact → Type 0) (rule : Rule) (fact : Fact) → Gives nodes Named One Two rule fact
    → names_axiom rule ≡ true → (said : NodeAxiom) × Named said
given_axiom nodes Named One Two Rule.Incl (Sub a d) (c, said, is, says, first) h = (said, is)
given_axiom nodes Named One Two Rule.Role (Link a s b) (r, said, is, says, first) h = (said, is)
given_axiom nodes Named One Two Rule.Chain (Link a t c) (r, s, b, said, is, says, first, second) h = (said, is)
given_axiom nodes Named One Two Rule.Refl (Link a r b) (said, is, says, node, same) h = (said, is)
given_axiom nodes Named One Two Rule.Dom (Sub a c) (r, b, said, is, says, first) h = (said, is)
given_axiom nodes Named One Two Rule.Disj (Sub a n) (c, d, said, nothing, is, says, first, second) h = (said, is)
given_axiom nodes Named One Two Rule.Itself (Sub a b) given h = absurd (true≢false (sym h))
given_axiom nodes Named One Two Rule.Top (Sub a b) given h = absurd (true≢false (sym h))
given_axiom nodes Named One Two Rule.Left (Sub a c) given h = absurd (true≢false (sym h))
given_axiom nodes Named One Two Rule.Right (Sub a d) given h = absurd (true≢false (sym h))
given_axiom nodes Named One Two Rule.Both (Sub a n) given h = absurd (true≢false (sym h))
given_axiom nodes Named One Two Rule.Out (Link a r c) given h = absurd (true≢false (sym h))
given_axiom nodes Named One Two Rule.Into (Sub a n) given h = absurd (true≢false (sym h))
given_axiom nodes Named One Two Rule.Void (Sub a n) given h = absurd (true≢false (sym h))
given_axiom nodes Named One Two _ fact given h = absurd given

-- no rank is among none
no_rank : (rank : ℕ) → Contains [] rank → ⊥
no_rank rank (k, below, is) = omega (arith, below)

-- a source that names an axiom without any rank is no row
named_no_row : (theory : Theory) (part : Part) (source : Source) (said : NodeAxiom) → IsNamedBy theory part [] source said → IsNoRow source
named_no_row theory part (Source.Left number) said h = tt
named_no_row theory part (Source.Right number) said h = tt
named_no_row theory part Source.Nothing said h = tt
named_no_row theory Part.Left (Source.Row rank number) said h = no_rank rank h.0
named_no_row theory Part.Right (Source.Row rank number) said h = no_rank rank h.0
named_no_row theory Part.Both (Source.Row rank number) said h = no_rank rank h.0

nothing_no_row : (source : Source) → source ≡ Source.Nothing → IsNoRow source
nothing_no_row (Source.Left number) is = tt
nothing_no_row (Source.Right number) is = tt
nothing_no_row Source.Nothing is = tt
nothing_no_row (Source.Row rank number) is = cc

module _ (theory : Theory) (part : Part) (source : Source) (nodes : List Node) (One Two : Fact → Type 0) (rule : Rule) (fact : Fact)
    (given : Gives nodes (IsNamedBy theory part [] source) One Two rule fact) (no_more : names_axiom rule ≡ false → source ≡ Source.Nothing) where
  -- so the source of a good step is none
  good_no_row : IsNoRow source
  good_no_row = by (names_axiom rule) refl
    where
      by : (named : Bool) → names_axiom rule ≡ named → IsNoRow source
      by false e = nothing_no_row source (no_more e)
      by true e =
          let found = given_axiom nodes (IsNamedBy theory part [] source) One Two rule fact given e in
          named_no_row theory part source found.0 found.1

-- what is given from a source that is no row is given whatever the rows are
given_again : (left right : List NodeAxiom) (rows others : List (List NodeAxiom)) (part : Part) (source : Source) (nodes : List Node) (One Two : Fact → Type 0)
    (rule : Rule) (fact : Fact) → IsNoRow source
    → Gives nodes (IsNamedBy (record { left = left; right = right; rows = rows }) part [] source) One Two rule fact
    → Gives nodes (IsNamedBy (record { left = left; right = right; rows = others }) part [] source) One Two rule fact
given_again left right rows others part (Source.Left number) nodes One Two _ _ free given = given
given_again left right rows others part (Source.Right number) nodes One Two _ _ free given = given
given_again left right rows others part Source.Nothing nodes One Two _ _ free given = given
given_again left right rows others part (Source.Row rank number) nodes One Two _ _ free given = absurd free

-- ---- steps by ranks

-- a source that is no row by ranks is none by numbers, and is the same by both
no_row_back : (order : List ℕ) (source : Source) → IsNoRow (source_by_rank order source) → IsNoRow source
no_row_back order (Source.Left number) h = tt
no_row_back order (Source.Right number) h = tt
no_row_back order Source.Nothing h = tt
no_row_back order (Source.Row rank number) h = h

source_same : (order : List ℕ) (source : Source) → IsNoRow source → source_by_rank order source ≡ source
source_same order (Source.Left number) h = refl
source_same order (Source.Right number) h = refl
source_same order Source.Nothing h = refl
source_same order (Source.Row rank number) h = absurd h

-- steps that name no row
abbrev NameNoRow : List Step → Type 0
NameNoRow steps = AllByRecursion (λ step. IsNoRow step.source) steps

steps_same : (order : List ℕ) (steps : List Step) → NameNoRow steps → steps_by_rank order steps ≡ steps
steps_same order [] h = refl
steps_same order (s ∷ steps) h =
    ap₂ (λ (first : Step) (rest : List Step). first ∷ rest) (ap (λ (source : Source). record s { source = source }) (source_same order s.source h.0)) (steps_same order steps h.1)

name_no_row : (order : List ℕ) (steps : List Step)
    → ((k : ℕ) (step : Step) → k < length (steps_by_rank order steps) → slice_get (steps_by_rank order steps) k ≡ Some step → IsNoRow step.source) → NameNoRow steps
name_no_row order [] each = tt
name_no_row order (s ∷ steps) each = (
  no_row_back order s.source (each 0 (step_by_rank order s) (omega arith) refl),
  name_no_row order steps (λ k step below at. each (suc k) step (omega (arith, below)) at),
)

module _ (documents : Documents) (table other : Table) (order another : List ℕ) (part : Part) where
  -- a derivation from a part of the documents is good for the case of another table
  good_again : (steps : List Step) → IsGoodDerivation (case_of (input_of documents table order)) part [] steps
      → IsGoodDerivation (case_of (input_of documents other another)) part [] steps
  good_again steps h =
      let case = case_of (input_of documents table order) in
      let case_too = case_of (input_of documents other another) in
      record {
        good = λ k step below at.
            let is = h.good k step below at in
            let free = good_no_row (theory_of case) part step.source case.store.nodes (IsStepBefore steps k step.first) (IsStepBefore steps k step.second) step.rule step.fact is.given is.no_more.source_is in
            record {
              given = given_again case.store.left case.store.right case.over case_too.over part step.source case.store.nodes
                  (IsStepBefore steps k step.first) (IsStepBefore steps k step.second) step.rule step.fact free is.given;
              no_more = is.no_more;
            };
        shows = h.shows;
      }

  -- and so are steps with the numbers of rows, whatever ranks those have
  pub shown_again : (steps : List Step) → IsGoodDerivation (case_of (input_of documents table order)) part [] (steps_by_rank order steps)
      → IsGoodDerivation (case_of (input_of documents other another)) part [] (steps_by_rank another steps)
  shown_again steps h =
      let case = case_of (input_of documents table order) in
      let none = name_no_row order steps (λ k step below at.
      let is = h.good k step below at in
      good_no_row (theory_of case) part step.source case.store.nodes (IsStepBefore (steps_by_rank order steps) k step.first) (IsStepBefore (steps_by_rank order steps) k step.second) step.rule step.fact is.given is.no_more.source_is) in
      subst (λ (told : List Step). IsGoodDerivation (case_of (input_of documents other another)) part [] told)
      (steps_same order steps none ∙ sym (steps_same another steps none))
      (good_again (steps_by_rank order steps) h)
