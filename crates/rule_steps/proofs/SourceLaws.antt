-- Sources that count, and entries of tables whose sources do.
use Rattle.std.proofs.Common.{◌≡◌, ℕ, ◌<◌, ◌≤◌, ◌↔◌, Bool, IsTrue, List, length, get_or, nat_cmp, Contains, refl, subst, sym, ◌∙◌, ⊎_elim, arith}
use Rattle.std.specs.Prelude.{Result, Ok, Err, is_ok}
use Rattle.std.specs.List.Sorted.{IsStrictlyIncreasing, IsBinarySearchResult}
use Rattle.std.proofs.lemmas.Bool.{cases_lt}
use Rattle.std.proofs.lemmas.List.{get_or_default}
use Rattle.std.proofs.lemmas.List.Elements.{All-contains}
use Rattle.std.proofs.lemmas.List.Kept.{AllPairs-from_increasing}
use Rattle.std.proofs.lemmas.List.Sorted.{searched}
use Rattle.el_logic.specs.declared.types.Part.{Part}
use Rattle.concept_store.specs.declared.types.NodeAxiom.{NodeAxiom}
use Rattle.fact_table.specs.declared.types.Source.{Source}
use Rattle.el_rules.specs.Theories.{IsSourceOf}
use Rattle.case_tables.specs.Named.{IsNamedIn, HasRank}
use Rattle.case_file.specs.Cases.{AreRanksOf}
use Rattle.rule_steps.specs.Counted.{GroundsView, IsCounting}
use Rattle.rule_steps.specs.Inside.Entries.{AreEntriesOf}

-- no rank is below one that stands before it
rising : (ranks : List ℕ) (i j : ℕ) → IsStrictlyIncreasing ranks → i ≤ j → j < length ranks → get_or ranks i 0 ≤ get_or ranks j 0
rising ranks i j ascending order within = ⊎_elim
    (λ less. let below = AllPairs-from_increasing ranks ascending i j 0 less within in omega arith)
    (λ more. let same : i ≡ j = omega arith in subst (λ k. get_or ranks i 0 ≤ get_or ranks k 0) same (omega arith))
    (cases_lt i j)

-- a search finds a rank exactly if it is there
pub found_rank : (ranks : List ℕ) (rank : ℕ) (found : Result ℕ ℕ) → IsStrictlyIncreasing ranks → IsBinarySearchResult (λ y. nat_cmp y rank) ranks found → IsTrue (is_ok found) ↔ Contains ranks rank
found_rank ranks rank (Ok i) ascending answer =
    let at = searched ranks rank (Ok i) answer (λ one other. rising ranks one other ascending) in
    (λ is. (i, at.0, get_or_default ranks i rank 0 at.0 ∙ at.1), λ held. refl)
found_rank ranks rank (Err i) ascending answer =
    let at = searched ranks rank (Err i) answer (λ one other. rising ranks one other ascending) in
    (λ is. cc, λ held. absurd (missed at held))
  where
    missed : (i ≤ length ranks) × ((k : ℕ) → k < i → get_or ranks k 0 < rank) × ((k : ℕ) → i ≤ k → k < length ranks → rank < get_or ranks k 0) → Contains ranks rank → ⊥
    missed at (k, within, same) =
        let is : get_or ranks k 0 ≡ rank = get_or_default ranks k 0 rank within ∙ same in
        ⊎_elim (λ before. let below = at.1 k before in omega arith) (λ after. let above = at.2 k after within in omega arith) (cases_lt k i)

-- a row counts exactly if its rank does, whatever the part
pub row_counts : (part : Part) (ranks : List ℕ) (rank number : ℕ) (found : Bool) → IsTrue found ↔ Contains ranks rank → IsTrue found ↔ IsSourceOf part ranks (Source.Row rank number)
row_counts Part.Left ranks rank number found same = same
row_counts Part.Right ranks rank number found same = same
row_counts Part.Both ranks rank number found same = same

-- a row that counts has a rank of the case
pub has_rank : (grounds : GroundsView) → AreRanksOf grounds.case grounds.ranks → (source : Source) → IsCounting grounds source → HasRank grounds.case source
has_rank grounds ranks (Source.Left number) counts = tt
has_rank grounds ranks (Source.Right number) counts = tt
has_rank grounds ranks (Source.Row rank number) counts =
    All-contains (λ r. r < length grounds.case.order) grounds.ranks rank ranks.below (held grounds.part counts)
  where
    held : (part : Part) → IsSourceOf part grounds.ranks (Source.Row rank number) → Contains grounds.ranks rank
    held Part.Left is = is
    held Part.Right is = is
    held Part.Both is = is
has_rank grounds ranks Source.Nothing counts = tt

-- the entries of a table, for the sources that count
pub counted_entries : {T : Type 0} (grounds : GroundsView) (source_of : T → Source) (Says : T → NodeAxiom → Type 0) (entries held : List T) → AreRanksOf grounds.case grounds.ranks → entries ≡ held →
    ((entry : T) → Contains held entry ↔ ((said : NodeAxiom) × IsNamedIn grounds.case (source_of entry) said × Says entry said)) → AreEntriesOf grounds source_of Says entries
counted_entries grounds source_of Says entries held ranks same law entry counts = (
  λ in'. let found = (law entry).0 (subst (λ xs. Contains xs entry) same in') in (found.0, found.1.0, found.2),
  λ (said, named, says). subst (λ xs. Contains xs entry) (sym same) ((law entry).1 (said, (named, has_rank grounds ranks (source_of entry) counts), says)),
)

-- the entries of a table over nodes
pub same_entries : {T : Type 0} (Says : T → Type 0) (entries held : List T) → entries ≡ held → ((entry : T) → Contains held entry ↔ Says entry) → (entry : T) → Contains entries entry ↔ Says entry
same_entries Says entries held same law = subst (λ xs. (entry : _) → Contains xs entry ↔ Says entry) (sym same) law
