-- The bodies of evidence are read as what they spell, and as nothing else.
use Rattle.std.proofs.Common.{◌≡◌, ℕ, ◌+◌, ◌^◌, ◌<◌, List, [], ◌∷◌, ◌++◌, length, map, Option, Some, None, Ok, refl, sym, ap, subst, ◌∙◌, append_assoc}
use Rattle.std.specs.Prelude.{codes, ⊤}
use Rattle.std.specs.List.{AllByRecursion, flat_map}
use Rattle.el_logic.specs.declared.types.Interp.{Interp}
use Rattle.el_logic.specs.declared.types.Part.{Part}
use Rattle.derivation.specs.declared.types.Step.{Step}
use Rattle.accuse_core.specs.declared.journal.Entry.{Entry}
use Rattle.line_fields.specs.Lines.{Fields}
use Rattle.line_fields.specs.Reading.{At}
use Rattle.evidence_lines.specs.LineLaw.{AreLinesOf}
use Rattle.evidence_lines.specs.Steps.{step_fields, HasStepLine, AreStepNumbers}
use Rattle.evidence_lines.specs.StepReading.{step_of}
use Rattle.evidence_lines.specs.Names.{node_fields, role_fields, HasNodeLine, HasRoleLine, node_of, role_of, IsNodeValue, IsRoleValue}
use Rattle.evidence_lines.specs.Omitted.{omitted_fields, omitted_of, ArePlaceNumbers}
use Rattle.evidence_lines.specs.Journal.{entry_fields, HasEntryLine, entry_of, AreEntryNumbers}
use Rattle.evidence_lines.specs.Model.{class_fields, property_fields, HasClassLine, HasPropertyLine, members_of, pairs_of, AreElementNumbers, ArePairNumbers}
use Rattle.evidence_text.specs.declared.types.EvidenceFault.TheVariants.{Length}
use Rattle.evidence_lines.specs.declared.types.Kind.{Kind}
use Rattle.evidence_lines.specs.declared.types.Kind.TheVariants as kind
use Rattle.evidence_text.specs.declared.types.Removed.{Removed}
use Rattle.evidence_text.specs.declared.types.Body.{Body}
use Rattle.evidence_text.specs.declared.types.Body.TheVariants as body
use Rattle.evidence_text.specs.EvidenceText.{section_lines, removed_lines, rows_lines, lines_from, body_lines, HaveLinesFrom, InOrder, row_before, HasBodyText, AreRemovedNumbers, AreBodyNumbers, plain_body}
use Rattle.evidence_lines.specs.FirstLines.{version_fields, kind_fields, numbered, end_fields, version_of, kind_of, count_of, size_of, end_of}
use Rattle.evidence_text.specs.Reading.{◌>>=◌, first_line, section, any_order, rows, removed_rows, run_at, with_roles, with_classes, diagnosis, refusal, body_by}
use Rattle.evidence_text.proofs.SectionLaws.{CountLaw, bound, ok_is, next_is, Again, next_again, section_back, section_again, FitsAny, any_form, any_fit, any_parts}
use Rattle.evidence_text.proofs.WholeLaws.{RowsFit, RowLaw, StepLaw, rows_back, rows_again, IsPlaceForm, run_back, Stops, run_again}

-- what is known of lines
pub record LineLaws : Type 0 where
  pub version : AreLinesOf version_of (λ u. version_fields) (λ u. ⊤) (λ u. ⊤)
  pub kinds : AreLinesOf kind_of kind_fields (λ k. ⊤) (λ k. ⊤)
  pub counts : CountLaw
  pub rows : RowLaw
  pub size : AreLinesOf size_of (numbered (codes "model")) (λ n. ⊤) (λ n. n < 2 ^ 32)
  pub end : AreLinesOf end_of (λ u. end_fields) (λ u. ⊤) (λ u. ⊤)
  pub steps : StepLaw
  pub nodes : AreLinesOf node_of node_fields HasNodeLine IsNodeValue
  pub roles : AreLinesOf role_of role_fields HasRoleLine IsRoleValue
  pub omitted : AreLinesOf omitted_of omitted_fields (λ o. ⊤) ArePlaceNumbers
  pub entries : AreLinesOf entry_of entry_fields HasEntryLine AreEntryNumbers
  pub classes : (place : ℕ) → AreLinesOf (members_of place) (class_fields place) (HasClassLine place) AreElementNumbers
  pub properties : (place : ℕ) → AreLinesOf (pairs_of place) (property_fields place) (HasPropertyLine place) ArePairNumbers

-- ---- removed rows

pub record AreRemovedRows (lines : List Fields) (found : List Removed × At) : Type 0 where
  pub whole : lines ≡ rows_lines found.0 ++ found.1.lines
  pub count : length found.0 < 2 ^ 64
  pub fit : RowsFit None found.0

removed_back : LineLaws → (at : At) (found : List Removed × At) → removed_rows at ≡ Ok found → AreRemovedRows at.lines found
unfolding removed_rows
removed_back laws at found e =
    let n = bound (first_line (count_of (codes "removed")) at) (λ n. rows (at.read + 1) n.0 None n.1) found e in
    let next = next_is (count_of (codes "removed")) (Length at.read) at n.found n.is in
    let count = (laws.counts (codes "removed") refl).back next.fields n.found.0 next.is in
    let list = rows_back laws.rows laws.steps (at.read + 1) n.found.0 None n.found.1 found n.later in
    record {
      whole = next.lines ∙ ap (λ f. f ∷ n.found.1.lines) count.0 ∙ ap (λ k. numbered (codes "removed") k ∷ n.found.1.lines) (sym list.count_is)
          ∙ ap (λ l. numbered (codes "removed") (length found.0) ∷ l) list.whole;
      count = rw list.count_is count.2;
      fit = list.fit;
    }

removed_again : LineLaws → (rs : List Removed) (read : ℕ) (rest : List Fields) → length rs < 2 ^ 64 → RowsFit None rs
    → Again (removed_rows (record { read = read; lines = rows_lines rs ++ rest })) rs rest
unfolding removed_rows
removed_again laws rs read rest below fit =
    let one = next_again (count_of (codes "removed")) (Length read) read (numbered (codes "removed") (length rs)) (flat_map removed_lines rs ++ rest) (length rs) ((laws.counts (codes "removed") refl).again (length rs) tt below) in
    let later = rows_again laws.rows laws.steps (read + 1) None rs (read + 1) rest fit in
    record { read = later.read; is = ap (λ r. r >>= λ n. rows (read + 1) n.0 None n.1) one ∙ later.is }

-- what fits row by row, as the definitions have it
abbrev HaveSteps : List Removed → Type 0
HaveSteps rs = AllByRecursion (λ r. AllByRecursion HasStepLine r.steps) rs

rows_follow : (before : Removed) (rs : List Removed) → RowsFit (Some before.row) rs → InOrder row_before (Some before) rs
rows_follow before [] fit = tt
rows_follow before (r ∷ rs) fit = (fit.0.follows, rows_follow r rs fit.1)

rows_order : (rs : List Removed) → RowsFit None rs → InOrder row_before None rs
rows_order [] fit = tt
rows_order (r ∷ rs) fit = rows_follow r rs fit.1

rows_steps : (before : Option ℕ) (rs : List Removed) → RowsFit before rs → HaveSteps rs
rows_steps before [] fit = tt
rows_steps before (r ∷ rs) fit = (fit.0.has, rows_steps (Some r.row) rs fit.1)

rows_numbers : (before : Option ℕ) (rs : List Removed) → RowsFit before rs → AllByRecursion AreRemovedNumbers rs
rows_numbers before [] fit = tt
rows_numbers before (r ∷ rs) fit = (fit.0.numbers, rows_numbers (Some r.row) rs fit.1)

rows_fit_after : (before : Removed) (rs : List Removed) → InOrder row_before (Some before) rs → HaveSteps rs → AllByRecursion AreRemovedNumbers rs → RowsFit (Some before.row) rs
rows_fit_after before [] order has numbers = tt
rows_fit_after before (r ∷ rs) order has numbers = (record { follows = order.0; has = has.0; numbers = numbers.0 }, rows_fit_after r rs order.1 has.1 numbers.1)

rows_fit : (rs : List Removed) → InOrder row_before None rs → HaveSteps rs → AllByRecursion AreRemovedNumbers rs → RowsFit None rs
rows_fit [] order has numbers = tt
rows_fit (r ∷ rs) order has numbers = (record { follows = refl; has = has.0; numbers = numbers.0 }, rows_fit_after r rs order has.1 numbers.1)

-- ---- models

abbrev FitsClass : ℕ → List ℕ → Type 0
FitsClass place members = HasClassLine place members × AreElementNumbers members

abbrev FitsProperty : ℕ → List (ℕ × ℕ) → Type 0
FitsProperty place pairs = HasPropertyLine place pairs × ArePairNumbers pairs

class_form : LineLaws → IsPlaceForm members_of class_fields FitsClass
class_form laws = record {
  back = λ place fields x e. let b = (laws.classes place).back fields x e in (b.0, (b.1, b.2));
  again = λ place x fits. (laws.classes place).again x fits.0 fits.1;
}

property_form : LineLaws → IsPlaceForm pairs_of property_fields FitsProperty
property_form laws = record {
  back = λ place fields x e. let b = (laws.properties place).back fields x e in (b.0, (b.1, b.2));
  again = λ place x fits. (laws.properties place).again x fits.0 fits.1;
}

from_parts : {X : Type 0} → (A : ℕ → X → Type 0) (B : X → Type 0) (place : ℕ) (xs : List X) → HaveLinesFrom (λ p x. A p x × B x) place xs → HaveLinesFrom A place xs × AllByRecursion B xs
from_parts A B place [] fit = (tt, tt)
from_parts A B place (x ∷ xs) fit = let later = from_parts A B (place + 1) xs fit.1 in ((fit.0.0, later.0), (fit.0.1, later.1))

to_parts : {X : Type 0} → (A : ℕ → X → Type 0) (B : X → Type 0) (place : ℕ) (xs : List X) → HaveLinesFrom A place xs → AllByRecursion B xs → HaveLinesFrom (λ p x. A p x × B x) place xs
to_parts A B place [] has is = tt
to_parts A B place (x ∷ xs) has is = ((has.0, is.0), to_parts A B (place + 1) xs has.1 is.1)

no_pairs : (n : ℕ) (more : List Fields) → Stops pairs_of (numbered (codes "journal") n ∷ more)
unfolding pairs_of
no_pairs n more place = refl

no_members : (ps : List (List (ℕ × ℕ))) (n : ℕ) (more : List Fields) → Stops members_of (lines_from property_fields 0 ps ++ (numbered (codes "journal") n ∷ more))
unfolding members_of
no_members [] n more = λ place. refl
no_members (p ∷ ps) n more = λ place. refl

-- ---- bodies

pub record IsBody (k : Kind) (lines : List Fields) (found : Body × At) : Type 0 where
  pub whole : lines ≡ body_lines found.0 ++ found.1.lines
  pub has : HasBodyText k found.0
  pub numbers : AreBodyNumbers found.0
  pub plain : plain_body found.0 ≡ found.0

four_parts : (a b c d : List Fields) → ((a ++ b) ++ c) ++ d ≡ a ++ (b ++ (c ++ d))
four_parts a b c d = simp append_assoc

diagnosis_back : LineLaws → (at : At) (found : Body × At) → diagnosis at ≡ Ok found → IsBody kind.Diagnosis at.lines found
unfolding diagnosis
diagnosis_back laws at found e =
    let r = bound (removed_rows at) (λ removed. first_line size_of removed.1 >>= λ size. with_classes removed.0 size.0 (run_at members_of size.1)) found e in
    let z = bound (first_line size_of r.found.1) (λ size. with_classes r.found.0 size.0 (run_at members_of size.1)) found r.later in
    let cs = run_at members_of z.found.1 in
    let ps = run_at pairs_of cs.1 in
    let model : Interp = record { size = z.found.0; classes = cs.0; roles = ps.0 } in
    let j = bound (section (codes "journal") (any_order entry_of) ps.1) (λ journal. Ok (body.Diagnosis r.found.0 model (record { entries = journal.0; room = 0 }), journal.1)) found z.later in
    let rows = removed_back laws at r.found r.is in
    let next = next_is size_of (Length r.found.1.read) r.found.1 z.found z.is in
    let size = laws.size.back next.fields z.found.0 next.is in
    let classes = run_back members_of class_fields FitsClass (class_form laws) 0 z.found.1.read z.found.1.lines in
    let roles = run_back pairs_of property_fields FitsProperty (property_form laws) 0 cs.1.read cs.1.lines in
    let journal = section_back laws.counts (any_order entry_of) entry_fields (FitsAny HasEntryLine AreEntryNumbers) (any_form entry_of entry_fields HasEntryLine AreEntryNumbers laws.entries) (codes "journal") refl ps.1 j.found j.is in
    let entries = any_parts HasEntryLine AreEntryNumbers None j.found.0 journal.fit in
    let class_parts = from_parts HasClassLine AreElementNumbers 0 cs.0 classes.fit in
    let role_parts = from_parts HasPropertyLine ArePairNumbers 0 ps.0 roles.fit in
    let C = lines_from class_fields 0 cs.0 in
    let P = lines_from property_fields 0 ps.0 in
    let J = section_lines (codes "journal") entry_fields j.found.0 in
    let R = j.found.1.lines in
    let made : Body × At = (body.Diagnosis r.found.0 model (record { entries = j.found.0; room = 0 }), j.found.1) in
    let head : List Fields → List Fields = λ l. numbered (codes "model") z.found.0 ∷ l in
    let rest : r.found.1.lines ≡ head (C ++ (P ++ (J ++ R))) =
    next.lines ∙ ap (λ f. f ∷ z.found.1.lines) size.0 ∙ ap head (classes.whole ∙ ap (λ l. C ++ l) (roles.whole ∙ ap (λ l. P ++ l) journal.whole)) in
    let whole : at.lines ≡ body_lines made.0 ++ R =
    rows.whole ∙ ap (λ l. rows_lines r.found.0 ++ l) (rest ∙ ap head (sym (four_parts C P J R))) ∙ sym (append_assoc (rows_lines r.found.0) (head ((C ++ P) ++ J)) R) in
    subst (λ f. IsBody kind.Diagnosis at.lines f) (ok_is made found j.later) (record {
      whole = whole;
      has = (rows_order r.found.0 rows.fit, rows_steps None r.found.0 rows.fit, class_parts.0, role_parts.0, entries.0);
      numbers = (rows.count, rows_numbers None r.found.0 rows.fit, record { size = size.2; classes = class_parts.1; roles = role_parts.1 }, journal.count, entries.1);
      plain = refl;
    })

diagnosis_again : LineLaws → (removed : List Removed) (model : Interp) (list : List Entry) (room read : ℕ) (rest : List Fields)
    → HasBodyText kind.Diagnosis (body.Diagnosis removed model (record { entries = list; room = room })) → AreBodyNumbers (body.Diagnosis removed model (record { entries = list; room = room }))
    → Again (diagnosis (record { read = read; lines = body_lines (body.Diagnosis removed model (record { entries = list; room = room })) ++ rest }))
    (body.Diagnosis removed model (record { entries = list; room = 0 })) rest
unfolding diagnosis
diagnosis_again laws removed model list room read rest has numbers =
    let C = lines_from class_fields 0 model.classes in
    let P = lines_from property_fields 0 model.roles in
    let J = section_lines (codes "journal") entry_fields list in
    let head : List Fields → List Fields = λ l. numbered (codes "model") model.size ∷ l in
    let regrouped : (rows_lines removed ++ head ((C ++ P) ++ J)) ++ rest ≡ rows_lines removed ++ head (C ++ (P ++ (J ++ rest))) =
    append_assoc (rows_lines removed) (head ((C ++ P) ++ J)) rest ∙ ap (λ l. rows_lines removed ++ head l) (four_parts C P J rest) in
    let rows = removed_again laws removed read (head (C ++ (P ++ (J ++ rest)))) numbers.0 (rows_fit removed has.0 has.1 numbers.1) in
    let size = next_again size_of (Length rows.read) rows.read (numbered (codes "model") model.size) (C ++ (P ++ (J ++ rest))) model.size (laws.size.again model.size tt numbers.2.size) in
    let classes = run_again members_of class_fields FitsClass (class_form laws) 0 (rows.read + 1) model.classes (P ++ (J ++ rest))
    (to_parts HasClassLine AreElementNumbers 0 model.classes has.2 numbers.2.classes) (no_members model.roles (length list) (map entry_fields list ++ rest)) in
    let roles = run_again pairs_of property_fields FitsProperty (property_form laws) 0 classes.read model.roles (J ++ rest)
    (to_parts HasPropertyLine ArePairNumbers 0 model.roles has.3 numbers.2.roles) (no_pairs (length list) (map entry_fields list ++ rest)) in
    let journal = section_again laws.counts (any_order entry_of) entry_fields (FitsAny HasEntryLine AreEntryNumbers) (any_form entry_of entry_fields HasEntryLine AreEntryNumbers laws.entries)
    (codes "journal") refl list roles.read rest numbers.3 (any_fit HasEntryLine AreEntryNumbers None list has.4 numbers.4) in
    let start : List Fields → At = λ l. record { read = read; lines = l } in
    record {
      read = journal.read;
      is = ap (λ l. removed_rows (start l) >>= λ removed. first_line size_of removed.1 >>= λ size. with_classes removed.0 size.0 (run_at members_of size.1)) regrouped
          ∙ ap (λ r. r >>= λ removed. first_line size_of removed.1 >>= λ size. with_classes removed.0 size.0 (run_at members_of size.1)) rows.is
          ∙ ap (λ r. r >>= λ size. with_classes removed size.0 (run_at members_of size.1)) size
          ∙ ap (λ c. with_classes removed model.size c) classes.is
          ∙ ap (λ p. with_roles removed model.size model.classes p) roles.is
          ∙ ap (λ r. r >>= λ journal. Ok (body.Diagnosis removed model (record { entries = journal.0; room = 0 }), journal.1)) journal.is;
    }

refusal_back : LineLaws → (p : Part) (at : At) (found : Body × At) → refusal at ≡ Ok found → IsBody (kind.Refusal p) at.lines found
unfolding refusal
refusal_back laws p at found e =
    let j = bound (section (codes "steps") (any_order step_of) at) (λ steps. Ok (body.Refusal steps.0, steps.1)) found e in
    let list = section_back laws.counts (any_order step_of) step_fields (FitsAny HasStepLine AreStepNumbers) (any_form step_of step_fields HasStepLine AreStepNumbers laws.steps) (codes "steps") refl at j.found j.is in
    let parts = any_parts HasStepLine AreStepNumbers None j.found.0 list.fit in
    let made : Body × At = (body.Refusal j.found.0, j.found.1) in
    subst (λ f. IsBody (kind.Refusal p) at.lines f) (ok_is made found j.later) (record { whole = list.whole; has = parts.0; numbers = (list.count, parts.1); plain = refl })

pub body_back : LineLaws → (k : Kind) (at : At) (found : Body × At) → body_by k at ≡ Ok found → IsBody k at.lines found
body_back laws kind.Diagnosis at found e = diagnosis_back laws at found e
body_back laws (kind.Refusal p) at found e = refusal_back laws p at found e

refusal_again : LineLaws → (p : Part) (steps : List Step) (read : ℕ) (rest : List Fields) → AllByRecursion HasStepLine steps → AreBodyNumbers (body.Refusal steps)
    → Again (refusal (record { read = read; lines = section_lines (codes "steps") step_fields steps ++ rest })) (body.Refusal steps) rest
unfolding refusal
refusal_again laws p steps read rest has numbers =
    let list = section_again laws.counts (any_order step_of) step_fields (FitsAny HasStepLine AreStepNumbers) (any_form step_of step_fields HasStepLine AreStepNumbers laws.steps)
    (codes "steps") refl steps read rest numbers.0 (any_fit HasStepLine AreStepNumbers None steps has numbers.1) in
    record { read = list.read; is = ap (λ r. r >>= λ steps. Ok (body.Refusal steps.0, steps.1)) list.is }

pub body_again : LineLaws → (k : Kind) (b : Body) (read : ℕ) (rest : List Fields) → HasBodyText k b → AreBodyNumbers b
    → Again (body_by k (record { read = read; lines = body_lines b ++ rest })) (plain_body b) rest
body_again laws kind.Diagnosis (body.Diagnosis removed model journal) read rest has numbers = diagnosis_again laws removed model journal.entries journal.room read rest has numbers
body_again laws kind.Diagnosis (body.Refusal steps) read rest has numbers = absurd has
body_again laws (kind.Refusal p) (body.Diagnosis removed model journal) read rest has numbers = absurd has
body_again laws (kind.Refusal p) (body.Refusal steps) read rest has numbers = refusal_again laws p steps read rest has numbers
