-- What stops a run is its one cause, whatever the run is over.
use Rattle.std.proofs.Common.{◌≡◌, ◌⊎◌, List, ℕ, inl, inr, refl, ◌∙◌, ap, subst, ⊎_elim}
use Rattle.std.specs.Prelude.{Some}
use Rattle.io_edge.specs.declared.outside.Role.{Role}
use Rattle.io_edge.specs.declared.outside.Target.{Target}
use Rattle.io_edge.specs.declared.outside.Target.TheVariants as target
use Rattle.el_logic.specs.declared.types.Part.{Part}
use Rattle.el_logic.specs.Incoherent.{IsFirstIncoherent}
use Rattle.ofn_axiom.specs.declared.types.Names.{Names}
use Rattle.case_file.specs.Cases.{CaseView}
use Rattle.case_load.specs.Loads.{SayTheSame}
use Rattle.case_load.specs.declared.fault.LoadFault.{LoadFault}
use Rattle.case_load.specs.declared.fault.LoadFault.TheVariants as load
use Rattle.case_load.specs.declared.texts.Loaded.{Loaded}
use Rattle.status_lines.specs.declared.status.Status.{Status}
use Rattle.status_lines.specs.Lines.{status_of}
use Rattle.repair_run.specs.Outcomes.{AreCoherentTogether, IsDecided, IsIncoherentCase, IsRepairable, case_in, iri_of_class}
use Rattle.repair_run.specs.Run.{IsOrMemory, IsOrReadStop, IsOrEvidenceStop}
use Rattle.repair_run.specs.Inside.Stops.{IsStopBy}
use Rattle.repair_run.proofs.FaultLaws.{IsNoRead}
use Rattle.repair_run.proofs.FoundLaws.{MoreStay, one_part, is_incoherent, one_iri}

-- of what a run is over there is one case or one fault, but for reads that fail
pub record HasOneAnswer (IsFault : LoadFault → Type 0) (IsRead : Loaded → Type 0) : Type 0 where
  pub never_both : (loaded : Loaded) (fault : LoadFault) → IsRead loaded → IsNoRead fault → IsFault fault → ⊥
  pub one_case : (one other : Loaded) → IsRead one → IsRead other → SayTheSame one other
  pub one_fault : (one other : LoadFault) → IsNoRead one → IsNoRead other → IsFault one → IsFault other → one ≡ other

-- a target that is not written shows that the documents leave no class empty; EVIDENCE, that they are decided
abbrev pub ShortAfter : (Loaded → Type 0) → Target → Type 0
ShortAfter IsRead short = IsRepairable IsRead ⊎ ((short ≡ target.Evidence) × IsDecided IsRead)

module _ (IsFault : LoadFault → Type 0) (IsRead : Loaded → Type 0) (law : HasOneAnswer IsFault IsRead) (more : MoreStay) where
  -- one part and one class are the first that is found
  one_found : (part part' : Part) (iri iri' : List ℕ) → IsIncoherentCase IsRead part iri → IsIncoherentCase IsRead part' iri' → (part ≡ part') × (iri ≡ iri')
  one_found part part' iri iri' h k =
      let same = law.one_case h.loaded k.loaded h.read k.read in
      let case = case_in k.loaded in
      let first = subst (λ (c : CaseView). IsFirstIncoherent c.classes c.properties c.left c.right part h.class) same.case h.first in
      let named = subst (λ (n : Names). iri_of_class n.classes.names h.class ≡ Some iri) same.names h.named in
      let one = one_part case.classes case.properties case.left case.right part part' h.class k.class first k.first in
      (one.0, one_iri k.loaded.names.classes.names h.class k.class iri iri' one.1 named k.named)

  -- documents that are coherent together have no first part that is not
  pub no_part : (part : Part) (iri : List ℕ) → IsIncoherentCase IsRead part iri → (loaded : Loaded) → IsRead loaded → AreCoherentTogether loaded → ⊥
  no_part part iri h loaded read coherent =
      let same = law.one_case h.loaded loaded h.read read in
      let case = case_in loaded in
      let first = subst (λ (c : CaseView). IsFirstIncoherent c.classes c.properties c.left c.right part h.class) same.case h.first in
      coherent (is_incoherent case.classes case.properties more case.left case.right part h.class first)

  -- documents that are decided have no fault
  no_decided_fault : (fault : LoadFault) → IsNoRead fault → IsFault fault → IsDecided IsRead → ⊥
  no_decided_fault fault n f (inl r) = law.never_both r.loaded fault r.read n f
  no_decided_fault fault n f (inr i) = law.never_both i.2.loaded fault i.2.read n f

  module _ (IsSure : LoadFault → Type 0) (IsShort : Target → Type 0) (into : (fault : LoadFault) → IsSure fault → IsFault fault)
      (short : (target : Target) → IsShort target → ShortAfter IsRead target) where
    abbrev Stops : Status → Type 0
    Stops s = IsStopBy IsSure IsRead IsShort s

    -- if there is a fault, a run that stops says so, unless a read failed or memory ran out
    pub fault_stop : (fault : LoadFault) → IsNoRead fault → IsFault fault → (s : Status) → Stops s → IsOrReadStop (status_of fault) s
    fault_stop fault n f s h = by s h
      where
        same : (other : LoadFault) → IsNoRead other → IsSure other → IsOrReadStop (status_of fault) (status_of other)
        same other m g = inl (ap status_of (law.one_fault other fault m n (into other g) f))

        by : (s : Status) → Stops s → IsOrReadStop (status_of fault) s
        by (Status.ReadFault file) h = inr (inl (file, refl))
        by (Status.Syntax side place kind) h = same (load.Syntax side place kind) tt h
        by (Status.Profile side place head) h = same (load.Profile side place head) tt h
        by (Status.Table other) h = same (load.Table other) tt h
        by (Status.Limit kind) h = same (load.Limit kind) tt h
        by (Status.Incoherent part iri) h = absurd (law.never_both h.loaded fault h.read n f)
        by (Status.WriteFault what) h = ⊎_elim (λ r. absurd (no_decided_fault fault n f (inl r))) (λ d. absurd (no_decided_fault fault n f d.1)) (short what h)
        by Status.OutOfMemory h = inr (inr refl)
        by Status.Done h = absurd h
        by Status.Words h = absurd h

    -- and it names the first empty class if the documents leave a class empty
    pub incoherent_stop : (part : Part) (iri : List ℕ) → IsIncoherentCase IsRead part iri → (s : Status) → Stops s → IsOrEvidenceStop (Status.Incoherent part iri) s
    incoherent_stop part iri case s h = by s h
      where
        none : (fault : LoadFault) → IsNoRead fault → IsSure fault → ⊥
        none fault n f = law.never_both case.loaded fault case.read n (into fault f)

        by : (s : Status) → Stops s → IsOrEvidenceStop (Status.Incoherent part iri) s
        by (Status.ReadFault file) h = inl (inr (inl (file, refl)))
        by (Status.Syntax side place kind) h = absurd (none (load.Syntax side place kind) tt h)
        by (Status.Profile side place head) h = absurd (none (load.Profile side place head) tt h)
        by (Status.Table fault) h = absurd (none (load.Table fault) tt h)
        by (Status.Limit kind) h = absurd (none (load.Limit kind) tt h)
        by (Status.Incoherent part' iri') h =
            let same = one_found part' part iri' iri h case in
            inl (inl (ap {B = Status} (λ (r : Part). Status.Incoherent r iri') same.0 ∙ ap {B = Status} (λ (i : List ℕ). Status.Incoherent part i) same.1))
        by (Status.WriteFault what) h =
            ⊎_elim (λ (r : IsRepairable IsRead). absurd (no_part part iri case r.loaded r.read r.coherent))
            (λ (d : (what ≡ target.Evidence) × IsDecided IsRead). inr (ap {B = Status} (λ (t : Target). Status.WriteFault t) d.0)) (short what h)
        by Status.OutOfMemory h = inl (inr (inr refl))
        by Status.Done h = absurd h
        by Status.Words h = absurd h

    -- nothing but memory stops a run over documents that are coherent, if nothing failed
    pub complete_stop : ((file : Role) → IsSure (load.ReadFault file) → ⊥) → ((what : Target) → IsShort what → ⊥) → IsRepairable IsRead
        → (s : Status) → Stops s → IsOrMemory Status.Done s
    complete_stop reads writes r s h = by s h
      where
        none : (fault : LoadFault) → IsNoRead fault → IsSure fault → ⊥
        none fault n f = law.never_both r.loaded fault r.read n (into fault f)

        by : (s : Status) → Stops s → IsOrMemory Status.Done s
        by (Status.ReadFault file) h = absurd (reads file h)
        by (Status.Syntax side place kind) h = absurd (none (load.Syntax side place kind) tt h)
        by (Status.Profile side place head) h = absurd (none (load.Profile side place head) tt h)
        by (Status.Table fault) h = absurd (none (load.Table fault) tt h)
        by (Status.Limit kind) h = absurd (none (load.Limit kind) tt h)
        by (Status.Incoherent part iri) h = absurd (no_part part iri h r.loaded r.read r.coherent)
        by (Status.WriteFault what) h = absurd (writes what h)
        by Status.OutOfMemory h = inr refl
        by Status.Done h = absurd h
        by Status.Words h = absurd h
