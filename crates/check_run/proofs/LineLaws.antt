-- What putting a line leaves.
use Rattle.std.proofs.Common.{◌≡◌, ◌⊎◌, ◌++◌, ℕ, List, inl, inr, refl, sym, subst, ⊎_elim}
use Rattle.std.specs.Prelude.{Option, Some, None, IfSome}
use Rattle.io_edge.specs.Outside.{HasGotFront, PutsRose, Rose, SinkSeen}
use Rattle.io_edge.specs.declared.outside.Target.TheVariants as target
use Rattle.case_load.specs.declared.fault.LoadFault.{LoadFault}
use Rattle.case_load.specs.declared.fault.LoadFault.TheVariants as load
use Rattle.check_items.specs.declared.item.BadItem.{BadItem}
use Rattle.status_lines.specs.declared.speaker.Speaker.TheVariants as speaker
use Rattle.status_lines.specs.Lines.{load_line}
use Rattle.check_run.specs.declared.status.CheckStatus.{CheckStatus}
use Rattle.check_run.specs.declared.status.CheckStatus.TheVariants as answer
use Rattle.check_run.specs.Check.{AnswerStands, IsOrMemory}
use Rattle.check_run.specs.Inside.Stages.{IsTold}
use Rattle.check_run.specs.Lines.{check_status_of, verdict_status}

-- the line of a fault, whole
whole : (got : Option (List ℕ)) (faults : ℕ) (new : SinkSeen) (fault : LoadFault) → IfSome got (λ bytes. new.got ≡ Some (bytes ++ load_line speaker.Alodcheck fault))
    → AnswerStands (record { got = got; faults = faults }) new (check_status_of fault)
whole None faults new load.OutOfMemory h = tt
whole None faults new (load.ReadFault file) h = tt
whole None faults new (load.Syntax side place kind) h = tt
whole None faults new (load.Profile side place head) h = tt
whole None faults new (load.Table fault) h = tt
whole None faults new (load.Limit kind) h = tt
whole (Some got) faults new load.OutOfMemory h = (25, h)
whole (Some got) faults new (load.ReadFault file) h = inl h
whole (Some got) faults new (load.Syntax side place kind) h = inl h
whole (Some got) faults new (load.Profile side place head) h = inl h
whole (Some got) faults new (load.Table fault) h = inl h
whole (Some got) faults new (load.Limit kind) h = inl h

pub fault_line_whole : (old new : SinkSeen) (fault : LoadFault) → IfSome old.got (λ got. new.got ≡ Some (got ++ load_line speaker.Alodcheck fault))
    → AnswerStands old new (check_status_of fault)
fault_line_whole old new fault h = whole old.got old.faults new fault h

-- the line of a fault, after the first bytes of which the output failed
failed : (got : Option (List ℕ)) (faults : ℕ) (new : SinkSeen) (fault : LoadFault) → Rose faults new.faults
    → IfSome got (λ bytes. HasGotFront bytes new.got (load_line speaker.Alodcheck fault)) → AnswerStands (record { got = got; faults = faults }) new (check_status_of fault)
failed None faults new load.OutOfMemory r h = tt
failed None faults new (load.ReadFault file) r h = tt
failed None faults new (load.Syntax side place kind) r h = tt
failed None faults new (load.Profile side place head) r h = tt
failed None faults new (load.Table fault) r h = tt
failed None faults new (load.Limit kind) r h = tt
failed (Some got) faults new load.OutOfMemory r h = h
failed (Some got) faults new (load.ReadFault file) r h = inr (r, h)
failed (Some got) faults new (load.Syntax side place kind) r h = inr (r, h)
failed (Some got) faults new (load.Profile side place head) r h = inr (r, h)
failed (Some got) faults new (load.Table fault) r h = inr (r, h)
failed (Some got) faults new (load.Limit kind) r h = inr (r, h)

pub fault_line_failed : (old new : SinkSeen) (fault : LoadFault)
    → PutsRose old new × IfSome old.got (λ got. HasGotFront got new.got (load_line speaker.Alodcheck fault)) → AnswerStands old new (check_status_of fault)
fault_line_failed old new fault h = failed old.got old.faults new fault h.0 h.1

-- a verdict whose line was put
pub told_whole : (old new : SinkSeen) (verdict : Option BadItem) (line : List ℕ) → IfSome old.got (λ got. new.got ≡ Some (got ++ line))
    → IsTold old new verdict line (verdict_status verdict)
told_whole old new None line h = (refl, h)
told_whole old new (Some item) line h = (refl, h)

-- a verdict in the place of which memory ran out
pub told_memory : (old mid new : SinkSeen) (verdict : Option BadItem) (line : List ℕ) (s : CheckStatus) → mid.got ≡ old.got
    → IsOrMemory answer.OutOfMemory s → AnswerStands mid new s → IsTold old new verdict line s
told_memory old mid new verdict line s same is stands =
    let e : s ≡ answer.OutOfMemory = ⊎_elim (λ (f : s ≡ answer.OutOfMemory). f) (λ (f : s ≡ answer.OutOfMemory). f) is in
    let put = subst (AnswerStands mid new) e stands in
    subst (IsTold old new verdict line) (sym e)
    (subst (λ (g : Option (List ℕ)). AnswerStands (record mid { got = g }) new answer.OutOfMemory) same put)

-- how the output stands after a verdict
pub told_stands : (old new : SinkSeen) (verdict : Option BadItem) (line : List ℕ) (s : CheckStatus) → IsTold old new verdict line s → AnswerStands old new s
told_stands old new verdict line answer.Yes h = tt
told_stands old new verdict line (answer.No item) h = tt
told_stands old new verdict line (answer.WriteFault target.Output) h = tt
told_stands old new verdict line (answer.WriteFault target.Out) h = absurd h
told_stands old new verdict line (answer.WriteFault target.Evidence) h = absurd h
told_stands old new verdict line answer.OutOfMemory h = h
told_stands old new verdict line _ h = absurd h
