-- What the arguments ask for, and what is known if memory ran out.
use Rattle.std.proofs.Common.{◌≡◌, List, ℕ, inl, inr, refl, sym, ◌∙◌, subst}
use Rattle.std.specs.Prelude.{Some}
use Rattle.text_names.specs.declared.limits.Limits.{Limits}
use Rattle.command_words.specs.Words.{Given, Reads, nothing_given}
use Rattle.command_words.specs.Commands.{IsRepair, repair_of}
use Rattle.command_words.specs.declared.types.Program.{Program}
use Rattle.command_words.specs.declared.types.RepairWords.{RepairWords}
use Rattle.command_words.specs.declared.types.RepairWords.TheVariants as repair
use Rattle.command_words.specs.declared.types.WordsFault.{WordsFault}
use Rattle.command_words.specs.declared.types.WordsFault.TheVariants as words
use Rattle.status_lines.specs.declared.status.Status.{Status}
use Rattle.status_lines.specs.Runs.{Run, IsUntouched}
use Rattle.repair_run.specs.Run.{IsOrMemory}
use Rattle.repair_run.specs.Commands.{IsRunOf, request_of}
use Rattle.repair_run.specs.Inside.Stops.{answer_to}
use Rattle.repair_run.proofs.FaultLaws.{OneAnswer}
use Rattle.repair_run.proofs.FoundLaws.{MoreStay}
use Rattle.repair_run.proofs.AnswerLaws.{stopped_run}
use Rattle.repair_run.proofs.MadeLaws.{made_stopped}

-- what is known of words: they have one reading
abbrev pub OneReading : Type 0
OneReading = (program : Program) (words : List (List ℕ)) (first second : Given) → Reads program nothing_given words first
    → Reads program nothing_given words second → first ≡ second

-- so they are one command
pub one_command : OneReading → (words : List (List ℕ)) (one other : RepairWords) → IsRepair words one → IsRepair words other → one ≡ other
one_command law words one other h k =
    let same = law _ words h.given k.given h.reads k.reads in
    let again : repair_of k.given.options.made k.given ≡ Some one = subst (λ (g : Given). repair_of g.options.made g ≡ Some one) same h.asks in
    let both : Some one ≡ Some other = sym again ∙ k.asks in cc

-- words that are answered by the usage are no command
pub is_usage : (f : WordsFault) (s : Status) → IsOrMemory (answer_to f) s → s ≡ Status.Words → f ≡ words.Usage
is_usage words.Usage s m is = refl
is_usage words.OutOfMemory s (inl e) is = let both : Status.OutOfMemory ≡ Status.Words = sym e ∙ is in absurd cc
is_usage words.OutOfMemory s (inr e) is = let both : Status.OutOfMemory ≡ Status.Words = sym e ∙ is in absurd cc

module _ (laws : OneAnswer) (more : MoreStay) (run : Run) (untouched : IsUntouched run) (limits : Limits) where
  -- what is known of a run whose memory ran out before anything was read
  memory_run : (command : RepairWords) → IsRunOf run command limits Status.OutOfMemory
  memory_run (repair.Files el_part workers names) = stopped_run laws more run (request_of el_part names) limits Status.OutOfMemory tt (inl untouched)
  memory_run (repair.Made size workers) = made_stopped laws more run size limits untouched Status.OutOfMemory tt

  -- a command that words are is run, or memory ran out
  pub unread_run : (given : List (List ℕ)) (f : WordsFault) (s : Status) → (f ≡ words.Usage → (command : RepairWords) → ¬ (IsRepair given command))
      → IsOrMemory (answer_to f) s → (command : RepairWords) → IsRepair given command → IsRunOf run command limits s
  unread_run given words.Usage s usage m command is = absurd (usage refl command is)
  unread_run given words.OutOfMemory s usage (inl e) command is = subst (IsRunOf run command limits) (sym e) (memory_run command)
  unread_run given words.OutOfMemory s usage (inr e) command is = subst (IsRunOf run command limits) (sym e) (memory_run command)
