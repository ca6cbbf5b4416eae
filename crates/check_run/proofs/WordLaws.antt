-- What words ask for, and what is known if memory ran out.
use Rattle.std.proofs.Common.{◌≡◌, List, ℕ, inr, refl, sym, ◌∙◌, subst}
use Rattle.std.specs.Prelude.{Option, Some, None, IfSome}
use Rattle.text_names.specs.declared.limits.Limits.{Limits}
use Rattle.io_edge.specs.Outside.{Files}
use Rattle.command_words.specs.Words.{Given, Reads, nothing_given}
use Rattle.command_words.specs.Commands.{IsCheck, check_of}
use Rattle.command_words.specs.declared.types.Program.{Program}
use Rattle.command_words.specs.declared.types.CheckWords.{CheckWords}
use Rattle.command_words.specs.declared.types.WordsFault.{WordsFault}
use Rattle.command_words.specs.declared.types.WordsFault.TheVariants as fault
use Rattle.status_lines.specs.Runs.{Run}
use Rattle.check_run.specs.declared.status.CheckStatus.{CheckStatus}
use Rattle.check_run.specs.declared.status.CheckStatus.TheVariants as answer
use Rattle.check_run.specs.Check.{IsChecked}
use Rattle.check_run.specs.Inside.Stages.{IsCause}

-- what is known of words: they have one reading
abbrev pub OneReading : Type 0
OneReading = (program : Program) (words : List (List ℕ)) (first second : Given) → Reads program nothing_given words first
    → Reads program nothing_given words second → first ≡ second

-- so they are one command
pub one_command : OneReading → (words : List (List ℕ)) (one other : CheckWords) → IsCheck words one → IsCheck words other → one ≡ other
one_command law words one other h k =
    let same = law _ words h.given k.given h.reads k.reads in
    let again : check_of k.given.options.refused k.given ≡ Some one = subst (λ (g : Given). check_of g.options.refused g ≡ Some one) same h.asks in
    let both : Some one ≡ Some other = sym again ∙ k.asks in cc

-- words that are answered by the usage are no command
pub is_usage : (f : WordsFault) (s : CheckStatus) → (f ≡ fault.OutOfMemory → s ≡ answer.OutOfMemory) → s ≡ answer.Words → f ≡ fault.Usage
is_usage fault.Usage s memory is = refl
is_usage fault.OutOfMemory s memory is = let both : answer.OutOfMemory ≡ answer.Words = sym (memory refl) ∙ is in absurd cc

-- what is known if the files are told
told : (o : Option Files) (P : Files → Type 0) → ((files : Files) → P files) → IfSome o P
told None P h = tt
told (Some files) P h = h files

-- what is known of a check whose memory ran out
pub memory_checked : (run : Run) (command : CheckWords) (limits : Limits) → IsChecked run command limits answer.OutOfMemory
memory_checked run command limits = record {
  yes = λ same. subst (IsCause run command limits) same tt;
  yes_answer = told run.folder.files _ (λ f none c v. inr refl);
  no = λ item same. subst (IsCause run command limits) same tt;
  no_answer = told run.folder.files _ (λ f none c item b. inr refl);
  complete = told run.folder.files _ (λ f none c. inr (inr refl));
  words = λ same. subst (IsCause run command limits) same tt;
  read_fault = λ file same. subst (IsCause run command limits) same tt;
  syntax = λ side place kind same. subst (IsCause run command limits) same tt;
  syntax_answer = λ side place kind. told run.folder.files _ (λ f g. inr (inr refl));
  profile = λ side place head same. subst (IsCause run command limits) same tt;
  profile_answer = λ side place head. told run.folder.files _ (λ f g. inr (inr refl));
  table = λ fault same. subst (IsCause run command limits) same tt;
  table_answer = λ fault. told run.folder.files _ (λ f g. inr (inr refl));
  limit = λ kind same. subst (IsCause run command limits) same tt;
  limit_answer = λ kind. told run.folder.files _ (λ f g. inr (inr refl));
  write_fault = λ what same. subst (IsCause run command limits) same tt;
}

-- a command that words are is checked by, or memory ran out
pub checked_words : (run : Run) (words : List (List ℕ)) (limits : Limits) (f : WordsFault) (s : CheckStatus)
    → (f ≡ fault.Usage → (command : CheckWords) → ¬ (IsCheck words command)) → (f ≡ fault.OutOfMemory → s ≡ answer.OutOfMemory)
    → (command : CheckWords) → IsCheck words command → IsChecked run command limits s
checked_words run words limits fault.Usage s usage memory command is = absurd (usage refl command is)
checked_words run words limits fault.OutOfMemory s usage memory command is =
    subst (IsChecked run command limits) (sym (memory refl)) (memory_checked run command limits)
