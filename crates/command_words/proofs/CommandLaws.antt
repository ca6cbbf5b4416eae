-- Words that ask for something are read so, and words that are read ask for it.
use Rattle.std.proofs.Common.{◌≡◌, ◌∙◌, ℕ, List, ap, sym, subst, Some, None}
use Rattle.command_words.specs.declared.types.Program.TheVariants as program
use Rattle.command_words.specs.declared.types.RepairWords.{RepairWords}
use Rattle.command_words.specs.declared.types.CheckWords.{CheckWords}
use Rattle.command_words.specs.Words.{Given, Reads, nothing_given}
use Rattle.command_words.specs.Commands.{IsCheck, IsRepair, check_of, repair_of}
use Rattle.command_words.proofs.ReadingLaws.{one_reading}

module _ (words texts : List (List ℕ)) (same : texts ≡ words) where
  pub repair_stands : (given : Given) (command : RepairWords) → Reads program.Repair nothing_given texts given → repair_of given.options.made given ≡ Some command → IsRepair words command
  repair_stands given command reads asks = record { given = given; reads = subst (λ (ws : List (List ℕ)). Reads program.Repair nothing_given ws given) same reads; asks = asks }

  pub check_stands : (given : Given) (command : CheckWords) → Reads program.Check nothing_given texts given → check_of given.options.refused given ≡ Some command → IsCheck words command
  check_stands given command reads asks = record { given = given; reads = subst (λ (ws : List (List ℕ)). Reads program.Check nothing_given ws given) same reads; asks = asks }

  -- words that are not read are no command
  pub unread_is_no_repair : (command : RepairWords) → ((given : Given) → ¬ (Reads program.Repair nothing_given texts given)) → ¬ (IsRepair words command)
  unread_is_no_repair command unread is = unread is.given (subst (λ (ws : List (List ℕ)). Reads program.Repair nothing_given ws is.given) (sym same) is.reads)

  pub unread_is_no_check : (command : CheckWords) → ((given : Given) → ¬ (Reads program.Check nothing_given texts given)) → ¬ (IsCheck words command)
  unread_is_no_check command unread is = unread is.given (subst (λ (ws : List (List ℕ)). Reads program.Check nothing_given ws is.given) (sym same) is.reads)

  -- nor are words that are read and ask for nothing
  pub unasked_is_no_repair : (given : Given) (command : RepairWords) → Reads program.Repair nothing_given texts given → repair_of given.options.made given ≡ None → ¬ (IsRepair words command)
  unasked_is_no_repair given command reads none is =
      let one = one_reading program.Repair words is.given given is.reads (subst (λ (ws : List (List ℕ)). Reads program.Repair nothing_given ws given) same reads) in
      let bad : Some command ≡ None = sym is.asks ∙ ap (λ (g : Given). repair_of g.options.made g) one ∙ none in cc

  pub unasked_is_no_check : (given : Given) (command : CheckWords) → Reads program.Check nothing_given texts given → check_of given.options.refused given ≡ None → ¬ (IsCheck words command)
  unasked_is_no_check given command reads none is =
      let one = one_reading program.Check words is.given given is.reads (subst (λ (ws : List (List ℕ)). Reads program.Check nothing_given ws given) same reads) in
      let bad : Some command ≡ None = sym is.asks ∙ ap (λ (g : Given). check_of g.options.refused g) one ∙ none in cc
