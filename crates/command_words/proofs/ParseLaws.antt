-- What a parse by the command of a program says of the words.
use Rattle.std.proofs.Common.{◌≡◌, ◌≢◌, inl, inr, ◌∙◌, true, List, [], ap, sym, subst, Ok, Err}
use Rattle.std.proofs.lemmas.Bool.{and_parts}
use Rattle.clap.specs.Words.{App, HasMatchesOf, IsAmong, FailsBy, HasKind, Text, fault_of, found_of, is_simple, kind_of, matches_of, rows_of}
use Rattle.clap.specs.Simple.{built}
use Rattle.clap.specs.Faults.{is_free_app, is_simple_and_free}
use Rattle.clap.specs.declared.error.Error.{Error}
use Rattle.clap.specs.declared.error.kind.ErrorKind.TheVariants.{OutOfMemory}
use Rattle.clap.specs.declared.parser.matches.ArgMatches.{ArgMatches}
use Rattle.command_words.specs.declared.types.Program.{Program}
use Rattle.command_words.specs.Inside.Rules.{app}
use Rattle.command_words.proofs.ProgramLaws.{is_plain_command}

module _ (p : Program) (a : App) (words : List Text) (same : a ≡ app p) where
  plain : is_simple_and_free a ≡ true
  plain = ap is_simple_and_free same ∙ is_plain_command p

  -- words that are taken have no fault, and the matches are known
  pub taken : (m : ArgMatches) → HasMatchesOf a words m → (is_simple_and_free a ≡ true → FailsBy {T = ArgMatches} (fault_of a words) (Ok m))
      → (fault_of (app p) words ≡ []) × (rows_of (found_of m) ≡ matches_of (app p) words)
  taken m has fails = (
    ap (λ (x : App). fault_of x words) (sym same) ∙ fails plain,
    (has (and_parts (is_simple a) (is_free_app (built a)) plain).0).0 ∙ ap (λ (x : App). matches_of x words) same,
  )

  -- words that are refused, but not for want of memory, have one
  pub refused : (e : Error) → (is_simple_and_free a ≡ true → FailsBy {T = ArgMatches} (fault_of a words) (Err e)) → kind_of e ≢ OutOfMemory → fault_of (app p) words ≢ []
  refused e fails other none = by (fails plain)
    where
      by : HasKind (fault_of a words) e → ⊥
      by (inl memory) = other memory
      by (inr among) = subst (IsAmong (kind_of e)) (ap (λ (x : App). fault_of x words) same ∙ none) among
