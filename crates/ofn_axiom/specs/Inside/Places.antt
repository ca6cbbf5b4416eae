-- Faults of tokens and brackets, with their places.
use Rattle.std.specs.Prelude.{ℕ, List}
use Rattle.ofn_term.specs.declared.fault.TermFault.{TermFault}
use Rattle.ofn_term.specs.declared.fault.TermFault.TheVariants as term
use Rattle.ofn_axiom.specs.declared.fault.DocFault.{DocFault}
use Rattle.ofn_axiom.specs.declared.fault.DocFault.TheVariants as doc
use Rattle.ofn_axiom.specs.declared.fault.DocKind.TheVariants as kind
use Rattle.ofn_axiom.specs.Documents.{fault_at}

abbrev pub term_placed : List ℕ → TermFault → DocFault
term_placed text (term.Lex offset) = fault_at text kind.NoToken offset
term_placed text (term.Unopened offset) = fault_at text kind.Unopened offset
term_placed text (term.Unclosed offset) = fault_at text kind.Unclosed offset
term_placed text (term.TooDeep offset) = doc.TooDeep
term_placed text term.OutOfMemory = doc.OutOfMemory
