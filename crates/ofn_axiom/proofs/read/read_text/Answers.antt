use Rattle.std.proofs.Common.{◌≡◌, ◌≤◌, length, sym, subst, arith}
use Rattle.ofn_term.specs.Writing.{tokens_of}
use Rattle.ofn_axiom.proofs.SizeLaws.{document_size}
use Rattle.std.specs.Prelude.{Err}
use Rattle.byte_words.specs.Faults.{OrOutOfMemory}
use Rattle.ofn_axiom.specs.declared.fault.DocFault.{DocFault}
use Rattle.ofn_axiom.specs.Documents.{IsDocFault, doc_ran_out, document_of, empty}
use Rattle.ofn_axiom.proofs.ReadLaws.{term_fault_here, said_fault_here}
use Rattle.ofn_axiom.proofs.PlainLaws.{answer_plain}
use Rattle.ofn_axiom.proofs.read.read_text.Goals as goal

pub returns-in-Err-clause-fault : goal.returns-in-Err-clause-fault
returns-in-Err-clause-fault c =
    subst (λ (f : DocFault). OrOutOfMemory doc_ran_out (IsDocFault c.args.text.now c.args.mode c.args.depth c.args.names.now) f) (sym c.term_placed.ensures)
    (term_fault_here c.args.text.now c.args.mode c.args.depth c.args.names.now c.in-Err.fault c.requires.utf8 c.in-Err.ensures.fault)

pub returns-clause-fault : goal.returns-clause-fault
returns-clause-fault c =
    let read : document_of c.args.text.now c.args.mode c.as_slice.result.now (empty, c.args.names.now) ≡ Err c.in-Err-Fault.fault = rw c.in-Err-Fault.field-0-is at c.in-Err-Fault.ensures.err in
    let has = c.in-Ok.ensures.items in
    subst (λ (f : DocFault). OrOutOfMemory doc_ran_out (IsDocFault c.args.text.now c.args.mode c.args.depth c.args.names.now) f) (sym c.placed.ensures)
    (said_fault_here c.args.text.now c.args.mode c.args.depth c.args.names.now c.as_slice.result.now c.in-Err-Fault.fault c.requires.utf8 (rw c.as_slice.ensures has) read)

pub returns-clause-profile : goal.returns-clause-profile
returns-clause-profile c = λ same. answer_plain c.args.text.now c.args.mode c.args.depth c.args.names.now (Err c.placed.result) same (returns-clause-fault c)

pub returns-in-Ok-document_of-clause-few : goal.returns-in-Ok-document_of-clause-few
returns-in-Ok-document_of-clause-few c =
    let written = c.items_are_written_out.ensures in
    let small = document_size written.group written.few c.args.text.now c.args.mode c.as_slice.result.now _ _ c.in-Ok-document_of.document c.in-Ok-document_of.ensures.ok in
    let few : length (tokens_of c.as_slice.result.now) ≤ length c.args.text.now = rw c.as_slice.ensures c.in-Ok.ensures.few in
    omega (arith, small, few)
