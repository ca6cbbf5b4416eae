use Rattle.std.proofs.Common.{◌≡◌, Err, ap, map}
use Rattle.command_words.specs.declared.types.WordsFault.TheVariants.{Usage}
use Rattle.clap.specs.Words.{found_of}
use Rattle.command_words.proofs.FoundLaws.{fault_unread, found_read, unnumbered_unread}
use Rattle.command_words.proofs.reading.read_given.Goals as goal

pub returns-in-Err-clause-err : goal.returns-in-Err-clause-err
returns-in-Err-clause-err c = λ e given.
    let same : c.in-Err.fault ≡ Usage = cc in
    fault_unread c.args.program (map (λ word. word.now) c.args.words.now) c.requires (c.in-Err.ensures.err (ap (λ fault. Err fault) same)) given

pub returns-in-Err-options_in-clause-err : goal.returns-in-Err-options_in-clause-err
returns-in-Err-options_in-clause-err c = λ e given.
    let same : c.in-Err-options_in.fault ≡ Usage = cc in
    unnumbered_unread c.args.program (map (λ word. word.now) c.args.words.now) c.requires (found_of c.in-Ok.matches) c.in-Ok.ensures.ok.1
    (c.in-Err-options_in.ensures.err (ap (λ fault. Err fault) same)) given

pub returns-clause-ok : goal.returns-clause-ok
returns-clause-ok c =
    found_read c.args.program (map (λ word. word.now) c.args.words.now) c.requires (found_of c.in-Ok.matches) c.in-Ok.ensures.ok.1
    c.in-Ok-options_in.options (map (λ name. name.now) c.in-Ok-names_in.names.items) c.in-Ok.ensures.ok.0 c.in-Ok-options_in.ensures.ok c.in-Ok-names_in.ensures
