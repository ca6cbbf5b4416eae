use Rattle.std.proofs.Common.{◌≡◌, map}
use Rattle.clap.specs.Words.{app_of}
use Rattle.command_words.specs.declared.types.WordsFault.TheVariants.{Usage}
use Rattle.command_words.proofs.ParseLaws.{refused, taken}
use Rattle.command_words.proofs.reading.matches_of.Goals as goal

pub returns-in-Ok-try_get_matches_from-clause-ok : goal.returns-in-Ok-try_get_matches_from-clause-ok
returns-in-Ok-try_get_matches_from-clause-ok c =
    taken c.args.program (app_of c.in-Ok.command) (map (λ word. word.now) c.args.words.now) c.in-Ok.ensures
    c.in-Ok-try_get_matches_from.matches c.in-Ok-try_get_matches_from.ensures.matches c.in-Ok-try_get_matches_from.ensures.kinds

pub returns-in-Err-clause-err : goal.returns-in-Err-clause-err
returns-in-Err-clause-err c = λ e.
    let same : c.fault_of.result ≡ Usage = cc in
    refused c.args.program (app_of c.in-Ok.command) (map (λ word. word.now) c.args.words.now) c.in-Ok.ensures
    c.in-Err.error c.in-Err.ensures.kinds (c.fault_of.ensures same)
