-- What clauses see of the words that were read.
use Rattle.std.specs.Prelude.{map}
use Rattle.command_words.specs.declared.reading.GivenWords.{GivenWords}
use Rattle.command_words.specs.Words.{Given}

-- the options and the names
abbrev pub seen : GivenWords → Given
seen given = record { options = given.options; names = map (λ name. name.now) given.names.items }
