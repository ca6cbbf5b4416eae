use Rattle.std.proofs.Common.{◌≡◌, ◌∙◌, ap, List, ℕ, [], ◌∷◌, ◌++◌, None}
use Rattle.std.specs.String.{string_bytes, string_eq}
use Rattle.indexmap.specs.IndexMap.{get}
use Rattle.indexmap.proofs.CallerLemmas.{insert_entry-new}
use Rattle.text_names.proofs.PrefixLaws.{found_by_bytes, by_bytes_push, iri_added}
use Rattle.text_names.proofs.prefixes.PrefixMap.add.Goals as goal

pub returns-clause-ok : goal.returns-clause-ok
returns-clause-ok c =
    let iris = c.self.inside.iris in
    let key = c.in_ok-prefix.prefix in
    let same = c.in_ok-prefix.ensures.ok ∙ c.utf8_str.ensures in
    let new : get string_eq iris key ≡ None = found_by_bytes iris.entries c.args.self.now (string_bytes key) c.args.prefix.now same c.self.view_is ∙ c.requires.new in
    by_bytes_push string_bytes iris.entries c.insert.new.self.entries key c.in_ok-iri.iri c.args.iri.now c.args.prefix.now (c.in_ok-insert.ensures.entries ∙ insert_entry-new string_eq iris key c.in_ok-iri.iri new) same (c.in_ok-iri.ensures ∙ c.utf8_str-2.ensures)
    ∙ ap (λ (l : List (List ℕ × List ℕ)). l ++ (c.args.prefix.now, c.args.iri.now) ∷ []) c.self.view_is

pub returns-clause-held : goal.returns-clause-held
returns-clause-held c = iri_added c.args.self.now _ c.args.prefix.now c.args.iri.now c.requires.new (returns-clause-ok c)
