use Rattle.std.proofs.Common.{◌∙◌, sym, ap, [], ◌∷◌, ◌++◌, length, arith}
use Rattle.text_names.specs.Names.{number_of}
use Rattle.text_names.specs.Inside.NameKeys.{key_behind}
use Rattle.text_names.proofs.NameLaws.{grown, values_grown, kept_push}
use Rattle.text_names.proofs.names.NameTable.add.Goals as goal

pub returns-clause-ok : goal.returns-clause-ok
returns-clause-ok c =
    let names = c.self.inside.names in
    let name = c.args.name.now in
    let key = c.requires.key ∙ ap (λ t. key_behind t.names name) (sym c.self.view_is) in
    let more = grown names c.insert.new.self c.args.key c.in_ok-text.text name c.self.invariant.keyed c.in_ok-insert.ensures.entries (c.in_ok-text.ensures ∙ c.utf8_str.ensures) key in
    values_grown names.entries c.insert.new.self.entries c.args.key name more ∙ ap (λ t. t.names ++ name ∷ []) c.self.view_is

pub invariant_of-self-2 : goal.invariant_of-self-2
invariant_of-self-2 c =
    let names = c.self.inside.names in
    let name = c.args.name.now in
    let key = c.requires.key ∙ ap (λ t. key_behind t.names name) (sym c.self.view_is) in
    let more = grown names c.insert.new.self c.args.key c.in_ok-text.text name c.self.invariant.keyed c.in_ok-insert.ensures.entries (c.in_ok-text.ensures ∙ c.utf8_str.ensures) key in
    let absent = ap (λ t. number_of t.names name) c.self.view_is ∙ c.requires.new in
    let count = ap (λ t. length t.names) c.self.view_is in
    let most = ap (λ t. t.most) c.self.view_is in
    kept_push names.entries c.insert.new.self.entries c.args.key c.self.inside.most name c.self.invariant more key absent (omega (arith, count, most, c.requires.room))
