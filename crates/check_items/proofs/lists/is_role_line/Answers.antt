use Rattle.std.proofs.Common.{◌≡◌, ◌↔◌, IsTrue, rules}
use Rattle.check_items.proofs.LineLaws.{property_line}
use Rattle.check_items.proofs.lists.is_role_line.Goals as goal

pub returns-in-Named-Property : goal.returns-in-Named-Property
returns-in-Named-Property c =
    let decides : IsTrue c.eq.result ↔ (c.at.result.now ≡ c.in-Named-Property.iri) = search rules in
    property_line c.args.properties.now.names c.args.role c.args.line.now c.in-Named-Property.property c.in-Named-Property.iri c.at.result.now c.eq.result
    c.in-Named-Property.is-0 c.in-Named-Property.is-1 c.at.ensures.name decides
