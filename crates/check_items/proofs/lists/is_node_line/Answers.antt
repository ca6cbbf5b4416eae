use Rattle.std.proofs.Common.{◌≡◌, ◌↔◌, IsTrue, rules}
use Rattle.check_items.proofs.LineLaws.{class_line}
use Rattle.check_items.proofs.lists.is_node_line.Goals as goal

pub returns-in-Class-Class : goal.returns-in-Class-Class
returns-in-Class-Class c =
    let decides : IsTrue c.eq.result ↔ (c.at.result.now ≡ c.in-Class-Class.iri) = search rules in
    class_line c.args.classes.now.names c.args.node c.args.line.now c.in-Class-Class.class c.in-Class-Class.iri c.at.result.now c.eq.result
    c.in-Class-Class.is-0 c.in-Class-Class.is-1 c.at.ensures.name decides
