use Rattle.std.proofs.Common.{sym, ap, subst}
use Rattle.concept_store.specs.Order.{AreInOrder}
use Rattle.concept_store.specs.Roles.{Numbered}
use Rattle.case_file.specs.Cases.{CaseView}
use Rattle.saturate.proofs.RoleLaws.{links_within}
use Rattle.saturate.proofs.laws.links_are_by_roles.Goals as goal

pub returns : goal.returns
returns c case part ranks items is follows =
    links_within case is (subst (λ (s : Numbered). AreInOrder case.classes case.properties s.nodes) (sym (ap (λ (v : CaseView). v.store) is.built))
    (c.nodes_stand_in_order.ensures case.classes case.properties case.left case.right is.given.left is.given.right))
    (c.stores_have_a_role_for_each_part.ensures case.properties case.left case.right)
    part ranks items (c.facts_stand_where_their_items_do.ensures items) follows
