use Rattle.ofn_term.proofs.Partners.{unclosed_has_no_partner, earlier_have_partners}
use Rattle.ofn_term.proofs.laws.unclosed_is_the_first_without_a_partner.Goals as goal

pub returns-clause-none : goal.returns-clause-none
returns-clause-none c = unclosed_has_no_partner

pub returns-clause-earlier : goal.returns-clause-earlier
returns-clause-earlier c = earlier_have_partners
