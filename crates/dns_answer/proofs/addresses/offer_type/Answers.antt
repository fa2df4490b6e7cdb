use Rattle.dns_answer.proofs.Common.{sym, additional}
use Rattle.dns_answer.proofs.Offering.{Offers-empty}
use Rattle.dns_answer.proofs.TargetLaws.{item-none}
use Rattle.dns_answer.proofs.addresses.offer_type.Goals as goal

pub returns-in_default : goal.returns-in_default
returns-in_default g c = Offers-empty _ (item-none additional _ (sym c.in_default.ensures.set))
