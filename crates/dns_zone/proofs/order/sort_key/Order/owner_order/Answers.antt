use Rattle.dns_zone.proofs.Common.{rules}
use Rattle.dns_zone.proofs.SortKeyOrder.{shared_key}
use Rattle.dns_zone.proofs.order.sort_key.Order.owner_order.Goals as goal

pub returns-then-octets : goal.returns-then-octets
returns-then-octets c = search (rules, shared_key)
