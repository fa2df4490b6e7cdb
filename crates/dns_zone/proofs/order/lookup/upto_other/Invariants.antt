use Rattle.dns_zone.proofs.Common.{◌-◌, ◌<◌, length}
use Rattle.dns_zone.proofs.order.lookup.upto_other.Given as goal

abbrev pub invariant-doubled : goal.invariant-doubled
invariant-doubled l = 0 < l.most

abbrev pub decreases-doubled : goal.decreases-doubled
decreases-doubled l = length l.records - l.most
