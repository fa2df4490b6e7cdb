use Rattle.dns_zone.proofs.Common.{◌-◌}
use Rattle.dns_zone.proofs.Gathered.{IsGathered, Follows}
use Rattle.dns_zone.proofs.order.sort.gather.Given as goal

abbrev pub invariant-sort_keys : goal.invariant-sort_keys
invariant-sort_keys l =
    IsGathered l.fn.records.items l.records.items l.fn.sort_keys l.sort_keys l.to

abbrev pub invariant-moved : goal.invariant-moved
invariant-moved l = Follows l.sort_keys l.to l.from

abbrev pub decreases-moved : goal.decreases-moved
decreases-moved l = l.to - l.from
