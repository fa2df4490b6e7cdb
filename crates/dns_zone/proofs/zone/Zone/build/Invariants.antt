use Rattle.dns_zone.proofs.Common.{◌≡◌, take}
use Rattle.dns_zone.proofs.zone.Zone.build.Given as goal

-- the store has the records so far
abbrev pub invariant-records : goal.invariant-records
invariant-records l = l.store ≡ take l.read-index l.fn.records.items
