use Rattle.dns_zone.proofs.Common.{◌≡◌, drop, first_serial}
use Rattle.dns_zone.proofs.BuiltZone.{soas_at}
use Rattle.dns_zone.proofs.checked.serial_at.Given as goal

-- the first SOA is among the remaining records
abbrev pub invariant-records : goal.invariant-records
invariant-records l = first_serial
    (soas_at l.origin (drop l.entry-index l.records)) ≡ first_serial (soas_at l.origin l.records)
