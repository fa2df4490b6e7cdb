use Rattle.dns_zone.proofs.Common.{rules}
use Rattle.dns_zone.proofs.BuiltZone.{serial_is}
use Rattle.dns_zone.proofs.checked.CheckedZone.serial.Goals as goal

pub returns : goal.returns
returns c = search (rules, serial_is)
