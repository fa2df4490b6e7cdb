use Rattle.dns_tools.proofs.Common.{refl, Writes-same}
use Rattle.dns_tools.proofs.report.write_serving.Goals as goal

pub returns : goal.returns
returns g c =
    Writes-same
    (rw (c.as_slice.ensures, c.origin.ensures.origin, c.from.ensures, c.serial.ensures) refl)
    c.write_parts.ensures
