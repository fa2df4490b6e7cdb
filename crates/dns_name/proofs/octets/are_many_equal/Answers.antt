use Rattle.dns_name.proofs.Common.{arith, length-drop}
use Rattle.dns_name.proofs.OctetRuns.{eight_tell, low_end}
use Rattle.dns_spec.proofs.General.Fronts.{same_fronts_ends}
use Rattle.dns_name.proofs.octets.are_many_equal.Goals as goal

pub eights-init : goal.eights-init
eights-init c = grind arith

pub eights-preserved : goal.eights-preserved
eights-preserved c = grind (arith, eight_tell, length-drop, low_end, same_fronts_ends)
