use Rattle.dns_rdata.proofs.Common.{length}
use Rattle.dns_rdata.proofs.NameFronts.{Alike}
use Rattle.dns_rdata.proofs.parts.after_labels.Given as goal

abbrev pub invariant-labels : goal.invariant-labels
invariant-labels l = Alike l.octets l.rest

abbrev pub decreases-labels : goal.decreases-labels
decreases-labels l = length l.rest
