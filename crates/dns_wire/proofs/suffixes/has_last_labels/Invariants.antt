use Rattle.dns_wire.proofs.Common.{length}
use Rattle.dns_wire.proofs.AskedLemmas.{Last}
use Rattle.dns_wire.proofs.suffixes.has_last_labels.Given as goal

abbrev pub invariant-labels : goal.invariant-labels
invariant-labels l = Last l.name l.rest (length l.suffix)

abbrev pub decreases-labels : goal.decreases-labels
decreases-labels l = length l.rest
