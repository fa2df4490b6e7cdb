use Rattle.dns_zone.proofs.Common.{length}
use Rattle.dns_zone.proofs.order.key.+put_labels.Given as goal

abbrev pub decreases-put_labels : goal.decreases-put_labels
decreases-put_labels l = length l.octets.now
