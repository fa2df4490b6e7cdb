use Rattle.dns_name.proofs.Common.{length}
use Rattle.dns_name.proofs.TextLemmas.{Reads}
use Rattle.dns_name.proofs.text.spell_labels.Given as goal

abbrev pub invariant-labels : goal.invariant-labels
invariant-labels l = Reads l.origin l.word l.name l.fits l.rest

abbrev pub decreases-labels : goal.decreases-labels
decreases-labels l = length l.rest
