use Rattle.dns_name.proofs.Common.{arith}
use Rattle.dns_name.proofs.WritesLemmas.{Appends-take-add}
use Rattle.dns_name.proofs.tally.Tally.write_all.Goals as goal

pub pieces-preserved : goal.pieces-preserved
pieces-preserved g c = grind (arith, Appends-take-add)
