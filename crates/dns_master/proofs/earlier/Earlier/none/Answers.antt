use Rattle.dns_master.proofs.TakeSteps.{no_data-kept}
use Rattle.dns_master.proofs.earlier.Earlier.none.Goals as goal

pub invariant_of-none : goal.invariant_of-none
invariant_of-none c = rw (c.root.ensures, c.empty.ensures) no_data-kept
