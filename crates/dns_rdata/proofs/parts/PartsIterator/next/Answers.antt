use Rattle.dns_rdata.proofs.Common.{arith, false≢true}
use Rattle.dns_rdata.proofs.PartLemmas.{cut_none, more_are_cut, no_parts_left, shown_first}
use Rattle.dns_rdata.proofs.parts.PartsIterator.next.Goals as goal

pub returns-in_err-field-clause-steps : goal.returns-in_err-field-clause-steps
returns-in_err-field-clause-steps c = grind (arith, no_parts_left)

pub returns-in_err-part-clause-steps : goal.returns-in_err-part-clause-steps
returns-in_err-part-clause-steps c = grind (arith, cut_none, false≢true)

pub invariant_of-self : goal.invariant_of-self
invariant_of-self c = grind (arith, more_are_cut)

pub returns-clause-steps : goal.returns-clause-steps
returns-clause-steps c = grind (arith, shown_first)

pub returns-clause-goes : goal.returns-clause-goes
returns-clause-goes c = grind (arith, shown_first)
