use Rattle.dns_answer.proofs.Common.{arith, sym, ap, length}
use Rattle.dns_answer.proofs.chain.seek_targets.Goals as goal

pub returns-in-Last : goal.returns-in-Last
returns-in-Last g c =
    let last = rw c.as_slice.ensures.value at c.in-Last.ensures in
    c.names.invariant.led _ _ _ last.seeks

pub names-preserved : goal.names-preserved
names-preserved g c =
    let items = c.push-in-Alias.ensures.items in
    let led = c.names.invariant.led in
    let next = rw c.as_slice.ensures.value at c.in-Alias.ensures in
    let completes = rw (sym items) at next.completes in
    record {
      led = λ last end v rest. led last end v (completes last end v rest);
      may = rw (sym items) at next.may;
      few = omega (arith, next.more, ap length items);
    }
