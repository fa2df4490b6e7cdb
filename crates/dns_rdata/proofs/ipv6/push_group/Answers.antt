use Rattle.dns_rdata.proofs.Common.{arith}
use Rattle.dns_rdata.proofs.Ipv6Lemmas.{GroupSoFar-small, GroupSoFar-push}
use Rattle.dns_rdata.proofs.ipv6.push_group.Goals as goal

pub overflow_mul-group : goal.overflow_mul-group
overflow_mul-group c = grind (arith, GroupSoFar-small)

pub overflow_add-group : goal.overflow_add-group
overflow_add-group c =
    let small = GroupSoFar-small _ _ _ c.digits.invariant c.digits-test.true c.if-text-gt4.false in
    omega (arith, small, c.from.ensures, c.in-Some.ensures.bound)

pub digits-preserved : goal.digits-preserved
digits-preserved c =
    rw c.from.ensures (GroupSoFar-push _
    _ _ _ c.digits.invariant c.digits-test.true c.in-Some.ensures.value c.in-Some.ensures.bound)
