use Rattle.dns_name.proofs.Common.{arith, from_le_bytes, w16, w32}
use Rattle.dns_name.proofs.OctetRuns.{ends_tell, four_tell, two_tell}
use Rattle.dns_name.proofs.octets.are_others_equal.Goals as goal

pub returns-then-first_four : goal.returns-then-first_four
returns-then-first_four c =
    ends_tell 4
    (from_le_bytes w32) four_tell _ _ _ _ c.requires.same (omega (arith, c.if-count-gt3.true))
    (omega (arith, c.if-count-gt7.false)) (λ i. let f = c.type_inv.left i in omega arith)
    (λ i. let f = c.type_inv.right i in omega arith)
    c.split_at.ensures.back c.split_at-then-count-gt3.ensures.back c.first_four.ensures
    c.first_four-then-count-gt3.ensures c.if-first_four.true
    c.first_four-then-first_four.ensures c.first_four-then-first_four-2.ensures

pub returns-then-first_two : goal.returns-then-first_two
returns-then-first_two c =
    ends_tell 2
    (from_le_bytes w16) two_tell _ _ _ _ c.requires.same (omega (arith, c.if-count-gt1.true))
    (omega (arith, c.if-count-gt3.false)) (λ i. let f = c.type_inv.left i in omega arith)
    (λ i. let f = c.type_inv.right i in omega arith) c.split_at-then-count-gt1.ensures.back
    c.split_at-then-count-gt1-2.ensures.back c.first_two.ensures
    c.first_two-then-count-gt1.ensures
    c.if-first_two.true c.first_two-then-first_two.ensures c.first_two-then-first_two-2.ensures
