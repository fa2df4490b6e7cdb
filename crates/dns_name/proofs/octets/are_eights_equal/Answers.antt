use Rattle.dns_name.proofs.Common.{arith, from_le_bytes, w64}
use Rattle.dns_name.proofs.OctetRuns.{ends_tell, eight_tell}
use Rattle.dns_name.proofs.octets.are_eights_equal.Goals as goal

pub returns-then-first_eight : goal.returns-then-first_eight
returns-then-first_eight c =
    ends_tell 8 (from_le_bytes w64) eight_tell _ _ _ _ c.requires.same c.requires.least
    (omega (arith, c.requires.most)) (λ i. let f = c.type_inv.left i in omega arith)
    (λ i. let f = c.type_inv.right i in omega arith) c.split_at.ensures.back
    c.split_at-2.ensures.back c.first_eight.ensures c.first_eight-2.ensures c.if-first_eight.true
    c.first_eight-then-first_eight.ensures c.first_eight-then-first_eight-2.ensures
