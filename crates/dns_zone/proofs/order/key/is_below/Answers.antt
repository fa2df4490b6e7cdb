use Rattle.dns_zone.proofs.Common.{rules}
use Rattle.dns_zone.proofs.KeyPrefix.{below_longer, below_shorter}
use Rattle.dns_zone.proofs.order.key.is_below.Goals as goal

pub returns-then-key-other : goal.returns-then-key-other
returns-then-key-other c = search (rules, below_longer)

pub returns-else-key-other : goal.returns-else-key-other
returns-else-key-other c = λ n m p q e f.
    below_shorter n m c.args.key.now c.args.other.now p q e f c.if-key-other.false
