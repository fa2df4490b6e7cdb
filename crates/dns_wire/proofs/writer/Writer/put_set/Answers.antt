use Rattle.dns_wire.proofs.Common.{ℕ, ◌<◌, ◌↔◌, IsFalse, subst, Sharing, with_set}
use Rattle.dns_wire.proofs.writer.Writer.put_set.Goals as goal

pub returns-clause-least : goal.returns-clause-least
returns-clause-least g c = λ q items h small.
    subst (λ n. IsFalse c.put_set.result ↔ ((z : ℕ) → Sharing q (with_set items c.args.section
    n c.args.ttl (g.S.SetView.set c.args.set.now)) z → c.args.self.now.builder.limit < z))
    c.borrowed.ensures.value (c.put_set.ensures.least q items h small)
