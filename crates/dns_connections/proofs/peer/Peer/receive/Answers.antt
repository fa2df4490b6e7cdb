use Rattle.dns_spec.proofs.Common.{rules, arith, drop_all}
use Rattle.std.proofs.Math.Logic.{∥∥₁_map}
use Rattle.dns_connections.proofs.Serving.{received}
use Rattle.dns_connections.proofs.peer.Peer.receive.Goals as goal

pub invariant_of-self-2-clause-serves : goal.invariant_of-self-2-clause-serves
invariant_of-self-2-clause-serves g c = ∥∥₁_map c.args.self.now.serves
    (received _ _ _ _ _ c.receive.new.buf _ _ c.in_ok-count.count
    (drop_all c.args.self.now.taken c.args.self.now.input.items (omega arith))
    c.requires.unsent (search rules) c.in_ok-count.ensures.received)
