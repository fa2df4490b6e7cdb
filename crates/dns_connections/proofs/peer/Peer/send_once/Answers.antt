use Rattle.std.proofs.Math.Logic.{∥∥₁_map}
use Rattle.dns_connections.proofs.Serving.{sent}
use Rattle.dns_connections.proofs.peer.Peer.send_once.Goals as goal

pub invariant_of-self-2-clause-serves : goal.invariant_of-self-2-clause-serves
invariant_of-self-2-clause-serves g c = ∥∥₁_map c.args.self.now.serves
    (sent _ _ _ _ _ _ _ _ _ c.note_sent.ensures.unsent c.note_sent.ensures.frame
    c.note_sent.ensures.left c.unsent.ensures c.in_ok-count.ensures.sent)
