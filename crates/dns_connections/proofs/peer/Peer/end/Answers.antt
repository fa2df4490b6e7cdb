use Rattle.dns_connections.proofs.Serving.{served}
use Rattle.dns_connections.proofs.peer.Peer.end.Goals as goal

pub returns : goal.returns
returns g c = served _ _ _ _ _ c.args.self.serves
