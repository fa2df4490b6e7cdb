use Rattle.std.proofs.Math.Logic.{∥∥₁_map}
use Rattle.dns_spec.proofs.Common.{ap}
use Rattle.dns_connections.proofs.Closing.{one_ended}
use Rattle.dns_connections.proofs.connections.Connections.close.Goals as goal

pub invariant_of-self-clause-served : goal.invariant_of-self-clause-served
invariant_of-self-clause-served g c = ∥∥₁_map c.args.self.now.served
    (one_ended _ _ _ _ _ _ (ap (λ s. s.closed) c.close.ensures) c.end.ensures)
