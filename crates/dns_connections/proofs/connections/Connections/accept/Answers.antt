use Rattle.dns_spec.proofs.Common.{arith, ap, ◌∙◌, ◌++◌}
use Rattle.std.specs.Option.{option_to_list}
use Rattle.std.proofs.Math.Logic.{∥∥₁_map}
use Rattle.dns_connections.proofs.Closing.{one_ended}
use Rattle.dns_connections.proofs.connections.Connections.accept.Goals as goal

pub invariant_of-self-in-Err-clause-connected : goal.invariant_of-self-in-Err-clause-connected
invariant_of-self-in-Err-clause-connected g c = omega (
  arith,
  ap (λ s. s.connected) c.close.ensures,
  ap (λ s. s.connected) c.in-Err.ensures.sockets,
  ap (λ s. s.connected) c.in_ok-stream.ensures.state,
  c.in-Err.ensures.same,
  c.args.self.now.connected,
)

pub invariant_of-self-in-Err-clause-served : goal.invariant_of-self-in-Err-clause-served
invariant_of-self-in-Err-clause-served g c = ∥∥₁_map c.args.self.now.served
    (one_ended _ _ _ _ _ _ (ap (λ s. s.closed) c.close.ensures
    ∙ ap (λ s. s.closed ++ option_to_list (g.K.Stream.Stream.exchange c.in-Err.stream)) (c.in-Err.ensures.sockets ∙ c.in_ok-stream.ensures.state))
    c.in-Err.ensures.refused)
