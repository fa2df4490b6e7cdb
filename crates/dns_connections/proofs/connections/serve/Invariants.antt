use Rattle.dns_spec.proofs.Common.{◌≡◌, ◌+◌, length}
use Rattle.dns_connections.specs.Exchanges.{HasClosed}
use Rattle.dns_connections.proofs.connections.serve.Given as goal

abbrev pub invariant-left : goal.invariant-left
invariant-left g l = record {
  connected : (g.K.Sockets.state l.sockets).connected
      ≡ g.Z.Served.before.connected + length l.peer-iterator;
  closed : ∥ HasClosed g.Z.Served.zone g.Z.Served.most g.Z.Served.before.closed
      (g.K.Sockets.state l.sockets).closed ∥₁;
}
