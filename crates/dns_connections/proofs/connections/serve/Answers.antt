use Rattle.dns_spec.proofs.Common.{arith, ap, length}
use Rattle.std.proofs.Math.Logic.{∥∥₁_map}
use Rattle.dns_connections.proofs.Closing.{entries_length, one_ended, has_closed}
use Rattle.dns_connections.proofs.connections.serve.Goals as goal

pub left-init : goal.left-init
left-init g c = record {
  connected = omega (
    arith,
    c.run.new.self.connected,
    ap length c.into_iter-peer-iterator.ensures.into_iter_gives,
    entries_length 0 c.run.new.self.peers.slots,
  );
  closed = c.run.new.self.served;
}

pub left-preserved : goal.left-preserved
left-preserved g c = record {
  connected = omega (
    arith,
    ap (λ s. s.connected) c.close.ensures,
    ap length c.in-Some.ensures.steps,
    c.left.invariant.connected,
  );
  closed = ∥∥₁_map c.left.invariant.closed
      (one_ended _ _ _ _ _ _ (ap (λ s. s.closed) c.close.ensures) c.end.ensures);
}

pub returns-clause-served : goal.returns-clause-served
returns-clause-served g c = record {
  closed = has_closed _ _ _ _ c.left.invariant.closed;
  connected = omega (arith, c.left.invariant.connected, ap length c.in-None.ensures.steps.0);
}
