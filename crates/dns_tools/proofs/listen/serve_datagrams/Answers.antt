use Rattle.dns_tools.proofs.Common.{arith, suc, inr, sym, ◌∙◌}
use Rattle.dns_tools.proofs.listen.serve_datagrams.Goals as goal

-- the last turn failed, since the server was asked to end
pub returns-then-is_over-clause-turns : goal.returns-then-is_over-clause-turns
returns-then-is_over-clause-turns g c = record {
  taken = suc c.turns.counter;
  turns = (
    _,
    c.turns.invariant.taken,
    record {
      outcome = _;
      turn = c.udp_turn_in.ensures.turn;
      counted = c.udp_turn_in.ensures.counted;
    },
  );
  most = omega arith;
  all = inr (sym c.is_over.ensures ∙ c.if-is_over.true);
}
