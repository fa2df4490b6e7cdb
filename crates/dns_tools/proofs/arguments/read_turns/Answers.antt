use Rattle.dns_tools.proofs.Common.{arith, sym, ◌∙◌}
use Rattle.dns_tools.proofs.arguments.read_turns.Goals as goal

pub returns-clause-some : goal.returns-clause-some
returns-clause-some c =
    let read = (c.read_number.ensures c.in_ok-turns.turns).0 c.in_ok-turns.was in (
      sym c.as_bytes.ensures.value ∙ read.0,
      omega (arith, c.if-turns-eq0.false),
      read.1,
    )
