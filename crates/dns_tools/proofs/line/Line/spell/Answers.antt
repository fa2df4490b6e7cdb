use Rattle.std.proofs.lemmas.Grind.{common_steps}
use Rattle.dns_tools.proofs.Common.{arith}
use Rattle.dns_tools.proofs.LineDigits.{line_read, line_refused}
use Rattle.dns_tools.proofs.line.Line.spell.Goals as goal

pub returns-clause-some : goal.returns-clause-some
returns-clause-some c =
    rw (← c.self.view_is, ← c.as_slice.ensures.value)
    (line_read _ _ (grind (arith, common_steps)))

pub returns-in_err-ok-clause-none : goal.returns-in_err-ok-clause-none
returns-in_err-ok-clause-none c =
    rw (c.from_residual.ensures, ← c.self.view_is, ← c.as_slice.ensures.value)
    (line_refused _ (grind (arith, common_steps)))
