use Rattle.dns_tools.proofs.Common.{rules, Writes-same}
use Rattle.dns_tools.proofs.LineDigits.{line_written}
use Rattle.dns_tools.proofs.once.write_digits.Goals as goal

pub returns : goal.returns
returns g c = search (rules, Writes-same, line_written)
