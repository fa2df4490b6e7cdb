use Rattle.dns_tools.proofs.Common.{rules}
use Rattle.dns_tools.proofs.LineDigits.{digits16}
use Rattle.dns_tools.proofs.line_parts.hex_of.Goals as goal

pub returns : goal.returns
returns c = search (rules, digits16)
