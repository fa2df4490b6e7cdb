use Rattle.dns_name.proofs.Common.{rules}
use Rattle.dns_name.proofs.LowerCase.{in_table}
use Rattle.dns_name.proofs.plain.in_lower_case.Goals as goal

pub returns : goal.returns
returns c = search (rules, in_table)
