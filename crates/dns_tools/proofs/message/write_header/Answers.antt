use Rattle.dns_tools.proofs.Common.{rules, Writes-same}
use Rattle.dns_tools.proofs.message.write_header.Goals as goal

pub returns : goal.returns
returns g c = Writes-same (rw c.as_slice.ensures (search rules)) c.write_parts.ensures
