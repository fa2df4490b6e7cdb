use Rattle.dns_rdata.proofs.Common.{arith}
use Rattle.dns_rdata.proofs.HexLemmas.{hex_tested}
use Rattle.dns_rdata.proofs.unknown.is_hex.Goals as goal

pub returns-then-word-eq0 : goal.returns-then-word-eq0
returns-then-word-eq0 c = grind (arith, hex_tested)
