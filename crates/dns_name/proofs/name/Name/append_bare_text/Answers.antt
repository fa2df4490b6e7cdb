use Rattle.dns_name.proofs.Common.{arith}
use Rattle.dns_name.proofs.WrittenLemmas.{bare_name}
use Rattle.dns_name.proofs.name.Name.append_bare_text.Goals as goal

pub returns-then-label_count-gt0 : goal.returns-then-label_count-gt0
returns-then-label_count-gt0 c = grind (arith, bare_name)
