use Rattle.dns_name.proofs.Common.{arith, octets_equal-decides}
use Rattle.dns_name.proofs.TextLemmas.{dot_spells_root}
use Rattle.dns_name.proofs.name.Name.spell_as_written.Goals as goal

pub returns-then-eq-2-clause-only : goal.returns-then-eq-2-clause-only
returns-then-eq-2-clause-only c = grind (arith, dot_spells_root, octets_equal-decides)
