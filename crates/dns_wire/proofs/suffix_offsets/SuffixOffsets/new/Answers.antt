use Rattle.dns_wire.proofs.ChainLemmas.{chains_begin}
use Rattle.dns_wire.proofs.suffix_offsets.SuffixOffsets.new.Goals as goal

pub invariant_of-result : goal.invariant_of-result
invariant_of-result g c = rw c.new.ensures chains_begin
