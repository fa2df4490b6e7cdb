use Rattle.dns_wire.proofs.Common.{◌≡◌, take, length}
use Rattle.dns_wire.proofs.suffix_offsets.SuffixOffsets.take_back.Given as goal

abbrev pub invariant-offsets : goal.invariant-offsets
invariant-offsets g l = take l.count l.self ≡ take l.count l.initial.self

abbrev pub decreases-offsets : goal.decreases-offsets
decreases-offsets g l = length l.self
