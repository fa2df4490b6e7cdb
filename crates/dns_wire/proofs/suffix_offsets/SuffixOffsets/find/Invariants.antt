use Rattle.dns_wire.proofs.Common.{◌≡◌, KeptOffset, chain_of, SpelledAt}
use Rattle.dns_wire.proofs.ChainLemmas.{Chain}
use Rattle.dns_wire.proofs.suffix_offsets.SuffixOffsets.find.Given as goal

-- no entry newer than the current one is the one sought
abbrev pub invariant-chain : goal.invariant-chain
invariant-chain g l = Chain (λ (e : KeptOffset). (e.number ≡ l.number)
    × SpelledAt l.message e.offset l.suffix) (chain_of l.number) l.self-inside.entries.items
    l.newest

abbrev pub decreases-chain : goal.decreases-chain
decreases-chain g l = l.newest
