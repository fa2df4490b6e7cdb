use Rattle.dns_wire.proofs.Common.{◌≡◌, length, Follows, suffix_number}
use Rattle.dns_wire.proofs.SuffixLemmas.{Keep}
use Rattle.dns_wire.proofs.suffixes.keep_suffixes.Given as goal

-- the offsets kept so far, followed by those still to be kept, are the new offsets
abbrev pub invariant-suffixes : goal.invariant-suffixes
invariant-suffixes g l = record {
  keep : Keep (suffix_number (g.H.SuffixHash.hashes l.initial.hash))
      l.initial.offsets l.offsets l.name l.rest l.front l.at l.offset;
  more : Follows l.initial.offsets l.offsets;
  same : g.H.SuffixHash.hashes l.hash ≡ g.H.SuffixHash.hashes l.initial.hash;
}

abbrev pub decreases-suffixes : goal.decreases-suffixes
decreases-suffixes g l = length l.rest
