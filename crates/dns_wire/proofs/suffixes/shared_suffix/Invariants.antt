use Rattle.dns_wire.proofs.Common.{◌≡◌, length, ◌++◌, asked_offsets, suffix_number}
use Rattle.dns_wire.proofs.SuffixLemmas.{Left}
use Rattle.dns_wire.proofs.suffixes.shared_suffix.Given as goal

-- the layout of the name ends with the layout of `rest`
abbrev pub invariant-suffixes : goal.invariant-suffixes
invariant-suffixes g l =
    let head = suffix_number (g.H.SuffixHash.hashes l.initial.hash) in
    record {
      left : Left head l.message
          (asked_offsets head l.message l.asked_end ++ l.offsets) l.name l.rest;
      same : g.H.SuffixHash.hashes l.hash ≡ g.H.SuffixHash.hashes l.initial.hash;
    }

abbrev pub decreases-suffixes : goal.decreases-suffixes
decreases-suffixes g l = length l.rest
