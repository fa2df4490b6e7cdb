use Rattle.dns_rdata.proofs.Common.{◌≡◌, ◌++◌, All, map, length, part_folded, joined, lower_case, HasName}
use Rattle.dns_rdata.proofs.rdata.Rdata.lowered.Given as goal

-- the parts in front of the remaining ones have been appended in lower case
abbrev pub invariant-parts : goal.invariant-parts
invariant-parts l = record {
  names : All HasName l.parts;
  whole : lower_case l.fn.rtype.0 l.octets ≡ l.lowered.items ++ joined (map part_folded l.parts);
}

abbrev pub decreases-parts : goal.decreases-parts
decreases-parts l = length l.parts
