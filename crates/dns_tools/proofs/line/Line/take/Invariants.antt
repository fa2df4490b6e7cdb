use Rattle.dns_tools.proofs.Common.{◌≡◌, ◌++◌, take, Octets, line_ends, kept_line, IsFront}
use Rattle.dns_tools.proofs.line.Line.take.Given as goal

-- the line goes on in the octets so far
abbrev pub invariant-octets : goal.invariant-octets
invariant-octets l = record {
  unended : (x : Octets)
      → IsFront x l.initial.self → line_ends (x ++ take l.octet-index l.octets) ≡ 0;
  kept : (x : Octets)
      → IsFront x l.initial.self → l.self ≡ kept_line (x ++ take l.octet-index l.octets);
}
