use Rattle.dns_tools.specs.Listed.{IsAt}
use Rattle.dns_tools.proofs.faults.Position.moved.Given as goal

-- line and column are those of the next octet's place
abbrev pub invariant-octets : goal.invariant-octets
invariant-octets l =
    IsAt l.text (record { octets = l.place; line = l.at.line; column = l.at.column })
