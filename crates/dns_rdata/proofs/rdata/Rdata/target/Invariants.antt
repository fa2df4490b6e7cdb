use Rattle.dns_rdata.proofs.Common.{◌≡◌, All, length, first_name, target, HasName}
use Rattle.dns_rdata.proofs.rdata.Rdata.target.Given as goal

-- the first name among the remaining parts is the target
abbrev pub invariant-parts : goal.invariant-parts
invariant-parts l = record {
  names : All HasName l.parts;
  first : first_name l.parts ≡ target l.fn.rtype.0 l.octets;
}

abbrev pub decreases-parts : goal.decreases-parts
decreases-parts l = length l.parts
