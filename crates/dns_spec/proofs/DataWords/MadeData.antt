-- Data that begins with a name, or with any other field, is cut after it.
use Rattle.dns_spec.proofs.Common.{◌≡◌, true, List, ◌∷◌, ◌++◌, Some, arith, Octets, DomainName, wire, is_name, Field, Part, name, field_front, cut, domain, ℕ, length, octets_front, octets, le-leb, length-append, take_at, drop_at}
use Rattle.dns_spec.proofs.DomainNames.WireNames.{name_of-wire}

-- a name
pub cut-domain : (n : DomainName) (rest : Octets)
    → is_name n ≡ true → field_front domain (wire n ++ rest) ≡ Some (name n, rest)
cut-domain n rest ok = grind (arith, name_of-wire)

-- a field, and the fields after it
pub cut-step : (p : Field) (ps : List Field) (os : Octets)
    (part : Part) (rest : Octets) (xs : List Part) → field_front p os ≡ Some (part, rest)
    → cut ps rest ≡ Some xs → cut (p ∷ ps) os ≡ Some (part ∷ xs)
unfolding cut
cut-step p ps os part rest xs front after = grind arith

pub cut-octets : (k : ℕ) (o rest : Octets)
    → length o ≡ k → octets_front k (o ++ rest) ≡ Some (octets o, rest)
cut-octets k o rest long = grind (arith, le-leb, length-append, take_at, drop_at)
