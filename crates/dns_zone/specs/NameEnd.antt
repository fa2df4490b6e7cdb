-- The shortest suffix of a name with at least a given number of octets.
use Rattle.std.specs.Prelude.{ℕ, [], ◌∷◌, length, nat_lt, if◌then◌else◌}
use Rattle.dns_spec.specs.Names.{DomainName, wire}

-- The shortest suffix of a name that has at least `least` octets on the wire, or the whole name if
-- the name has fewer.
abbrev pub ending : ℕ → DomainName → DomainName
ending least [] = []
ending least (l ∷ n) = if nat_lt (length (wire n)) least then l ∷ n else ending least n
