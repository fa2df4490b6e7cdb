-- Keys of names: lists of octets whose order is the canonical order of the names.
use Rattle.std.specs.Prelude.{◌≡◌, ℕ, ◌+◌, [], ◌∷◌, ◌++◌, length, take, map, nat_lt, if◌then◌else◌}
use Rattle.dns_spec.specs.Names.{Octets, DomainName}

-- An octet of a name in lower case, in which 65 to 90 do not occur. Octets below 65 are raised by
-- one, so that 0 is free to end a label.
abbrev pub raised : ℕ → ℕ
raised o = if nat_lt o 65 then o + 1 else o

-- a label and its end marker 0, which is less than all raised octets
abbrev pub ended : Octets → Octets
ended l = map raised l ++ 0 ∷ []

-- the labels of a name from the right, each with its end marker
abbrev pub name_key : DomainName → Octets
name_key [] = []
name_key (l ∷ n) = name_key n ++ ended l

-- one of two lists of octets begins with the other
abbrev pub BeginAlike : Octets → Octets → Type 0
BeginAlike xs ys = take (length ys) xs ≡ take (length xs) ys
