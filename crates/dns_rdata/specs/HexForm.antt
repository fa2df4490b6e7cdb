-- How octets in hex digits are read from left to right, case by case as in the code.
use Rattle.std.specs.Prelude.{◌≡◌, ℕ, ◌+◌, ◌*◌, Bool, true, false, [], ◌∷◌, ◌++◌, Option, Some, None, if◌then◌else◌}
use Rattle.std.specs.Option.{option_and_then}
use Rattle.std.specs.Char.{is_ascii_hexdigit, digit_value}
use Rattle.dns_spec.specs.Names.{Octets}
use Rattle.dns_spec.specs.DataText.{hex_octets}

-- the value of a hex digit of either case
abbrev pub digit_of : ℕ → Option ℕ
digit_of c = if is_ascii_hexdigit c then Some (digit_value c) else None

-- the octet spelled by the first two digits, and the text after them
unfoldable pub hex_front : Octets → Option (ℕ × Octets)
hex_front [] = None
hex_front (h ∷ []) = None
hex_front (h ∷ l ∷ rest) =
    option_and_then (λ high. option_and_then (λ low. Some (high * 16 + low, rest)) (digit_of l))
    (digit_of h)

-- true: the octets that the text spells were appended; false: the text spells no octets
abbrev pub AppendsHex : Octets → Bool → Octets → Octets → Type 0
AppendsHex text true old new = (d : Octets) × (hex_octets text ≡ Some d) × (new ≡ old ++ d)
AppendsHex text false old new = hex_octets text ≡ None
