-- How the text of an address is read from left to right, case by case as in the code.
use Rattle.std.specs.Prelude.{◌≡◌, ℕ, ◌≤◌, ◌+◌, ◌*◌, ◌==◌, List, ◌∷◌, ◌++◌, decimal, length, nat_le, if◌then◌else◌, Option, Some, None}
use Rattle.std.specs.Borrow.{Bor}
use Rattle.std.specs.Option.{option_and_then}
use Rattle.dns_spec.specs.Names.{Octets}
use Rattle.dns_name.specs.TextForm.{digit_at, octet_of}

-- the number of two digits a.0, or of three if one more digit b was read
abbrev pub number_end : ℕ × Octets → Option (ℕ × Octets) → Option (ℕ × Octets)
number_end a None = Some a
number_end a (Some b) = octet_of (10 * a.0 + b.0) b.1

-- the number of the one digit a.0, or of more digits if a second one, b, was read
abbrev pub number_on : ℕ × Octets → Option (ℕ × Octets) → Option (ℕ × Octets)
number_on a None = Some a
number_on a (Some b) = number_end (10 * a.0 + b.0, b.1) (digit_at b.1)

-- the number at the beginning of a text, without leading zeros, and the text after its digits
unfoldable pub number_at : Octets → Option (ℕ × Octets)
number_at text =
    option_and_then (λ a. if a.0 == 0 then Some a else number_on a (digit_at a.1)) (digit_at text)

-- the text is a number n from 0 to 255, a dot, and then `rest`
abbrev pub OctetThen : Octets → ℕ → Octets → Type 0
OctetThen text n rest = (text ≡ decimal n ++ 46 ∷ rest) × (n ≤ 255)

-- a function returned the two texts that a definition gives, borrowed
abbrev pub GivesPair : Option (Bor Octets × Bor Octets) → Option (Octets × Octets) → Type 0
GivesPair None read = read ≡ None
GivesPair (Some x) read = read ≡ Some (x.0.now, x.1.now)

-- these groups if they are at most eight, or else none
abbrev pub few_groups : List ℕ → Option (List ℕ)
few_groups gs = if nat_le (length gs) 8 then Some gs else None
