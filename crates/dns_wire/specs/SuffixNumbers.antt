-- The number of a suffix, which distinguishes its offsets from the offsets of other suffixes.
use Rattle.std.specs.Prelude.{ℕ, zero, suc, ◌+◌, ◌-◌, ◌*◌, ◌/◌, ◌%◌, ◌^◌, nat_le, length, take, drop, if◌then◌else◌}
use Rattle.std.specs.Int.{from_le_bytes, w64}
use Rattle.std.specs.Int.Bits.{bit_xor}
use Rattle.std.specs.List.{fold}
use Rattle.dns_spec.specs.Names.{Octets}

-- the two halves of a product of 128 bits, combined: all bits of the number affect the result
abbrev pub mixed : ℕ → ℕ
mixed n =
    let product = n * 11400714819323198485 in
    bit_xor (product / 2 ^ 64) (product % 2 ^ 64)

-- the number with one more octet
abbrev pub with_octet : ℕ → ℕ → ℕ
with_octet n o = bit_xor (n * 256 % 2 ^ 64) o

-- up to eight octets as one number
abbrev pub few_number : Octets → ℕ
few_number = fold with_octet 0

-- the last eight octets, mixed with k groups of eight from the left
abbrev pub with_eights : ℕ → Octets → ℕ
with_eights zero s = from_le_bytes w64 (take 8 (drop (length s - 8) s))
with_eights (suc k) s =
    mixed (bit_xor (with_eights k s) (from_le_bytes w64 (take 8 (drop (8 * k) s))))

-- 22 bits that depend on all octets
unfoldable pub octets_number : Octets → ℕ
octets_number s =
    (if nat_le (length s) 8
    then mixed (few_number s)
    else with_eights ((length s - 1) / 8) s) / 2 ^ 42

-- the number of a suffix: 22 bits from its octets, 8 bits of its length, and the two highest bits
-- of its hash by `numbers`
unfoldable pub suffix_number : (Octets → ℕ) → Octets → ℕ
suffix_number numbers s =
    octets_number s * 1024 + length s % 256 * 4 + numbers s / 256
