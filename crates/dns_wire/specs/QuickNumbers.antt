-- The quick hash of a suffix.
use Rattle.std.specs.Prelude.{ℕ, ◌*◌, ◌/◌, ◌%◌, ◌^◌, nat_lt, length, take, get_or, if◌then◌else◌}
use Rattle.std.specs.Int.{from_le_bytes, w32}
use Rattle.dns_spec.specs.Names.{Octets}

-- The highest ten bits of a product of 32 bits: the first four octets, as a little-endian number,
-- times 2^32 over the golden ratio, an odd number, so that each octet affects these bits. For a
-- suffix with fewer than four octets, the second octet, the only one of its label; or 0.
abbrev pub quick_number : Octets → ℕ
quick_number s =
    if nat_lt (length s) 4
    then get_or s 1 0
    else from_le_bytes w32 (take 4 s) * 2654435769 % 2 ^ 32 / 4194304
