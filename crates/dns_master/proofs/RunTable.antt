-- The table of unescaped octets agrees with the definitions.
use Rattle.dns_master.proofs.Common.{◌≡◌, ℕ, ◌<◌, refl, is_word_octet, is_string_octet, slice_index_or, nat_le, PLAIN_IN}
use Rattle.dns_spec.proofs.Common.{agree_below_at}

pub in-words : (o : ℕ) → o < 256 → nat_le 2 (slice_index_or PLAIN_IN o 0) ≡ is_word_octet o
in-words o h =
    agree_below_at (λ x. nat_le 2 (slice_index_or PLAIN_IN x 0)) is_word_octet 256 o refl h

pub in-strings : (o : ℕ) → o < 256 → nat_le 1 (slice_index_or PLAIN_IN o 0) ≡ is_string_octet o
in-strings o h =
    agree_below_at (λ x. nat_le 1 (slice_index_or PLAIN_IN x 0)) is_string_octet 256 o refl h
