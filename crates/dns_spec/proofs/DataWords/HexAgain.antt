-- Octets that are written in hex digits are read as those octets again.
use Rattle.dns_spec.proofs.Common.{◌≡◌, ℕ, ◌+◌, ◌*◌, ◌/◌, ◌%◌, ◌<◌, true, [], ◌∷◌, length, refl, ◌∙◌, ap, arith, append-nil, agree_below_at, and_from, eq-eqb, lt-ltb, is_ascii_hexdigit, digit_char, digit_value, Octets, plain, hex_text, hex_words, digit_value-digit_char, Some, decimal, hex_octets, is_hex_word, SaysHex, SaysUnknown}
use Rattle.dns_spec.proofs.DomainNames.SmallOctets.{Small, small_head, small_tail}

pub hex_digit : (d : ℕ) → d < 16 → is_ascii_hexdigit (digit_char d) ≡ true
hex_digit d small = grind (arith, agree_below_at)

-- the two digits of an octet
digits_say : (o : ℕ)
    → o < 256 → 16 * digit_value (digit_char (o / 16)) + digit_value (digit_char (o % 16)) ≡ o
digits_say o small = grind (arith, digit_value-digit_char)

pub hex_again : (d : Octets) → Small d → hex_octets (hex_text d) ≡ Some d
unfolding hex_octets
hex_again [] small = refl
hex_again (o ∷ d) small =
    let here : o < 256 = small_head o d small in
    let after = hex_again d (small_tail o d small) in
    grind (arith, hex_digit, digits_say)

two_each : (d : Octets) → length (hex_text d) ≡ 2 * length d
two_each [] = refl
two_each (o ∷ d) = omega (arith, two_each d)

hex_word : (o : ℕ) (d : Octets) → is_hex_word (plain (hex_text (o ∷ d))) ≡ true
hex_word o d = grind (arith, and_from, lt-ltb, eq-eqb, two_each)

pub hex_said : (d : Octets) → Small d → SaysHex (hex_words d) d
unfolding hex_octets
hex_said [] small = (refl, refl)
hex_said (o ∷ d) small = (
  and_from _ _ (hex_word o d) refl,
  ap hex_octets (append-nil (hex_text (o ∷ d))) ∙ hex_again (o ∷ d) small,
)

-- the generic form spells the data
pub unknown_said : (d : Octets) → Small d → SaysUnknown (plain (decimal (length d)) ∷ hex_words d) d
unknown_said d small = (refl, refl, hex_said d small)
