-- The hex digits of a group of an IPv6 address.
use Rattle.dns_spec.proofs.Common.{◌≡◌, ℕ, ◌/◌, ◌%◌, ◌<◌, ◌≤◌, false, [], ◌∷◌, arith, digit_char, digits, ne_eqb, eq-eqb, hex_one_digit, hex_two_digits}

pub one_digit : (n : ℕ) → n < 16 → digits 16 false n ≡ digit_char n ∷ []
one_digit n small = hex_one_digit false n small

pub two_digits : (n : ℕ)
    → 16 ≤ n → n < 256 → digits 16 false n ≡ digit_char (n / 16) ∷ digit_char (n % 16) ∷ []
two_digits n large small = hex_two_digits false n large small

pub three_of : (n : ℕ) → 256 ≤ n → n < 4096 → digits 16 false n
    ≡ digit_char (n / 16 / 16 % 16) ∷ digit_char (n / 16 % 16) ∷ digit_char (n % 16) ∷ []
unfolding digits
three_of n large small = grind (arith, ne_eqb, eq-eqb)

pub four_of : (n : ℕ) → 4096 ≤ n → n < 65536 → digits 16 false n ≡ digit_char (n / 16 / 16
    / 16 % 16) ∷ digit_char (n / 16 / 16 % 16) ∷ digit_char (n / 16 % 16) ∷ digit_char (n % 16) ∷ []
unfolding digits
four_of n large small = grind (arith, ne_eqb, eq-eqb)
