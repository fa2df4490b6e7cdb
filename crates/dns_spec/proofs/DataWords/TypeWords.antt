-- Words that name types: a mnemonic is not a number, and a number is read as it is written.
use Rattle.dns_spec.proofs.Common.{◌≡◌, ℕ, ◌^◌, ◌<◌, [], ◌∷◌, map, refl, arith, decimal_is_IsNumeral, decimal_injective, to_ascii_lowercase, AllDigits, Octets, text_in_lower_case, NamesType, decimal}

digits_lowered : (ds : Octets) → AllDigits 10 ds → map to_ascii_lowercase ds ≡ ds
digits_lowered [] h = refl
digits_lowered (d ∷ ds) h = grind (arith, (digits_lowered ds h.1))

-- digits have no case
pub decimal-lowered : (n : ℕ) → n < 2 ^ 64 → text_in_lower_case (decimal n) ≡ decimal n
decimal-lowered n h = digits_lowered (decimal n) (decimal_is_IsNumeral n h).0.1

pub one_type : (word : Octets) (t u : ℕ) → NamesType word t → NamesType word u → t ≡ u
one_type word t u h h1 = grind (arith, decimal_injective, decimal-lowered)
