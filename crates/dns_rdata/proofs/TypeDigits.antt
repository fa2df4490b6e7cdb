-- Digits are read after `TYPE` in any case.
use Rattle.dns_rdata.proofs.Common.{◌≡◌, ℕ, ◌<◌, [], ◌∷◌, map, drop, refl, ap, arith, lt-ltb, false≢true, decimal_is_IsNumeral, digit_from_value, to_ascii_lowercase, AllDigits, Octets, text_in_lower_case, numbered_type, decimal, decimal-lowered}

-- only digits become digits in lower case
digits_unlowered : (cs ds : Octets) → map to_ascii_lowercase cs ≡ ds → AllDigits 10 ds → cs ≡ ds
digits_unlowered [] [] e h = refl
digits_unlowered [] (d ∷ ds) e h = cc
digits_unlowered (c ∷ cs) [] e h = cc
digits_unlowered (c ∷ cs) (d ∷ ds) e h = grind (arith, digits_unlowered cs ds (ap (drop 1) e) h.1)

-- the digits after `TYPE` are the digits of its number
pub type_digits : (word digits : Octets) (t : ℕ) → drop 4 word ≡ digits → t < 65536
    → text_in_lower_case word ≡ text_in_lower_case (numbered_type t) → digits ≡ decimal t
type_digits word digits t e small h =
    let digits_of : drop 4 (text_in_lower_case (numbered_type t)) ≡ decimal t =
    decimal-lowered t (omega arith) in
    let lowered : map to_ascii_lowercase digits ≡ decimal t = grind arith in
    digits_unlowered digits (decimal t) lowered (decimal_is_IsNumeral t (omega arith)).0.1
