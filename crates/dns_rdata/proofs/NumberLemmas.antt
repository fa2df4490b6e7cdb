-- Digits, read from left to right, spell a number, and only the decimal text of a number spells it.
use Rattle.dns_rdata.proofs.Common.{◌≡◌, ◌↔◌, ℕ, [], ◌∷◌, ◌+◌, ◌-◌, ◌*◌, ◌<◌, ◌≤◌, ◌^◌, List, length, take, get_or, inl, inr, refl, sym, ◌∙◌, ap, subst, arith, decimal, cases_lt, IsAsciiDigit, IsNotAsciiDigit, AllDigits, digits_value, digits, Octets, take_all, Option, Some, None, SomeIff, digits_value_more, digits_more, digit_at, digits_value-take-le, numerals_by_value, tells_digits, decimal_is_IsNumeral, decimal-digits_value, first_decimal, length-decimal-le, same_Some}

-- digits contain no octet that is not a digit
pub no_digit : (ds : List ℕ) (i : ℕ)
    → i < length ds → IsNotAsciiDigit (get_or ds i 0) → AllDigits 10 ds → ⊥
no_digit ds i inside out all = grind (arith, digit_at)

-- one more digit is read
pub digit_more : (ds : List ℕ) (i n : ℕ)
    → i < length ds → IsAsciiDigit (get_or ds i 0) → n ≡ digits_value 10 (take i ds)
    → digits_value 10 (take (i + 1) ds) ≡ n * 10 + (get_or ds i 0 - 48)
digit_more ds i n inside digit value = grind (arith, digits_value_more)

-- if the digits so far reach the bound, all digits do
pub past_bound : (ds : List ℕ) (i n bound : ℕ)
    → i < length ds → IsAsciiDigit (get_or ds i 0) → n ≡ digits_value 10 (take i ds)
    → bound ≤ n * 10 + (get_or ds i 0 - 48) → digits_value 10 ds < bound → ⊥
past_bound ds i n bound inside digit value over small =
    omega (
      arith,
      digit_more ds i n inside digit value,
      digits_value-take-le 10 ds (i + 1) (omega arith),
    )

pub all_more : (ds : List ℕ) (i : ℕ) → i < length ds
    → IsAsciiDigit (get_or ds i 0) → AllDigits 10 (take i ds) → AllDigits 10 (take (i + 1) ds)
all_more ds i inside digit all = grind (arith, digits_more)

-- `None` is the right result if the condition P does not hold
pub none_iff : {P : Type 0} (o : Option ℕ) (v : ℕ) → o ≡ None → (P → ⊥) → SomeIff o P v
none_iff o v h h1 = grind arith

pub not_below : (n bound : ℕ) → (n < bound → ⊥) → bound ≤ n
not_below n bound h = elim (cases_lt n bound) [ inl below ↦ absurd (h below) | inr above ↦ above ]

-- all digits are read
pub all_read : (ds : List ℕ) (i n bound : ℕ)
    → length ds ≤ i → AllDigits 10 (take i ds) → n ≡ digits_value 10 (take i ds)
    → n < bound → (AllDigits 10 ds × (digits_value 10 ds < bound)) × (n ≡ digits_value 10 ds)
all_read ds i n bound end all value small = grind (arith, take_all)

-- the result is the number that the text spells, if it spells one
abbrev pub SaysIff : Octets → ℕ → Option ℕ → Type 0
SaysIff text most r = (n : ℕ) → (r ≡ Some n) ↔ ((text ≡ decimal n) × (n ≤ most))

pub SaysIff-none : (text : Octets) (most : ℕ) (r : Option ℕ)
    → r ≡ None → ((n : ℕ) → text ≡ decimal n → n ≤ most → ⊥) → SaysIff text most r
SaysIff-none text most r none refuted = grind arith

pub says_digits : (text : Octets) (n : ℕ) → n < 2 ^ 32
    → text ≡ decimal n → AllDigits 10 text × (digits_value 10 text ≡ n) × (0 < length text)
says_digits text n small e =
    let P : Octets → Type 0 = λ t. AllDigits 10 t × (digits_value 10 t ≡ n) × (0 < length t) in
    let numeral = decimal_is_IsNumeral n (omega arith) in
    subst P (sym e) (numeral.0.1, numeral.1, numeral.0.0)

-- an empty text spells no number
pub no_text : (text : Octets) (most : ℕ)
    → most < 2 ^ 32 → length text ≡ 0 → (n : ℕ) → text ≡ decimal n → n ≤ most → ⊥
no_text text most small empty n e le = omega (arith, says_digits text n (omega arith) e)

zero_text : decimal 0 ≡ 48 ∷ []
unfolding digits
zero_text = refl

-- a text with a leading zero spells no number
pub zero_in_front : (text : Octets) (most : ℕ) → most < 2 ^ 32
    → get_or text 0 0 ≡ 48 → (length text ≡ 1 → ⊥) → (n : ℕ) → text ≡ decimal n → n ≤ most → ⊥
zero_in_front text most small zero_first more n e le = grind (arith, zero_text, first_decimal)

-- a text that is not digits, or whose value is too great, spells no number
pub no_digits : (text : Octets) (most : ℕ) → most < 2 ^ 32 → (AllDigits 10 text
    × (digits_value 10 text < 2 ^ 32) → ⊥) → (n : ℕ) → text ≡ decimal n → n ≤ most → ⊥
no_digits text most small refuted n e le = grind (arith, says_digits)

pub greater : (text : Octets) (most : ℕ)
    → most < 2 ^ 32 → most < digits_value 10 text → (n : ℕ) → text ≡ decimal n → n ≤ most → ⊥
greater text most small over n e le = omega (arith, says_digits text n (omega arith) e)

-- digits without a leading zero spell only their value
pub SaysIff-some : (text : Octets) (most k : ℕ) (r : Option ℕ)
    → r ≡ Some k → k ≡ digits_value 10 text → k ≤ most → most < 2 ^ 32 → AllDigits 10 text
    → 0 < length text → (get_or text 0 0 ≡ 48 → length text ≡ 1) → SaysIff text most r
SaysIff-some text most k r some value le small all some_octet zero_alone = λ n. (
  λ h.
      (let one : k ≡ n = same_Some k n (sym some ∙ h) in
      (text_is ∙ ap decimal one, omega (arith, one))),
  λ h. some ∙ ap (λ j. Some j) (value ∙ (says_digits text n (omega (arith, h.1)) h.0).1),
)
  where
    text_is : text ≡ decimal k
    text_is =
        sym (decimal-digits_value (numerals_by_value (AllDigits 10) tells_digits)
        text all some_octet zero_alone (omega (arith, value))) ∙ ap decimal (sym value)

-- the text of an octet has at most three digits
pub three_digits : (digits text : Octets) (n k : ℕ)
    → digits ≡ text → text ≡ decimal k → k ≡ n → n < 256 → length digits ≤ 3
three_digits digits text n k e f g small = grind (arith, length-decimal-le)
