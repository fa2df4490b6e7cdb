-- Escapes: `escape_front` gives the octet that an escape spells in a name; and the length of an
-- escape.
use Rattle.dns_spec.proofs.Common.{◌≡◌, ℕ, ◌<◌, Bool, true, false, cond, ◌&&◌, nat_le, nat_lt, Option, Some, None, [], ◌∷◌, ◌++◌, refl, ap, subst, arith, and_parts, leb-true, ltb-true, lt-ltb, none-some, some_pair_parts, is_ascii_digit, IsAsciiDigit, IsNotAsciiDigit, Octets, escape_left, ◌↔◌, ◌==◌, if◌then◌else◌, three_digits_value, SpellsOctet, is_printable, digits_front, escape_front}

-- the number of octets of the escape, case by case
abbrev pub counted_digits : Octets → ℕ
counted_digits [] = 0
counted_digits (a ∷ []) = 0
counted_digits (a ∷ b ∷ []) = 0
counted_digits (a ∷ b ∷ c ∷ text) =
    cond (is_ascii_digit a
    && is_ascii_digit b && is_ascii_digit c && nat_lt (three_digits_value a b c) 256) 3 0

abbrev pub counted_escape : Octets → ℕ
counted_escape [] = 0
counted_escape (a ∷ text) =
    cond (is_ascii_digit a) (counted_digits (a ∷ text)) (cond (is_printable a) 1 0)

-- the number of octets of an escape after its backslash; `None` for 0, since then there is no
-- escape
abbrev pub left_by : ℕ → Option ℕ
left_by k = if k == 0 then None else Some k

pub escape-counted : (text : Octets) → escape_left text ≡ left_by (counted_escape text)
escape-counted text = grind arith

-- the text is an escape, after its backslash, that spells x in a name, followed by `rest`
abbrev pub Spelled : Octets → ℕ → Octets → Type 0
Spelled text x rest = (e : Octets) × (text ≡ e ++ rest) × SpellsOctet (92 ∷ e) x

digit-true : (a : ℕ) → is_ascii_digit a ≡ true → IsAsciiDigit a
digit-true a h = grind (arith, and_parts, leb-true)

front-spelled : (text : Octets) (x : ℕ) (rest : Octets)
    → digits_front text ≡ Some (x, rest) → Spelled text x rest
front-spelled [] x rest e = absurd (none-some (x, rest) e)
front-spelled (a ∷ []) x rest e = absurd (none-some (x, rest) e)
front-spelled (a ∷ b ∷ []) x rest e = absurd (none-some (x, rest) e)
front-spelled (a ∷ b ∷ c ∷ text) x rest e = go (is_ascii_digit a
    && is_ascii_digit b && is_ascii_digit c && nat_lt (three_digits_value a b c) 256) refl e
  where
    go : (t : Bool) → (is_ascii_digit a && is_ascii_digit b && is_ascii_digit c
        && nat_lt (three_digits_value a b c) 256) ≡ t → cond {A = Option (ℕ × Octets)} t (Some
        (three_digits_value a b c, text)) None ≡ Some (x, rest) → Spelled (a ∷ b ∷ c ∷ text) x rest
    go false are e = absurd (none-some (x, rest) e)
    go true are e =
        let all = and_parts (is_ascii_digit a && is_ascii_digit b && is_ascii_digit c)
        (nat_lt (three_digits_value a b c) 256) are in
        let third = and_parts (is_ascii_digit a && is_ascii_digit b) (is_ascii_digit c) all.0 in
        let both = and_parts (is_ascii_digit a) (is_ascii_digit b) third.0 in
        let same = some_pair_parts (three_digits_value a b c) x text rest e in
        let small : three_digits_value a b c < 256 = grind (arith, ltb-true) in (
          a ∷ b ∷ c ∷ [],
          ap (λ t. a ∷ b ∷ c ∷ t) same.1,
          (
            refl,
            digit-true a both.0,
            digit-true b both.1,
            digit-true c third.1,
            same.0,
            subst (λ n. n < 256) same.0 small,
          ),
        )

pub not-digit : (a : ℕ) → is_ascii_digit a ≡ false → IsNotAsciiDigit a
not-digit a h = grind arith

escape-spelled : (text : Octets) (x : ℕ) (rest : Octets)
    → escape_front text ≡ Some (x, rest) → Spelled text x rest
escape-spelled [] x rest e = absurd (none-some (x, rest) e)
escape-spelled (a ∷ text) x rest e = go (is_ascii_digit a) (is_printable a) refl refl e
  where
    go : (d p : Bool) → is_ascii_digit a ≡ d
        → is_printable a ≡ p → cond {A = Option (ℕ × Octets)} d (digits_front (a ∷ text))
        (cond p (Some (a, text)) None) ≡ Some (x, rest) → Spelled (a ∷ text) x rest
    go true p digit printable e = front-spelled (a ∷ text) x rest e
    go false false digit printable e = absurd (none-some (x, rest) e)
    go false true digit printable e =
        let same = some_pair_parts a x text rest e in
        let range = and_parts (nat_le 32 a) (nat_le a 126) printable in (
          a ∷ [],
          ap (λ t. a ∷ t) same.1,
          (refl, same.0, leb-true 32 a range.0, leb-true a 126 range.1, not-digit a digit),
        )

spelled-escape : (e : Octets) (x : ℕ) (rest : Octets)
    → SpellsOctet (92 ∷ e) x → escape_front (e ++ rest) ≡ Some (x, rest)
spelled-escape e x rest h = grind (arith, lt-ltb)

pub escape_spells : (text : Octets) (x : ℕ) (rest : Octets)
    → (escape_front text ≡ Some (x, rest)) ↔ Spelled text x rest
escape_spells text x rest = grind (arith, escape-spelled, spelled-escape)
