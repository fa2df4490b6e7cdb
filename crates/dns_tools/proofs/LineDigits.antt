-- The digits of a line: the hex library reads and writes them as the definitions do.
use Rattle.dns_tools.proofs.Common.{◌≡◌, ℕ, zero, suc, ◌+◌, ◌*◌, ◌/◌, ◌%◌, ◌<◌, ◌==◌, if◌then◌else◌, Bool, true, false, inl, inr, List, [], ◌∷◌, ◌++◌, length, length-append, take, drop, set, slice_index, Option, Some, None, Result, Ok, Err, refl, sym, ap, ◌∙◌, arith, IsErr, take_more_set, length-drop, is_ascii_hexdigit, digit_value, digit_char, option_map, agree_below_at, eqb-true, cases_Bool, cases_lt, le-leb, lt-leb, take_all, take-append-le, Octets, octets16, hex_octets, hex_text, IsBytes, hex_digit_value, decode_pairs, decode_of, encode_lower, encode_with, lower_digits, FromHexError, length-encode_with, cons_byte}

abbrev digit : ℕ → Option ℕ
digit c = if is_ascii_hexdigit c then Some (digit_value c) else None

abbrev same_option : Option ℕ → Option ℕ → Bool
same_option None None = true
same_option None (Some b) = false
same_option (Some a) None = false
same_option (Some a) (Some b) = a == b

from_same : (o p : Option ℕ) → same_option o p ≡ true → o ≡ p
from_same None None e = refl
from_same None (Some b) e = cc
from_same (Some a) None e = cc
from_same (Some a) (Some b) e = ap Some (eqb-true a b e)

digit_same : (c : ℕ) → hex_digit_value c ≡ digit c
digit_same c = elim (cases_lt c 103) [
  | inl small ↦ from_same _ _
      (agree_below_at (λ e. same_option (hex_digit_value e) (digit e)) (λ e. true) 103 c refl small)
  | inr high ↦ rw (
    le-leb 65 c (omega (arith, high)),
    le-leb 97 c (omega (arith, high)),
    le-leb 48 c (omega (arith, high)),
    lt-leb c 70 (omega (arith, high)),
    lt-leb c 102 (omega (arith, high)),
    lt-leb c 57 (omega (arith, high)),
  ) refl
]

lower_digit : (d : ℕ) → d < 16 → slice_index lower_digits d ≡ digit_char d
lower_digit d small = grind (arith, eqb-true, agree_below_at, slice_index, lower_digits, digit_char)

pub digits_written : (d : Octets) → IsBytes d → encode_lower d ≡ hex_text d
unfolding encode_with
digits_written [] small = refl
digits_written (o ∷ d) small =
    let here : o < 256 = small 0 in
    let after = digits_written d (λ i. small (suc i)) in
    rw (lower_digit (o / 16) (omega (arith, here)), lower_digit (o % 16) (omega arith), after) refl

two_bytes : (a b : ℕ) → a < 256 → b < 256 → IsBytes (a ∷ b ∷ [])
two_bytes a b h k zero = h
two_bytes a b h k (suc zero) = k
two_bytes a b h k (suc (suc i)) = omega arith

-- 16 bits in four digits
pub digits16 : (n : ℕ) → encode_lower (octets16 n) ≡ hex_text (octets16 n)
digits16 n = grind (arith, digits_written, octets16, two_bytes)

-- the octets that were read, or `None`, without the reason, if the digits were rejected
abbrev said : Result (List ℕ) FromHexError → Option Octets
said (Ok d) = Some d
said (Err e) = None

said_more : (v : ℕ) (r : Result (List ℕ) FromHexError)
    → said (cons_byte v r) ≡ option_map (λ d. v ∷ d) (said r)
said_more v (Ok d) = refl
said_more v (Err e) = refl

pairs_said : (i : ℕ) (text : Octets) → said (decode_pairs i text) ≡ hex_octets text
unfolding decode_pairs hex_octets
pairs_said i [] = refl
pairs_said i (h ∷ []) = refl
pairs_said i (h ∷ l ∷ text) =
    by_cases (is_ascii_hexdigit h) refl (is_ascii_hexdigit l) refl (pairs_said (i + 2) text)
  where
    by_cases : (p : Bool) → is_ascii_hexdigit h ≡ p → (q : Bool) → is_ascii_hexdigit l ≡ q
        → said (decode_pairs (i + 2) text) ≡ hex_octets text
        → said (decode_pairs i (h ∷ l ∷ text)) ≡ hex_octets (h ∷ l ∷ text)
    by_cases true high true low after = grind (arith, digit_same, said_more)
    by_cases true high false low after = grind (arith, digit_same)
    by_cases false high q low after = grind (arith, digit_same)

pub odd_is_none : (text : Octets) → length text % 2 ≡ 1 → hex_octets text ≡ None
unfolding hex_octets
odd_is_none [] odd = absurd (omega (arith, odd))
odd_is_none (h ∷ []) odd = refl
odd_is_none (h ∷ l ∷ text) odd = grind (arith, (odd_is_none text))

line_said : (text : Octets) → said (decode_of text) ≡ hex_octets text
line_said text = grind (arith, cases_Bool, odd_is_none, eqb-true, pairs_said)

-- a line that the library reads, and one that it rejects
pub line_read : (text d : Octets) → decode_of text ≡ Ok d → hex_octets text ≡ Some d
line_read text d e = sym (line_said text) ∙ ap said e

pub line_refused : (text : Octets) → IsErr (decode_of text) → hex_octets text ≡ None
line_refused text h = sym (line_said text) ∙ none_said (decode_of text) h
  where
    none_said : (r : Result (List ℕ) FromHexError) → IsErr r → said r ≡ None
    none_said (Ok d) h = cc
    none_said (Err e) h = refl

-- the digits at the front of a buffer, followed by LF
pub line_written : (octets new room : Octets) → new ≡ encode_lower octets
    → IsBytes octets → 2 * length octets < length room → take (2 * length octets + 1)
    (set (new ++ drop (2 * length octets) room) (2 * length octets) 10) ≡ hex_text octets ++ 10 ∷ []
line_written octets new room e bytes fits =
    grind (
      arith,
      length-encode_with,
      lower_digits,
      take_more_set,
      length-append,
      length-drop,
      take-append-le,
      take_all,
      digits_written,
    )
