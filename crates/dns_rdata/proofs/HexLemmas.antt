-- Hex digits, read from left to right, two per octet.
use Rattle.std.specs.Prelude.{Bool}
use Rattle.std.specs.List.{list_all}
use Rattle.std.specs.Option.{is_some}
use Rattle.std.specs.Prelude.{cond}
use Rattle.dns_rdata.proofs.Common.{◌%◌, ◌&&◌, ◌≡◌, ℕ, ◌+◌, ◌*◌, ◌<◌, inl, inr, ◌⊎◌, true, false, [], ◌∷◌, ◌++◌, length, refl, sym, ◌∙◌, ap, arith, option_map, option_and_then, is_ascii_hexdigit, digit_value, cases_Bool, Octets, hex_octets, Option, Some, None, append_assoc, append-nil, hex_front, AppendsHex}
use Rattle.dns_spec.proofs.Common.{none-some}

-- what two digits and the text after them spell
front_says : (text : Octets) (x : ℕ) (others : Octets) → hex_front text ≡ Some (x, others)
    → hex_octets text ≡ option_map (λ d. x ∷ d) (hex_octets others)
unfolding hex_front hex_octets
front_says [] x others e = cc
front_says (h ∷ []) x others e = cc
front_says (h ∷ l ∷ rest) x others e =
    by_cases (cases_Bool (is_ascii_hexdigit h)) (cases_Bool (is_ascii_hexdigit l))
  where
    by_cases : (is_ascii_hexdigit h ≡ true) ⊎ (is_ascii_hexdigit h ≡ false)
        → (is_ascii_hexdigit l ≡ true) ⊎ (is_ascii_hexdigit l ≡ false)
        → hex_octets (h ∷ l ∷ rest) ≡ option_map (λ d. x ∷ d) (hex_octets others)
    by_cases (inl high) (inl low) = grind arith
    by_cases (inl high) (inr low) =
        let f : None ≡ Some (x, others) = rw (high, low) at e in absurd (none-some _ f)
    by_cases (inr high) low =
        let f : None ≡ Some (x, others) = rw high at e in absurd (none-some _ f)

pub front_shorter : (text : Octets) (x : ℕ) (others : Octets)
    → hex_front text ≡ Some (x, others) → length others < length text
unfolding hex_front
front_shorter text x others h = grind (arith, none-some)

-- the octets read, followed by those that `rest` spells, are what the text spells
pub record HexSoFar (text old octets rest : Octets) : Type 0 where
  pub read : Octets
  pub appended : octets ≡ old ++ read
  pub whole : hex_octets text ≡ option_map (λ d. read ++ d) (hex_octets rest)

pub HexSoFar-push : (text old octets rest : Octets) (x : ℕ) (others : Octets) → HexSoFar text old
    octets rest → hex_front rest ≡ Some (x, others) → HexSoFar text old (octets ++ x ∷ []) others
HexSoFar-push text old octets rest x others so_far e = record {
  read = so_far.read ++ x ∷ [];
  appended = ap (λ o. o ++ x ∷ []) so_far.appended ∙ append_assoc old so_far.read (x ∷ []);
  whole = so_far.whole ∙ ap (option_map (λ d. so_far.read ++ d)) (front_says rest x others e)
      ∙ joined (hex_octets others);
}
  where
    joined : (o : Option Octets) → option_map (λ d. so_far.read ++ d)
        (option_map (λ d. x ∷ d) o) ≡ option_map (λ d. (so_far.read ++ x ∷ []) ++ d) o
    joined None = refl
    joined (Some d) = ap (λ k. Some k) (sym (append_assoc so_far.read (x ∷ []) d))

pub HexSoFar-refuses : (text old octets rest new : Octets) → HexSoFar text old octets rest
    → (rest ≡ [] → ⊥) → hex_front rest ≡ None → AppendsHex text false old new
unfolding hex_front hex_octets
HexSoFar-refuses text old octets rest new so_far more e = grind (arith, none-some)

pub HexSoFar-end : (text old octets rest : Octets)
    → HexSoFar text old octets rest → rest ≡ [] → AppendsHex text true old octets
unfolding hex_octets
HexSoFar-end text old octets rest so_far empty = grind (arith, append-nil)

-- the octets of two texts of hex digits, one after the other; none if one of them spells none
abbrev pub joined_octets : Option Octets → Option Octets → Option Octets
joined_octets o p = option_and_then (λ d. option_map (λ e. d ++ e) p) o

even-more : (h l : ℕ) (text : Octets) → length (h ∷ l ∷ text) % 2 ≡ 0 → length text % 2 ≡ 0
even-more h l text e = omega (arith, e)

pub hex_octets-append : (text others : Octets) → length text % 2 ≡ 0
    → hex_octets (text ++ others) ≡ joined_octets (hex_octets text) (hex_octets others)
unfolding hex_octets
hex_octets-append [] others even = grind arith
hex_octets-append (h ∷ []) others even = absurd (omega (arith, even))
hex_octets-append (h ∷ l ∷ text) others even =
    by_cases (hex_octets-append text others (even-more h l text even))
    (cases_Bool (is_ascii_hexdigit h && is_ascii_hexdigit l))
  where
    onto : (x : ℕ) (o p : Option Octets)
        → option_map (λ d. x ∷ d) (joined_octets o p) ≡ joined_octets (option_map (λ d. x ∷ d) o) p
    onto x None p = refl
    onto x (Some d) None = refl
    onto x (Some d) (Some e) = refl

    by_cases : hex_octets (text ++ others) ≡ joined_octets (hex_octets text) (hex_octets others)
        → ((is_ascii_hexdigit h && is_ascii_hexdigit l) ≡ true)
        ⊎ ((is_ascii_hexdigit h && is_ascii_hexdigit l) ≡ false) → hex_octets
        ((h ∷ l ∷ text) ++ others) ≡ joined_octets (hex_octets (h ∷ l ∷ text)) (hex_octets others)
    by_cases after (inl digits) =
        rw digits (ap (option_map (λ d. (16 * digit_value h + digit_value l) ∷ d)) after
        ∙ onto (16 * digit_value h + digit_value l) (hex_octets text) (hex_octets others))
    by_cases after (inr none) = rw none refl

-- the number of digits that spell octets is even
pub even_digits : (text d : Octets) → hex_octets text ≡ Some d → length text % 2 ≡ 0
unfolding hex_octets
even_digits [] d e = refl
even_digits (h ∷ []) d e = absurd (none-some d e)
even_digits (h ∷ l ∷ text) d e = by_cases (even_digits text)
    (hex_octets text) refl (cases_Bool (is_ascii_hexdigit h && is_ascii_hexdigit l))
  where
    by_cases : ((x : Octets) → hex_octets text ≡ Some x → length text % 2 ≡ 0) → (o : Option Octets)
        → hex_octets text ≡ o → ((is_ascii_hexdigit h && is_ascii_hexdigit l) ≡ true)
        ⊎ ((is_ascii_hexdigit h && is_ascii_hexdigit l) ≡ false) → length (h ∷ l ∷ text) % 2 ≡ 0
    by_cases even None none (inl digits) =
        let f : None ≡ Some d = rw (digits, none) at e in absurd (none-some d f)
    by_cases even (Some x) some (inl digits) = omega (arith, even x some)
    by_cases even o is (inr bad) = let f : None ≡ Some d = rw bad at e in absurd (none-some d f)

-- octets in hex are an even number of hex digits
pub hex_tested : (text : Octets) → length text % 2 ≡ 0
    → is_some (hex_octets text) ≡ list_all is_ascii_hexdigit text
unfolding hex_octets
hex_tested [] even = refl
hex_tested (h ∷ []) even = absurd (omega (arith, even))
hex_tested (h ∷ l ∷ text) even =
    go (is_ascii_hexdigit h) (is_ascii_hexdigit l) (hex_octets text)
    (hex_tested text (omega (arith, even)))
  where
    go : (a b : Bool) (d : Option Octets) → is_some d ≡ list_all is_ascii_hexdigit text
        → is_some (cond (a && b)
        (option_map (λ d. (16 * digit_value h + digit_value l) ∷ d) d) None)
        ≡ (a && (b && list_all is_ascii_hexdigit text))
    go true true None e = e
    go true true (Some d) e = e
    go true false d e = refl
    go false b d e = refl
