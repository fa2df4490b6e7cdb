-- Data has at most 65,535 octets, so few words spell it.
use Rattle.dns_spec.proofs.Common.{◌≡◌, ℕ, zero, suc, ◌+◌, ◌*◌, ◌≤◌, Bool, true, false, max, nat_le, ◌&&◌, ◌==◌, List, [], ◌∷◌, length, replicate, Option, Some, None, refl, arith, MatchOption, MatchBool, list_all, flat_map, option_map, and_parts, leb-true, ltb-true, none-some, same_Some, eqb-true, length-append, is_ascii_hexdigit, Octets, DomainName, Field, TypeRow, type_table, row_of, strings, Word, SaysFields, word_fields, SaysTyped, SaysHex, SaysUnknown, hex_octets, is_hex_word, are_strings_alone, is_unknown_mark, Says}
use Rattle.dns_spec.proofs.DataWords.OneFault.{as_many_words}
use Rattle.dns_spec.proofs.General.Tests.{entry_passes}

-- each octet is two digits, and each word has at least two
hex_length : (text d : Octets) → hex_octets text ≡ Some d → length text ≡ 2 * length d
unfolding hex_octets
hex_length [] d e = grind (arith, same_Some)
hex_length (h ∷ []) d e = absurd (none-some d e)
hex_length (h ∷ l ∷ text) d e =
    by_digits (is_ascii_hexdigit h && is_ascii_hexdigit l) refl (hex_octets text) refl
    (hex_length text)
  where
    by_digits : (b : Bool) → (is_ascii_hexdigit h && is_ascii_hexdigit l) ≡ b
        → (o : Option Octets) → hex_octets text ≡ o
        → ((x : Octets) → hex_octets text ≡ Some x → length text ≡ 2 * length x)
        → length (h ∷ l ∷ text) ≡ 2 * length d
    by_digits false digits o is rest =
        let f : None ≡ Some d = rw digits at e in absurd (none-some d f)
    by_digits true digits None is rest =
        let f : None ≡ Some d = rw (digits, is) at e in absurd (none-some d f)
    by_digits true digits (Some x) is rest = grind arith

word_digits : (w : Word) → is_hex_word w ≡ true → 2 ≤ length w.raw
word_digits w h = grind (arith, and_parts, ltb-true, eqb-true)

hex_digits : (ws : List Word) → list_all is_hex_word ws ≡ true
    → 2 * length ws ≤ length (flat_map (λ (w : Word). w.raw) ws)
hex_digits [] h = omega arith
hex_digits (w ∷ ws) h =
    let parts = and_parts (is_hex_word w) (list_all is_hex_word ws) h in
    grind (arith, length-append, (word_digits w parts.0), (hex_digits ws parts.1))

few_hex : (ws : List Word) (d : Octets) → SaysHex ws d → length ws ≤ length d
few_hex ws d h = omega (arith, hex_digits ws h.0, hex_length _ d h.1)

few_unknown : (ws : List Word) (d : Octets)
    → SaysUnknown ws d → length ws ≤ 1 + length d
few_unknown [] d h = absurd h
few_unknown (w ∷ ws) d h = omega (arith, few_hex ws d h.2)

-- each string has its length octet
few_strings : (k : ℕ) (origin : DomainName) (ws : List Word) (d : Octets)
    → SaysFields (replicate k strings) origin ws d → length ws ≤ length d
few_strings zero origin [] d h = omega arith
few_strings zero origin (w ∷ ws) d h = absurd h
few_strings (suc k) origin [] d h = omega arith
few_strings (suc k) origin (w ∷ ws) d (front, back, is, said, h) =
    grind (arith, length-append, few_strings k origin ws back h)

few_fields : (k : ℕ) (fs : List Field) (origin : DomainName) (ws : List Word) (d : Octets)
    → nat_le (length fs) 7 ≡ true → length d ≤ 65535 → SaysFields (word_fields k fs) origin ws d
    → length ws ≤ 65535
few_fields k fs origin ws d short fits = by_kind (are_strings_alone fs) refl
  where
    by_kind : (b : Bool) → are_strings_alone fs ≡ b
        → SaysFields (word_fields k fs) origin ws d → length ws ≤ 65535
    by_kind true is h =
        let said : SaysFields (replicate (max 1 k) strings) origin ws d = rw is at h in
        omega (arith, few_strings _ origin ws d said, fits)
    by_kind false is h =
        let said : SaysFields fs origin ws d = rw is at h in
        omega (arith, as_many_words fs origin ws d said, leb-true (length fs) 7 short)

few_typed : (t : ℕ) (origin : DomainName) (ws : List Word) (d : Octets)
    → length d ≤ 65535 → SaysTyped t origin ws d → length ws ≤ 65535
few_typed t origin ws d fits h = by_row (row_of t) refl h
  where
    by_row : (o : Option TypeRow) → row_of t ≡ o
        → MatchOption (option_map (λ (row : TypeRow). word_fields (length ws) row.fields) o) ⊥
        (λ fs. SaysFields fs origin ws d) → length ws ≤ 65535
    by_row None is h = absurd h
    by_row (Some row) is h = few_fields (length ws) row.fields origin ws d
        (entry_passes (λ (row : TypeRow). row.number == t)
        (λ (row : TypeRow). nat_le (length row.fields) 7) type_table row is refl) fits h

-- the most words that spell data: `\#`, the length, and a word for each octet
pub few_words : (t : ℕ) (ws : List Word) (origin : DomainName) (d : Octets)
    → Says t ws origin d → length ws ≤ 65537
few_words t [] origin d h = omega arith
few_words t (w ∷ ws) origin d h =
    let fits = leb-true (length h.as_spelled) 65535 (and_parts _ _ h.is_valid).0 in
    by_mark fits (is_unknown_mark w) h.said
  where
    by_mark : length h.as_spelled ≤ 65535 → (b : Bool)
        → MatchBool b (SaysUnknown ws h.as_spelled) (SaysTyped t origin (w ∷ ws) h.as_spelled)
        → length (w ∷ ws) ≤ 65537
    by_mark fits true said = omega (arith, few_unknown ws h.as_spelled said, fits)
    by_mark fits false said = omega (arith, few_typed t origin (w ∷ ws) h.as_spelled fits said)
