-- Words separated by spaces, and strings in order.
use Rattle.dns_rdata.proofs.Common.{◌≡◌, ℕ, zero, suc, ◌+◌, ◌≤◌, true, List, [], ◌∷◌, ◌++◌, map, length, drop, replicate, refl, sym, ap, ◌∙◌, arith, append_assoc, append-nil, le-leb, false≢true, is_some, join_with_byte, Octets, string, strings, string_front, are_strings, Word, word_text, word_front, field_words, string_count, spaced}
use Rattle.dns_rdata.proofs.NameFronts.{strings_after}

abbrev pub space : Octets
space = 32 ∷ []

-- words joined by single spaces are what `spaced` gives
pub joined_words : (ws : List Word) → join_with_byte 32 (map word_text ws) ≡ spaced [] ws
joined_words [] = refl
joined_words (w ∷ []) = sym (append-nil (word_text w))
joined_words (w ∷ v ∷ ws) = ap (λ xs. word_text w ++ 32 ∷ xs) (joined_words (v ∷ ws))

one_more : (n : ℕ) → 1 + n ≡ suc n
one_more n = omega arith

-- if k octets of a string are left, the strings after these octets are counted
pub count_after : (k : ℕ) (d : Octets) → k ≤ length d → string_count k d ≡ string_count 0 (drop k d)
count_after zero d h = refl
count_after (suc k) [] h = absurd (omega arith)
count_after (suc k) (o ∷ d) h = count_after k d (omega (arith, h))

pub string_there : (k : ℕ) (d : Octets) → are_strings k d ≡ true → k ≤ length d
string_there zero d h = omega arith
string_there (suc k) [] h = absurd (false≢true h)
string_there (suc k) (o ∷ d) h = let fits = string_there k d h in omega (arith, fits)

-- strings that are not empty begin with a string
pub string_begins : (d : Octets)
    → are_strings 0 d ≡ true → (length d ≡ 0 → ⊥) → is_some (string_front d) ≡ true
string_begins d h h1 = grind (arith, le-leb, string_there)

pub more_strings : (d : Octets) → are_strings 0 d ≡ true
    → (length d ≡ 0 → ⊥) → are_strings 0 (word_front string d).1 ≡ true
more_strings d h h1 = grind (arith, strings_after, string_there)

pub spaced-strings : (before d : Octets) → are_strings 0 d ≡ true → (length d ≡ 0 → ⊥)
    → spaced before (field_words (replicate (string_count 0 d) strings) d)
    ≡ (before ++ word_text (word_front string d).0) ++ spaced space (field_words
    (replicate (string_count 0 (word_front string d).1) strings) (word_front string d).1)
spaced-strings before [] h some = absurd (some refl)
spaced-strings before (k ∷ d) h some = grind (arith, append_assoc, count_after, string_there)
