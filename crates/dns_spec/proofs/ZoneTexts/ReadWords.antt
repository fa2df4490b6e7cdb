-- A word that is written, followed by something that ends it, is read as that word.
use Rattle.dns_spec.proofs.Common.{common_steps, ◌≡◌, ℕ, suc, Bool, true, ◌||◌, ◌==◌, Some, [], ◌∷◌, ◌++◌, length, take, drop, nat_lt, refl, ◌∙◌, ap, arith, append_assoc, take-append_seam, drop-append_seam, false≢true, eqb-true, and_parts, false_from_ne_true, if◌then◌else◌, prefix_len, Octets, Word, is_word_octet, is_string_octet, word_text, is_unbroken, stands_alone, Token, blank, word, quoted_string, is_blank, run_length, word_length, unquoted_front, token_front}
use Rattle.dns_spec.proofs.DataWords.WordRuns.{Runs}
use Rattle.dns_spec.proofs.DataWords.StandingWords.{TakenWhole}

-- octets that an unquoted word may begin with
abbrev begins_word : ℕ → Bool
begins_word o = o == 92 || is_word_octet o

word_reached : (o : ℕ) (text : Octets)
    → begins_word o ≡ true → token_front (o ∷ text) ≡ unquoted_front (o ∷ text)
word_reached o text begins = grind arith

pub front_taken : (n : ℕ) (text : Octets) → word_length text ≡ suc n
    → unquoted_front text ≡ Some (word (take (suc n) text), drop (suc n) text)
front_taken n text e = grind (arith, false_from_ne_true, eqb-true)

-- the token of a word
abbrev pub word_token : Word → Token
word_token w = if w.is_quoted then quoted_string w.raw else word w.raw

first_begins : (o : ℕ) (raw : Octets)
    → is_unbroken is_word_octet (o ∷ raw) ≡ true → begins_word o ≡ true
first_begins o raw h = grind arith

bare_read : (raw : Octets) (c : ℕ) (rest : Octets)
    → nat_lt 0 (length raw) ≡ true → is_unbroken is_word_octet raw ≡ true → Runs is_word_octet raw
    → word_length (c ∷ rest) ≡ 0 → token_front (raw ++ c ∷ rest) ≡ Some (word raw, c ∷ rest)
bare_read [] c rest some unbroken whole ends = absurd (false≢true some)
bare_read (o ∷ raw) c rest some unbroken whole ends =
    let text = (o ∷ raw) ++ c ∷ rest in
    let long : word_length text ≡ suc (length raw) = whole (c ∷ rest) ∙ omega (arith, ends) in
    word_reached o (raw ++ c ∷ rest) (first_begins o raw unbroken)
    ∙ front_taken (length raw) text long
    ∙ ap (λ x. Some (word x, drop (length (o ∷ raw)) text)) (take-append_seam (o ∷ raw) (c ∷ rest))
    ∙ ap (λ x. Some (word (o ∷ raw), x)) (drop-append_seam (o ∷ raw) (c ∷ rest))

string_read : (raw rest : Octets) → Runs is_string_octet raw
    → token_front (34 ∷ (raw ++ 34 ∷ rest)) ≡ Some (quoted_string raw, rest)
unfolding run_length
string_read raw rest whole = grind (arith, common_steps, take-append_seam, drop-append_seam)

-- the octet c ends a word
pub word_read : (w : Word) (c : ℕ) (rest : Octets)
    → stands_alone w ≡ true → TakenWhole w → word_length (c ∷ rest) ≡ 0
    → token_front (word_text w ++ c ∷ rest) ≡ Some (word_token w, c ∷ rest)
word_read w c rest alone whole ends = grind (arith, append_assoc, string_read, and_parts, bare_read)

-- a word does not begin with a blank
pub no_blank : (w : Word) (rest : Octets)
    → stands_alone w ≡ true → prefix_len is_blank (word_text w ++ rest) ≡ 0
no_blank w rest alone = grind (arith, eqb-true)

-- a space, followed by something that is not a blank
pub blank_read : (text : Octets)
    → prefix_len is_blank text ≡ 0 → token_front (32 ∷ text) ≡ Some (blank, text)
blank_read text none = ap (λ k. Some (blank, drop k text)) none

pub space_ends : (rest : Octets) → word_length (32 ∷ rest) ≡ 0
unfolding run_length
space_ends rest = refl

pub line_ends : (rest : Octets) → word_length (10 ∷ rest) ≡ 0
unfolding run_length
line_ends rest = refl
