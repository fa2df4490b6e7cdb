-- What is written for numbers, addresses, names and strings contains no octet that ends the word.
use Rattle.dns_spec.proofs.Common.{◌≡◌, ℕ, ◌+◌, ◌<◌, ◌^◌, Bool, true, false, List, [], ◌∷◌, ◌++◌, map, refl, arith, append_assoc, decimal, rules, agree_below_at, decimal_is_IsNumeral, flat_map, join_with_byte, AllDigits, Octets, DomainName, is_special, three_digits, octet_text, label_text, labels_text, ipv4_text, is_word_octet, is_ascii_graphic, digit_char, string_octet_text, is_unbroken, is_quotable, AllByRecursion, ◌==◌, cases_Bool, inl, true≢false, eqb-true, inr}
use Rattle.dns_spec.proofs.DomainNames.SmallOctets.{Small, small_head, small_tail}

-- octets that do not end a word
abbrev pub Bare : Octets → Type 0
Bare = AllByRecursion (λ o. is_word_octet o ≡ true)

pub bare_append : (x y : Octets) → Bare x → Bare y → Bare (x ++ y)
bare_append [] y h k = k
bare_append (o ∷ x) y h k = (h.0, bare_append x y h.1 k)

-- texts whose octets do not end a word, joined by an octet that does not end a word
pub bare_joined : (c : ℕ) (f : ℕ → Octets) (xs : List ℕ)
    → is_word_octet c ≡ true → AllByRecursion (λ x. Bare (f x)) xs
    → Bare (join_with_byte c (map f xs))
bare_joined c f [] between each = tt
bare_joined c f (x ∷ []) between each = each.0
bare_joined c f (x ∷ y ∷ xs) between each = bare_append (f x) (c ∷ join_with_byte c
    (map f (y ∷ xs))) each.0 (between, bare_joined c f (y ∷ xs) between each.1)

bare_digits : (ds : Octets) → AllDigits 10 ds → Bare ds
bare_digits [] all = tt
bare_digits (c ∷ ds) all = grind (arith, (bare_digits ds all.1))

pub bare_decimal : (n : ℕ) → n < 2 ^ 64 → Bare (decimal n)
bare_decimal n small = bare_digits (decimal n) (decimal_is_IsNumeral n small).0.1

bare_decimals : (d : Octets) → Small d → AllByRecursion (λ o. Bare (decimal o)) d
bare_decimals [] small = tt
bare_decimals (o ∷ d) small =
    (bare_decimal o (omega (arith, small_head o d small)), bare_decimals d (small_tail o d small))

pub bare_ipv4 : (d : Octets) → Small d → Bare (ipv4_text d)
bare_ipv4 d small = bare_joined 46 decimal d refl (bare_decimals d small)

pub bare_hex : (ds : List ℕ) → AllByRecursion (λ d. d < 16) ds → Bare (map digit_char ds)
bare_hex [] below = tt
bare_hex (d ∷ ds) below = grind (arith, agree_below_at, (bare_hex ds below.1))

-- if p does not accept the backslash, an octet that p accepts is not a backslash
pub no_backslash : (p : ℕ → Bool) (o : ℕ) → p 92 ≡ false → p o ≡ true → (o == 92) ≡ false
no_backslash p o none h = grind (arith, cases_Bool, inl, true≢false, eqb-true, inr)

pub bare_text : (x rest : Octets)
    → Bare x → is_unbroken is_word_octet rest ≡ true → is_unbroken is_word_octet (x ++ rest) ≡ true
bare_text [] rest h after = after
bare_text (o ∷ x) rest h after = grind (arith, no_backslash, (bare_text x rest h.1 after))

digits_octet : (p : ℕ → Bool) (x : ℕ) (rest : Octets)
    → ((e : ℕ) → e < 10 → p (48 + e) ≡ true) → p 92 ≡ false
    → x < 256 → is_unbroken p rest ≡ true → is_unbroken p (92 ∷ three_digits x ++ rest) ≡ true
digits_octet p x rest digit none small after = grind arith

bare_below_10 : (e : ℕ) → e < 10 → is_word_octet (48 + e) ≡ true
bare_below_10 e small = agree_below_at (λ d. is_word_octet (48 + d)) (λ d. true) 10 e refl small

special_graphic : (x : ℕ) → x < 256 → is_special x ≡ true → is_ascii_graphic x ≡ true
special_graphic x small special = grind arith

octet_unbroken : (x : ℕ) (rest : Octets) → x < 256 → is_unbroken is_word_octet rest ≡ true
    → is_unbroken is_word_octet (octet_text x ++ rest) ≡ true
unfolding octet_text
octet_unbroken x rest small after = grind (arith, special_graphic, digits_octet, bare_below_10)

label_unbroken : (l rest : Octets) → Small l → is_unbroken is_word_octet rest ≡ true
    → is_unbroken is_word_octet (label_text l ++ rest) ≡ true
label_unbroken [] rest small after = after
label_unbroken (x ∷ l) rest small after =
    let others = label_unbroken l rest (small_tail x l small) after in
    search (rules, append_assoc, octet_unbroken, small_head, others)

pub labels_unbroken : (n : DomainName)
    → AllByRecursion Small n → is_unbroken is_word_octet (labels_text n) ≡ true
labels_unbroken [] small = refl
labels_unbroken (l ∷ n) small =
    grind (arith, append_assoc, label_unbroken, (labels_unbroken n small.1))

string_octet_unbroken : (o : ℕ) (rest : Octets) → o < 256 → is_unbroken is_quotable rest ≡ true
    → is_unbroken is_quotable (string_octet_text o ++ rest) ≡ true
string_octet_unbroken o rest small after = search (rules, digits_octet)

pub string_unbroken : (s : Octets)
    → Small s → is_unbroken is_quotable (flat_map string_octet_text s) ≡ true
string_unbroken [] small = refl
string_unbroken (o ∷ s) small = string_octet_unbroken o
    (flat_map string_octet_text s) (small_head o s small) (string_unbroken s (small_tail o s small))
