-- Which of the words after `\\#` is at fault.
use Rattle.std.specs.Prelude.{◌≡◌, ℕ, ◌+◌, ◌≤◌, ◌%◌, Bool, true, false, not, ◌==◌, List, [], ◌∷◌, length, decimal, ◌↔◌, Result, IfErr}
use Rattle.std.specs.Prelude.{Option, None, Some}
use Rattle.std.specs.List.{list_all, position, prefix_len, flat_map}
use Rattle.std.specs.Option.{is_some, is_none}
use Rattle.std.specs.Char.{is_ascii_hexdigit}
use Rattle.dns_spec.specs.DataText.{Word, is_hex_word, SaysUnknown, hex_octets}
use Rattle.dns_spec.specs.AllFaults.{FaultyUnknown, StatesLength, is_hex}
use Rattle.dns_rdata.proofs.Common.{refl, sym, ap, ◌∙◌, arith, and_parts, and_from, eqb-true, flat_map-cons, inr, none-some, same_Some, true≢false}
use Rattle.dns_spec.proofs.Common.{list_all-append}
use Rattle.dns_rdata.proofs.HexLemmas.{even_digits, hex_tested}

-- the first item that fails a test is found, or there is none
first_failed : {X : Type 0} (p : X → Bool) (xs : List X) (i : ℕ)
    → position (λ x. not (p x)) xs ≡ Some i → (list_all p xs ≡ false) × (prefix_len p xs ≡ i)
first_failed p [] i e = absurd (none-some i e)
first_failed p (x ∷ xs) i e =
    next (p x) refl (position (λ y. not (p y)) xs) refl (first_failed p xs)
  where
    next : (b : Bool) → p x ≡ b → (r : Option ℕ) → position (λ y. not (p y)) xs ≡ r
        → ((k : ℕ) → position (λ y. not (p y)) xs ≡ Some k
        → (list_all p xs ≡ false) × (prefix_len p xs ≡ k))
        → (list_all p (x ∷ xs) ≡ false) × (prefix_len p (x ∷ xs) ≡ i)
    next false is r found later = grind (arith, same_Some)
    next true is None found later = grind (arith, none-some)
    next true is (Some k) found later = let rest = later k found in grind (arith, same_Some)

none_failed : {X : Type 0} (p : X → Bool) (xs : List X)
    → position (λ x. not (p x)) xs ≡ None → list_all p xs ≡ true
none_failed p [] e = refl
none_failed p (x ∷ xs) e = grind (arith, none-some, (none_failed p xs))

module _ (w : Word) (ws : List Word) (n : ℕ) (states : StatesLength w n) where
  -- a word is not hex, the first such word after the length
  pub word_not_hex : (i : ℕ) → position (λ v. not (is_hex v)) ws ≡ Some i
      → FaultyUnknown (w ∷ ws) (i + 2)
  word_not_hex i found =
      let first = first_failed is_hex ws i found in
      inr (n, states, rw first.0 (omega (arith, first.1)))

  -- all words after the length are hex
  pub all_hex : position (λ v. not (is_hex v)) ws ≡ None → FaultyUnknown (w ∷ ws) 0
  all_hex found = inr (n, states, rw (none_failed is_hex ws found) refl)

hexes : (ws : List Word) → list_all is_hex_word ws ≡ true
    → list_all is_ascii_hexdigit (flat_map (λ (v : Word). v.raw) ws) ≡ true
    → list_all is_hex ws ≡ true
hexes [] even digits = refl
hexes (w ∷ ws) even digits =
    let words = and_parts (is_hex_word w) (list_all is_hex_word ws) even in
    let split = sym (list_all-append is_ascii_hexdigit w.raw
    (flat_map (λ (v : Word). v.raw) ws))
    ∙ ap (list_all is_ascii_hexdigit) (sym (flat_map-cons (λ (v : Word). v.raw) w ws)) ∙ digits in
    let both = and_parts (list_all is_ascii_hexdigit w.raw)
    (list_all is_ascii_hexdigit (flat_map (λ (v : Word). v.raw) ws)) split in
    let two = eqb-true (length w.raw % 2) 0 (and_parts _ (length w.raw % 2 == 0) words.0).1 in
    and_from (is_hex w) (list_all is_hex ws)
    (and_from (is_hex_word w) (is_some (hex_octets w.raw)) words.0
    (hex_tested w.raw two ∙ both.0)) (hexes ws words.1 both.1)

-- words that spell octets, which are invalid for the type, are at fault from `\\#` on
pub said_at : (ws : List Word) (d : List ℕ) → SaysUnknown ws d → length d ≤ 65535
    → FaultyUnknown ws 0
said_at [] d h few = absurd h
said_at (w ∷ ws) d (bare, is, (even, spelled)) few =
    let raws = flat_map (λ (v : Word). v.raw) ws in
    let digits = sym (hex_tested raws (even_digits raws d spelled)) ∙ ap is_some spelled in
    inr (length d, (bare, is, few), rw (hexes ws even digits) refl)

-- a word that a number up to 65,535 was read from
pub stated : (w : Word) (raw : List ℕ) (r : Option ℕ) → raw ≡ w.raw → not w.is_quoted ≡ true
    → is_none r ≡ false → ((n : ℕ) → (r ≡ Some n) ↔ ((raw ≡ decimal n) × (n ≤ 65535)))
    → (n : ℕ) × StatesLength w n
stated w raw None same bare some reads = absurd (true≢false some)
stated w raw (Some n) same bare some reads =
    let said = (reads n).0 refl in (n, (bare, sym same ∙ said.0, said.1))

pub each_fault : {A F : Type 0} (r : Result A F) (P : F → Type 0) → ((f : F) → P f) → IfErr r P
each_fault r P h = grind arith
