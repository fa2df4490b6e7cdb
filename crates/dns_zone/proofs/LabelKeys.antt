-- Labels are in the order of their keys. Labels with equal keys are in the order of what follows
-- the keys, or of the labels' lengths.
use Rattle.dns_zone.proofs.Common.{◌≡◌, ℕ, zero, suc, ◌+◌, ◌*◌, ◌^◌, ◌<◌, ◌≤◌, ◌⊎◌, inl, inr, [], ◌∷◌, ◌-◌, ◌/◌, add-one, drop-cons, map, length, drop, get_or, refl, sym, ap, ap₂, ◌∙◌, arith, Less, Greater, ordering_reverse, nat_cmp, mul-le-mul_right, one-le-pow, cases_lt, cases_order, nat_list_cmp_total, to_ascii_lowercase, nat_cmp_is, Octets, DomainName, folded, label_order, lowercase_is, IsEight, key_of, first_of}
use Rattle.std.proofs.Math.Nat.{add-mul, mul_assoc}
use Rattle.std.proofs.lemmas.Nat.{pow-add}
use Rattle.dns_spec.proofs.General.Numbers.{lesser_parts}
use Rattle.dns_spec.proofs.Common.{same_from_place}
use Rattle.std.specs.Int.{from_be_bytes}
use Rattle.std.proofs.Common.{w64}

abbrev Low : Octets → Type 0
Low a = (i : ℕ) → get_or a i 0 < 256

rest_low : (x : ℕ) (a : Octets) → Low (x ∷ a) → Low a
rest_low x a low = λ i. low (suc i)

pub key_low : (n : ℕ) (a : Octets) → Low a → key_of n a < 256 ^ n
unfolding key_of
key_low zero a low = omega arith
key_low (suc n) [] low = omega (arith, one-le-pow (suc n) 256 (omega arith))
key_low (suc n) (x ∷ a) low =
    let first : x ≤ 255 = let h = low 0 in omega arith in
    omega (arith, key_low n a (rest_low x a low), mul-le-mul_right (256 ^ n) first)

-- labels with an equal first octet
same_head : (x y : ℕ) (a b : Octets) → x ≡ y → label_order (x ∷ a) (y ∷ b) ≡ label_order a b
same_head x y a b e = grind arith

lesser : (n : ℕ) (a b : Octets) → Low a → Low b → key_of n a < key_of n b → label_order a b ≡ Less
unfolding key_of
lesser zero a b v w h = absurd (omega arith)
lesser (suc n) a [] v w h = absurd (omega arith)
lesser (suc n) [] (y ∷ b) v w h = refl
lesser (suc n) (x ∷ a) (y ∷ b) v w h =
    let first = lesser_parts (256 ^ n) x y (key_of n a) (key_of n b)
    (key_low n a (rest_low x a v)) (key_low n b (rest_low y b w)) h in
    let rest = lesser n a b (rest_low x a v) (rest_low y b w) in
    grind (arith, (first), (rest), same_head)

alike : (n x y : ℕ) (a b : Octets) → Low (x ∷ a) → Low (y ∷ b)
    → key_of (suc n) (x ∷ a) ≡ key_of (suc n) (y ∷ b) → (x ≡ y) × (key_of n a ≡ key_of n b)
unfolding key_of
alike n x y a b v w h =
    same_from_place x (key_of n a) y (key_of n b) (256 ^ n) (key_low n a (rest_low x a v))
    (key_low n b (rest_low y b w)) h

one_more : (j k : ℕ) → nat_cmp (suc j) (suc k) ≡ nat_cmp j k
one_more j k = grind (arith, cases_order)

-- if keys are equal, a label with no octets beyond its key is a prefix of the other label
lengths : (n : ℕ) (a b : Octets) → Low a → Low b → key_of n a ≡ key_of n b
    → (length a ≤ n) ⊎ (length b ≤ n) → nat_cmp (length a) (length b) ≡ label_order a b
lengths n [] [] v w h s = refl
lengths n [] (y ∷ b) v w h s = sym (nat_cmp_is 0 (length (y ∷ b)) Less (omega arith))
lengths n (x ∷ a) [] v w h s = sym (nat_cmp_is (length (x ∷ a)) 0 Greater (omega arith))
lengths zero (x ∷ a) (y ∷ b) v w h s = grind arith
lengths (suc n) (x ∷ a) (y ∷ b) v w h s =
    let e = alike n x y a b v w h in
    one_more (length a) (length b)
    ∙ lengths n a b (rest_low x a v) (rest_low y b w) e.1 (fewer s)
    ∙ sym (same_head x y a b e.0)
  where
    fewer : (length (x ∷ a) ≤ suc n) ⊎ (length (y ∷ b) ≤ suc n) → (length a ≤ n) ⊎ (length b ≤ n)
    fewer t = grind (arith, inl, inr)

rests : (n : ℕ) (a b : Octets) → Low a → Low b → key_of n a ≡ key_of n b → n ≤ length a
    → n ≤ length b → label_order (drop n a) (drop n b) ≡ label_order a b
rests zero a b v w h l m = refl
rests (suc n) [] b v w h l m = absurd (omega arith)
rests (suc n) (x ∷ a) [] v w h l m = absurd (omega arith)
rests (suc n) (x ∷ a) (y ∷ b) v w h l m =
    let e = alike n x y a b v w h in
    rests n a b (rest_low x a v) (rest_low y b w) e.1 (omega arith) (omega arith)
    ∙ sym (same_head x y a b e.0)

lesser_front : {j k : ℕ} {a b : Octets} → IsEight j a → IsEight k b → j < k
    → label_order a b ≡ Less
lesser_front {j} {k} {a} {b} p q h = grind (arith, lesser)

pub front_order : {j k : ℕ} {a b : Octets} → IsEight j a → IsEight k b → (j ≡ k → ⊥)
    → nat_cmp j k ≡ label_order a b
front_order {j} {k} {a} {b} p q n = grind (arith, cases_order, lesser_front, nat_list_cmp_total)

-- the key of no octets is 0
key_none : (n : ℕ) → key_of n [] ≡ 0
unfolding key_of
key_none n = grind arith

-- the key of n + m octets, from the key of the first n and of the next m
key_more : (n m : ℕ) (a : Octets) → key_of (n + m) a ≡ key_of n a * 256 ^ m + key_of m (drop n a)
unfolding key_of
key_more zero m a =
    let none : 0 + m ≡ m = omega arith in
    let first : key_of m a ≡ 0 * 256 ^ m + key_of m a = omega arith in
    ap (λ k. key_of k a) none ∙ first
key_more (suc n) m [] = grind (arith, key_none)
key_more (suc n) m (x ∷ a) =
    let one_more : suc n + m ≡ suc (n + m) = omega arith in
    let worth = 256 ^ m in
    let k = key_of n a in
    let shifted : x * (256 ^ n * worth) ≡ x * 256 ^ n * worth = sym (mul_assoc x (256 ^ n) worth) in
    ap (λ k. key_of k (x ∷ a)) one_more
    ∙ ap₂ (λ p r. x * p + r) (pow-add 256 n m) (key_more n m a)
    ∙ omega (arith, shifted, add-mul (x * 256 ^ n) k worth)

key_both : {j k : ℕ} {a : Octets} → IsEight j a → IsEight k (drop 8 a)
    → key_of 16 a ≡ j * 256 ^ 8 + k
key_both {j} {k} {a} p q =
    key_more 8 8 a ∙ ap₂ (λ x y. x * 256 ^ 8 + y) (sym p.value) (sym q.value)

lesser_next : {k i j : ℕ} {a b : Octets} → IsEight k a → IsEight k b → IsEight i (drop 8 a)
    → IsEight j (drop 8 b) → i < j → label_order a b ≡ Less
lesser_next {k} {i} {j} {a} {b} p q v w h =
    lesser 16 a b p.low q.low (omega (arith, key_both p v, key_both q w))

pub next_order : {k i j : ℕ} {a b : Octets} → IsEight k a → IsEight k b → IsEight i (drop 8 a)
    → IsEight j (drop 8 b) → (i ≡ j → ⊥) → nat_cmp i j ≡ label_order a b
next_order {k} {i} {j} {a} {b} p q v w n = elim (cases_order i j) [
  | inl e ↦ absurd (n e)
  | inr h ↦ elim h [
    | inl l ↦ sym (nat_cmp_is i j Less l) ∙ sym (lesser_next p q v w l)
    | inr m ↦ sym (nat_cmp_is i j Greater m) ∙ sym (nat_list_cmp_total.antisymm a b
        ∙ ap ordering_reverse (lesser_next q p w v m))
  ]
]

module _ {k j : ℕ} {a b : Octets} (p : IsEight k a) (q : IsEight k b)
    (v : IsEight j (drop 8 a)) (w : IsEight j (drop 8 b)) where
  same : key_of 16 a ≡ key_of 16 b
  same = key_both p v ∙ sym (key_both q w)

  pub by_length : (length a ≤ 16) ⊎ (length b ≤ 16)
      → nat_cmp (length a) (length b) ≡ label_order a b
  by_length s = lengths 16 a b p.low q.low same s

  pub after_key : 16 ≤ length a → 16 ≤ length b
      → label_order (drop 16 a) (drop 16 b) ≡ label_order a b
  after_key l m = rests 16 a b p.low q.low same l m

-- the first label of a name in lower case is in lower case
pub first_lower : (n : DomainName) → folded n ≡ n → map to_ascii_lowercase (first_of n) ≡ first_of n
first_lower n h = grind arith

lower_low : (x : ℕ) → x < 256 → to_ascii_lowercase x < 256
lower_low x h = grind (arith, cases_lt, lowercase_is)

pub label_low : (l : Octets) → Low l → Low (map to_ascii_lowercase l)
label_low [] low i = low i
label_low (x ∷ l) low zero = lower_low x (low 0)
label_low (x ∷ l) low (suc i) = label_low l (rest_low x l low) i

pub key_end : (n : ℕ) (l : Octets) → (n ≡ 0) ⊎ (l ≡ []) → key_of n l ≡ 0
unfolding key_of
key_end n l h = grind (arith, key_none)

-- the whole key is `key`, from the first i octets, plus what the remaining octets add
pub record IsPart (l : Octets) (i key worth : ℕ) : Type 0 where
  pub value : key_of 8 l ≡ key + key_of (8 - i) (drop i l)
  pub counts : worth ≡ 256 ^ (8 - i) / 256

module _ (l : Octets) (i key worth : ℕ) (inside : i < length l) (few : i < 8)
    (part : IsPart l i key worth) where
  places : 8 - i ≡ suc (8 - (i + 1))
  places = omega arith

  pub worth_is : worth ≡ 256 ^ (8 - (i + 1))
  worth_is = omega (arith, part.counts, ap (λ k. 256 ^ k / 256) places)

  step : key_of (8 - i) (drop i l)
      ≡ get_or l i 0 * 256 ^ (8 - (i + 1)) + key_of (8 - (i + 1)) (drop (i + 1) l)
  unfolding key_of
  step = grind (arith, places, drop-cons, add-one)

  grown : key_of 8 l ≡ (key + get_or l i 0 * worth) + key_of (8 - (i + 1)) (drop (i + 1) l)
  grown = omega (arith, part.value, step, ap (λ k. get_or l i 0 * k) worth_is)

  pub key_fits : Low l → key + get_or l i 0 * worth < 2 ^ 64
  key_fits low = omega (arith, grown, key_low 8 l low)

  pub one_octet : IsPart l (i + 1) (key + get_or l i 0 * worth) (worth / 256)
  one_octet = grind (arith, grown, worth_is)

one_digit : (n i : ℕ) (a : Octets)
    → key_of (suc n) (drop i a) ≡ get_or a i 0 * 256 ^ n + key_of n (drop (suc i) a)
unfolding key_of
one_digit n zero [] = grind (arith, key_none)
one_digit n zero (x ∷ a) = refl
one_digit n (suc i) [] = grind (arith, key_none)
one_digit n (suc i) (x ∷ a) = one_digit n i a

-- the number of eight bytes that are the first octets, padded with 0
pub of_bytes : (a bs : Octets) (k : ℕ) → k ≡ from_be_bytes w64 bs
    → ((i : ℕ) → i < 8 → get_or bs i 0 ≡ get_or a i 0) → k ≡ key_of 8 a
unfolding key_of
of_bytes a bs k e h =
    omega (
      arith,
      e,
      h 0 (omega arith),
      h 1 (omega arith),
      h 2 (omega arith),
      h 3 (omega arith),
      h 4 (omega arith),
      h 5 (omega arith),
      h 6 (omega arith),
      h 7 (omega arith),
      one_digit 7 0 a,
      one_digit 6 1 a,
      one_digit 5 2 a,
      one_digit 4 3 a,
      one_digit 3 4 a,
      one_digit 2 5 a,
      one_digit 1 6 a,
      one_digit 0 7 a,
    )
