-- Laws of names: their wire forms determine them, folding keeps lengths, and `at_or_below` is
-- decided label by label.
use Rattle.dns_spec.proofs.Common.{common_steps, ◌≡◌, ℕ, zero, suc, ◌+◌, ◌*◌, ◌-◌, ◌<◌, ◌≤◌, true, false, ◌||◌, ◌⊎◌, [], ◌∷◌, ◌++◌, length, take, drop, map, nat_le, refl, sym, ◌∙◌, ap, arith, inl, inr, length-append, rules, take_at, drop_at, length-map, map-append, list_all, to_ascii_lowercase, Octets, DomainName, wire, is_label, is_name, folded, octets_equal, names_equal, same, at_or_below, and_parts, and_from, and_left, leb-true, le-leb, lt-leb, ltb-true, lt-ltb, eqb-true, eq-eqb, cases_order, false_from_ne_true, pointwise_decides}

-- what `is_label` means
pub record IsLabel (l : Octets) : Type 0 where
  pub some : 0 < length l
  pub fits : length l ≤ 63

pub IsLabel-is_label : (l : Octets) → is_label l ≡ true → IsLabel l
IsLabel-is_label l ok = grind (arith, and_parts, ltb-true, leb-true)

pub is_label-IsLabel : (l : Octets) → 0 < length l → length l ≤ 63 → is_label l ≡ true
is_label-IsLabel l some fits = and_from _ _ (lt-ltb _ _ some) (le-leb _ _ fits)

-- what `is_name` means
pub record IsName (n : DomainName) : Type 0 where
  pub labels : list_all is_label n ≡ true
  pub fits : length (wire n) ≤ 255

pub IsName-is_name : (n : DomainName) → is_name n ≡ true → IsName n
IsName-is_name n ok = grind (arith, and_parts, leb-true)

pub is_name-IsName : (n : DomainName)
    → list_all is_label n ≡ true → length (wire n) ≤ 255 → is_name n ≡ true
is_name-IsName n labels fits = and_from _ _ labels (le-leb _ _ fits)

-- a name without its first label is a name
pub is_name-tail : (l : Octets) (n : DomainName) → is_name (l ∷ n) ≡ true → is_name n ≡ true
is_name-tail l n ok = grind (arith, IsName-is_name, is_name-IsName, and_parts, length-append)

-- the first label of a name is a valid label
pub is_label-head : (l : Octets) (n : DomainName) → is_name (l ∷ n) ≡ true → is_label l ≡ true
is_label-head l n ok = (and_parts (is_label l) _ (IsName-is_name (l ∷ n) ok).labels).0

pub length-wire-push : (n : DomainName) (l : Octets)
    → length (wire (n ++ l ∷ [])) ≡ length (wire n) + 1 + length l
length-wire-push [] l = omega (arith, length-append l (0 ∷ []))
length-wire-push (k ∷ n) l = grind (arith, length-append, (length-wire-push n l))

-- a name with a label added at its end is a name, if it has at most 255 octets on the wire
pub is_name-push : (n : DomainName) (l : Octets) → is_name n ≡ true
    → is_label l ≡ true → length (wire (n ++ l ∷ [])) ≤ 255 → is_name (n ++ l ∷ []) ≡ true
is_name-push n l ok is_l fits = grind (arith, common_steps)

-- the wire form of a name determines it
pub wire-injective : (n m : DomainName)
    → is_name n ≡ true → is_name m ≡ true → wire n ≡ wire m → n ≡ m
wire-injective [] [] p q e = refl
wire-injective [] (k ∷ m) p q e = grind (arith, IsLabel-is_label, is_label-head)
wire-injective (l ∷ n) [] p q e = grind (arith, IsLabel-is_label, is_label-head)
wire-injective (l ∷ n) (k ∷ m) p q e =
    let as_long : length l ≡ length k = cc in
    let after : l ++ wire n ≡ k ++ wire m = cc in
    let first : l ≡ k = sym (take_at l (wire n) _ as_long)
    ∙ ap (take (length k)) after ∙ take_at k (wire m) _ refl in
    let rest : wire n ≡ wire m = sym (drop_at l (wire n) _ as_long)
    ∙ ap (drop (length k)) after ∙ drop_at k (wire m) _ refl in
    let others : n ≡ m = wire-injective n m (is_name-tail l n p) (is_name-tail k m q) rest in
    cc

-- the tests `octets_equal` and `names_equal` decide equality
pub octets_equal-decides : (xs ys : Octets)
    → (octets_equal xs ys ≡ true → xs ≡ ys) × (xs ≡ ys → octets_equal xs ys ≡ true)
octets_equal-decides = pointwise_decides (λ x y. (eqb-true x y, eq-eqb x y))

pub names_equal-decides : (n m : DomainName)
    → (names_equal n m ≡ true → n ≡ m) × (n ≡ m → names_equal n m ≡ true)
names_equal-decides = pointwise_decides octets_equal-decides

-- lengths on the wire are not letters, so folding leaves them unchanged
pub map-lowercase-wire : (n : DomainName)
    → list_all is_label n ≡ true → map to_ascii_lowercase (wire n) ≡ wire (folded n)
map-lowercase-wire [] ok = refl
map-lowercase-wire (l ∷ n) ok =
    grind (arith, length-map, map-append, (map-lowercase-wire n (and_parts (is_label l) _ ok).1))

pub length-wire-folded : (n : DomainName) → length (wire (folded n)) ≡ length (wire n)
length-wire-folded [] = refl
length-wire-folded (l ∷ n) = grind (arith, length-map, length-append, (length-wire-folded n))

all_folded : (n : DomainName) → list_all is_label n ≡ true → list_all is_label (folded n) ≡ true
all_folded [] ok = refl
all_folded (l ∷ n) ok = grind (arith, length-map, (all_folded n (and_parts (is_label l) _ ok).1))

-- a folded name is a name
pub is_name-folded : (n : DomainName) → is_name n ≡ true → is_name (folded n) ≡ true
is_name-folded n ok = grind (arith, IsName-is_name, is_name-IsName, all_folded, length-wire-folded)

-- two names are the same if their folded wire forms are
pub same-wire : (n m : DomainName) → is_name n ≡ true → is_name m ≡ true
    → (same n m ≡ true → map to_ascii_lowercase (wire n) ≡ map to_ascii_lowercase (wire m))
    × (map to_ascii_lowercase (wire n) ≡ map to_ascii_lowercase (wire m) → same n m ≡ true)
same-wire n m p q =
    grind (arith, map-lowercase-wire, names_equal-decides, wire-injective, is_name-folded)

pub same-length : (n m : DomainName) → same n m ≡ true → length n ≡ length m
same-length n m h = grind (arith, names_equal-decides, length-map)

pub same-length-wire : (n m : DomainName) → same n m ≡ true → length (wire n) ≡ length (wire m)
same-length-wire n m h =
    let e : length (wire (folded n)) ≡ length (wire (folded m)) =
    ap (λ k. length (wire k)) ((names_equal-decides (folded n) (folded m)).0 h) in
    omega (arith, length-wire-folded n, length-wire-folded m)

-- a name is at or below another name if it is the same name, or if the rest after its first label
-- is at or below the other name
pub at_or_below-cons : (l : Octets) (n a : DomainName)
    → at_or_below (l ∷ n) a ≡ (same (l ∷ n) a || at_or_below n a)
at_or_below-cons l n a = by_length (cases_order (length a) (suc (length n)))
  where
    other_length : (length (l ∷ n) ≡ length a → ⊥) → same (l ∷ n) a ≡ false
    other_length differ = false_from_ne_true _ (λ h. differ (same-length (l ∷ n) a h))

    by_length : (length a ≡ suc (length n)) ⊎ ((length a < suc (length n))
        ⊎ (suc (length n) < length a)) → at_or_below (l ∷ n) a ≡ (same (l ∷ n) a || at_or_below n a)
    by_length (inl e) = grind arith
    by_length (inr (inl h)) =
        let fits : nat_le (length a) (suc (length n)) ≡ true = le-leb _ _ (omega arith) in
        let fits_others : nat_le (length a) (length n) ≡ true = le-leb _ _ (omega arith) in
        let skipped : suc (length n) - length a ≡ suc (length n - length a) = omega arith in
        let differ : same (l ∷ n) a ≡ false = other_length (λ e. absurd (omega arith)) in
        rw (fits, skipped, differ, fits_others) refl
    by_length (inr (inr h)) = grind (arith, lt-leb, other_length)

length-wire-drop : (k : ℕ) (n : DomainName) → length (wire (drop k n)) ≤ length (wire n)
length-wire-drop zero n = omega arith
length-wire-drop (suc k) [] = omega arith
length-wire-drop (suc k) (l ∷ n) = omega (arith, length-wire-drop k n, length-append l (wire n))

-- a name is at least as long on the wire as any name that it is at or below
pub at_or_below-length-wire : (n a : DomainName)
    → at_or_below n a ≡ true → length (wire a) ≤ length (wire n)
at_or_below-length-wire n a h = grind (arith, same-length-wire, and_parts, length-wire-drop)

-- if n is not longer on the wire than a, n is at or below a only if n and a are the same
pub at_or_below-short : (n a : DomainName)
    → length (wire n) ≤ length (wire a) → at_or_below n a ≡ same n a
at_or_below-short [] [] h = refl
at_or_below-short [] (k ∷ a) h = and_left _ _ (lt-leb (suc (length a)) 0 (omega arith))
at_or_below-short (l ∷ n) a h =
    grind (arith, at_or_below-length-wire, length-append, at_or_below-cons)

-- if a name is longer on the wire than a, its first label does not matter
pub at_or_below-long : (l : Octets) (n a : DomainName)
    → length (wire a) < length (wire (l ∷ n)) → at_or_below (l ∷ n) a ≡ at_or_below n a
at_or_below-long l n a h = search (rules, false_from_ne_true, same-length-wire, at_or_below-cons)

-- RFC 1035 2.3.4: a name has at most 127 labels, without the root's
pub length-is_name : (n : DomainName) → is_name n ≡ true → length n ≤ 127
length-is_name n ok =
    let name = IsName-is_name n ok in grind (arith, length-wire_long)
  where
    length-wire_long : (n : DomainName)
        → list_all is_label n ≡ true → 2 * length n + 1 ≤ length (wire n)
    length-wire_long [] ok = omega arith
    length-wire_long (l ∷ n) ok =
        let parts = and_parts (is_label l) _ ok in
        let is_l = IsLabel-is_label l parts.0 in
        omega (arith, length-wire_long n parts.1, length-append l (wire n))

-- the wire length of a name made of the labels of two names
pub length-wire-append : (n m : DomainName)
    → length (wire (n ++ m)) + 1 ≡ length (wire n) + length (wire m)
length-wire-append [] m = omega arith
length-wire-append (l ∷ n) m = grind (arith, length-append, (length-wire-append n m))

-- the labels of two names are a valid name, if it has at most 255 octets on the wire
pub is_name-append : (n m : DomainName)
    → is_name n ≡ true → is_name m ≡ true → length (wire (n ++ m)) ≤ 255 → is_name (n ++ m) ≡ true
is_name-append n m p q fits = grind (arith, common_steps)
