-- Comparisons of numbers, of lists, and in sequence.
use Rattle.dns_spec.proofs.Common.{Equal, Greater, Less, List, Ordering, [], ap, arith, eqb, false, inl, inr, is_eq, is_gt, is_lt, length, nat_cmp, refl, reverse, sym, true, ℕ, ◌&&◌, ◌++◌, ◌-◌, ◌<◌, ◌∙◌, ◌∷◌, ◌≡◌, ◌≤◌, ◌⊎◌, nat_cmp_is, slice_cmp, ordering_then, cases_lt, eq-eqb, eqb-true, false≢true, le-ltb, lt-ltb, ltb-true, ne_eqb, length-reverse, reverse-append}

pub less_from : (c : Ordering) → is_lt c ≡ true → c ≡ Less
less_from c h = grind arith

pub then_ties : (a b : Ordering) → is_eq (ordering_then a b) ≡ (is_eq a && is_eq b)
then_ties a b = grind arith

pub then_assoc : (a b c : Ordering)
    → ordering_then (ordering_then a b) c ≡ ordering_then a (ordering_then b c)
then_assoc Less b c = refl
then_assoc Equal b c = refl
then_assoc Greater b c = refl

pub then_equal : (a : Ordering) → ordering_then a Equal ≡ a
then_equal Less = refl
then_equal Equal = refl
then_equal Greater = refl

pub less_by : (a b k : ℕ)
    → k ≤ a → k ≤ b → (a ≡ b) ⊎ ((a < b) ⊎ (b < a)) → nat_cmp (a - k) (b - k) ≡ nat_cmp a b
less_by a b k p q (inl e) = grind arith
less_by a b k p q (inr (inl h)) = grind arith
less_by a b k p q (inr (inr h)) = grind arith

pub cmp_self : {A : Type 0} (R : A → A → Ordering)
    → ((x : A) → R x x ≡ Equal) → (xs : List A) → slice_cmp R xs xs ≡ Equal
cmp_self R h [] = refl
cmp_self R h (x ∷ xs) = rw (h x) (cmp_self R h xs)

module _ {A : Type 0} (R : A → A → Ordering) where
  -- prefixes of equal length are compared before what follows them
  pub slice_cmp-append : (xs ys us vs : List A) → length xs ≡ length ys
      → slice_cmp R (xs ++ us) (ys ++ vs) ≡ ordering_then (slice_cmp R xs ys) (slice_cmp R us vs)
  slice_cmp-append [] [] us vs e = refl
  slice_cmp-append [] (y ∷ ys) us vs e = absurd (omega arith)
  slice_cmp-append (x ∷ xs) [] us vs e = absurd (omega arith)
  slice_cmp-append (x ∷ xs) (y ∷ ys) us vs e =
      grind (arith, (slice_cmp-append xs ys us vs (omega arith)), then_assoc)

  -- if lists of equal length are reversed, their first elements are compared last
  pub slice_cmp-reverse-cons : (x y : A) (xs ys : List A) (o : Ordering) → length xs ≡ length ys
      → ordering_then (slice_cmp R (reverse xs) (reverse ys)) (ordering_then (R x y) o)
      ≡ ordering_then (slice_cmp R (reverse (x ∷ xs)) (reverse (y ∷ ys))) o
  slice_cmp-reverse-cons x y xs ys o e =
      let long : length (reverse xs) ≡ length (reverse ys) = grind (arith, length-reverse) in
      let S = slice_cmp R (reverse xs) (reverse ys) in
      let last : slice_cmp R (reverse xs ++ x ∷ []) (reverse ys ++ y ∷ []) ≡ ordering_then S
      (R x y) = grind (arith, slice_cmp-append, ordering_then, then_equal)
      in
      sym (rw (reverse-append (x ∷ []) xs, reverse-append (y ∷ []) ys)
      (ap (λ p. ordering_then p o) last ∙ then_assoc S (R x y) o))

  -- if one list is empty, the lengths decide
  pub by_length : (xs ys : List A)
      → (length xs ≡ 0) ⊎ (length ys ≡ 0) → slice_cmp R xs ys ≡ nat_cmp (length xs) (length ys)
  by_length [] [] e = refl
  by_length [] (y ∷ ys) e = nat_cmp_is 0 (length (y ∷ ys)) Less (omega arith)
  by_length (x ∷ xs) [] e = nat_cmp_is (length (x ∷ xs)) 0 Greater (omega arith)
  by_length (x ∷ xs) (y ∷ ys) (inl e) = absurd (omega arith)
  by_length (x ∷ xs) (y ∷ ys) (inr e) = absurd (omega arith)

pub eqb_decides : (a b : ℕ) → (eqb a b ≡ true → a ≡ b) × (a ≡ b → eqb a b ≡ true)
eqb_decides a b = (eqb-true a b, eq-eqb a b)

pub nat_ties : (x y : ℕ) → eqb x y ≡ is_eq (nat_cmp x y)
nat_ties x y = grind (arith, ne_eqb, ltb-true)

pub nat_tie : (x y : ℕ) → nat_cmp x y ≡ Equal → eqb x y ≡ true
nat_tie x y e = nat_ties x y ∙ ap is_eq e

-- the three results of an order
pub not_greater : (c : Ordering) → is_gt c ≡ false → is_lt c ≡ false → c ≡ Equal
not_greater c h h1 = grind (arith, false≢true)

pub first_part : (c d : Ordering) → is_gt (ordering_then c d) ≡ false → is_gt c ≡ false
first_part c d h = grind arith

-- a number is not greater than one that is at least as great
pub not_above : (t u : ℕ) → t ≤ u → is_gt (nat_cmp t u) ≡ false
not_above t u h = grind (arith, cases_lt, lt-ltb, le-ltb, eq-eqb)
