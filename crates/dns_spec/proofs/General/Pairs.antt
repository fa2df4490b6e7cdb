-- Lists in order: a relation holds for each element and each element after it.
use Rattle.dns_spec.proofs.Common.{Bool, List, Ordering, [], ap, arith, cond, drop, eqb, false, filter, inl, inr, is_gt, nat_lt, not, refl, subst, suc, sym, true, zero, ℕ, ◌<◌, ◌||◌, ◌∙◌, ◌∷◌, ◌≡◌, ◌≤◌, ◌⊎◌, IsTotalOrder, AllByRecursion, list_any, IsNonDecreasingBy, IsPartitionedBy, cases_lt, eqb-false, false≢true, ltb-false, ne_eqb, upto, insert_by, sort_by}
use Rattle.dns_spec.proofs.General.Elements.{each_weaker, each_get, each_from_get, each_both}
use Rattle.dns_spec.proofs.General.Filters.{each_filter}
use Rattle.dns_spec.proofs.General.Tests.{none_pass, first_passes}
use Rattle.dns_spec.proofs.General.Sorted.{each_insert}

-- R holds for each element and each element after it
abbrev pub Pairs : {X : Type 0} → (X → X → Type 0) → List X → Type 0
Pairs R [] = Unit {0}
Pairs R (x ∷ xs) = AllByRecursion (R x) xs × Pairs R xs

pub pairs_weaker : {X : Type 0} (R S : X → X → Type 0) (xs : List X)
    → ((x y : X) → R x y → S x y) → Pairs R xs → Pairs S xs
pairs_weaker R S [] f p = tt
pairs_weaker R S (x ∷ xs) f p = (each_weaker (R x) (S x) xs (f x) p.0, pairs_weaker R S xs f p.1)

pub pairs_of : {X : Type 0} (P : X → Type 0) (R S : X → X → Type 0) (xs : List X)
    → ((x y : X) → P x → P y → R x y → S x y) → AllByRecursion P xs → Pairs R xs → Pairs S xs
pairs_of P R S [] f e p = tt
pairs_of P R S (x ∷ xs) f e p = grind (arith, each_both, (pairs_of P R S xs f e.1 p.1))

pub pairs_filter : {X : Type 0} (R : X → X → Type 0) (p : X → Bool) (xs : List X)
    → Pairs R xs → Pairs R (filter p xs)
pairs_filter R p [] h = tt
pairs_filter R p (x ∷ xs) h = grind (arith, each_filter, (pairs_filter R p xs h.1))

-- if each element before a passing one passes too, a binary search is possible
pub parted : {X : Type 0} (p : X → Bool) (xs : List X)
    → Pairs (λ x y. p y ≡ true → p x ≡ true) xs → IsPartitionedBy p xs
parted p [] h i j d l m e = absurd (omega arith)
parted p (x ∷ xs) h zero zero d l m e = e
parted p (x ∷ xs) h zero (suc j) d l m e = grind (arith, each_get)
parted p (x ∷ xs) h (suc i) zero d l m e = absurd (omega arith)
parted p (x ∷ xs) h (suc i) (suc j) d l m e = parted p xs h.1 i j d (omega arith) (omega arith) e

pub rising : {X : Type 0} (n : X → ℕ) (xs : List X)
    → Pairs (λ x y. n x ≤ n y) xs → IsNonDecreasingBy n xs
rising n [] h i j d l m = absurd (omega arith)
rising n (x ∷ xs) h zero zero d l m = omega arith
rising n (x ∷ xs) h zero (suc j) d l m = each_get (λ y. n x ≤ n y) xs j d h.0 (omega arith)
rising n (x ∷ xs) h (suc i) zero d l m = absurd (omega arith)
rising n (x ∷ xs) h (suc i) (suc j) d l m = rising n xs h.1 i j d (omega arith) (omega arith)

pub pairs_rising : {X : Type 0} (n : X → ℕ) (xs : List X)
    → IsNonDecreasingBy n xs → Pairs (λ x y. n x ≤ n y) xs
pairs_rising n [] h = tt
pairs_rising n (x ∷ xs) h = (
  each_from_get (λ y. n x ≤ n y) xs (λ k d l. h 0 (suc k) d (omega arith) (omega arith)),
  pairs_rising n xs (λ i j d l m. h (suc i) (suc j) d (omega arith) (omega arith)),
)

-- a sorted list is in order: no element is greater than an element after it
module _ {X : Type 0} (cmp : X → X → Ordering) (total : IsTotalOrder cmp) where
  abbrev pub NotAfter : X → X → Type 0
  NotAfter x y = is_gt (cmp x y) ≡ false

  pub not_before : (x y : X) → is_gt (cmp x y) ≡ true → NotAfter y x
  not_before x y h = grind (arith, false≢true)

  pub insert_pairs : (x : X) (ys : List X) → Pairs NotAfter ys → Pairs NotAfter (insert_by cmp x ys)
  insert_pairs x [] h = (tt, tt)
  insert_pairs x (y ∷ ys) h =
      grind (arith, each_insert, not_before, each_weaker, upto, (insert_pairs x ys h.1))

  pub sort_pairs : (xs : List X) → Pairs NotAfter (sort_by cmp xs)
  sort_pairs [] = tt
  sort_pairs (x ∷ xs) = insert_pairs x (sort_by cmp xs) (sort_pairs xs)

  pub sorted_pairs : (xs : List X) → sort_by cmp xs ≡ xs → Pairs NotAfter xs
  sorted_pairs xs e = subst (Pairs NotAfter) e (sort_pairs xs)

  -- and sorting leaves a list that is in order unchanged
  pub first_in : (x : X) (xs : List X) → AllByRecursion (NotAfter x) xs
      → insert_by cmp x xs ≡ x ∷ xs
  first_in x [] e = refl
  first_in x (y ∷ ys) e = ap (λ b. cond b (y ∷ insert_by cmp x ys) (x ∷ y ∷ ys)) e.0

  pub unmoved : (xs : List X) → Pairs NotAfter xs → sort_by cmp xs ≡ xs
  unmoved [] h = refl
  unmoved (x ∷ xs) h = ap (insert_by cmp x) (unmoved xs h.1) ∙ first_in x xs h.0

pub pairs_drop : {X : Type 0} (R : X → X → Type 0) (k : ℕ) (xs : List X) → Pairs R xs
    → Pairs R (drop k xs)
pairs_drop R zero xs h = h
pairs_drop R (suc k) [] h = h
pairs_drop R (suc k) (x ∷ xs) h = pairs_drop R k xs h.1

module _ {X : Type 0} (n : X → ℕ) (t : ℕ) where
  pub greater : (x : X) (xs : List X)
      → t < n x → AllByRecursion (λ y. n x ≤ n y) xs → AllByRecursion (λ y. eqb (n y) t ≡ false) xs
  greater x [] l e = tt
  greater x (y ∷ ys) l e = grind (arith, ne_eqb, (greater x ys l e.1))

  -- if elements rise by their numbers, an element has the number t if and only if the first element
  -- whose number is not below t has it
  pub found_first : (xs : List X) → Pairs (λ x y. n x ≤ n y) xs → list_any (λ x. eqb (n x) t) xs
      ≡ first_passes (λ x. eqb (n x) t) (filter (λ x. not (nat_lt (n x) t)) xs)
  found_first [] h = refl
  found_first (x ∷ xs) h = go (nat_lt (n x) t) (eqb (n x) t) refl refl (found_first xs h.1)
    where
      go : (b c : Bool) → nat_lt (n x) t ≡ b → eqb (n x) t ≡ c → list_any (λ x. eqb (n x) t) xs
          ≡ first_passes (λ x. eqb (n x) t) (filter (λ x. not (nat_lt (n x) t)) xs)
          → (c || list_any (λ x. eqb (n x) t) xs) ≡ first_passes (λ x. eqb (n x) t) (cond (not b)
          (x ∷ filter (λ x. not (nat_lt (n x) t)) xs) (filter (λ x. not (nat_lt (n x) t)) xs))
      go true true l e r = grind arith
      go true false l e r = r
      go false true l e r = sym e
      go false false l e r =
          let above : t ≤ n x = ltb-false _ _ l in
          let other : t < n x = other_than (cases_lt t (n x)) above in
          none_pass (λ x. eqb (n x) t) xs (greater x xs other h.0) ∙ sym e
        where
          other_than : (t < n x) ⊎ (n x ≤ t) → t ≤ n x → t < n x
          other_than (inl k) a = k
          other_than (inr k) a = absurd (eqb-false (n x) t e (omega arith))
