-- Numbers: sums and bounds.
use Rattle.std.proofs.Math.Nat.{mul-le-mul_right}
use Rattle.dns_spec.proofs.Common.{List, [], ap, arith, fold, inl, inr, suc, sum, ℕ, ◌*◌, ◌+◌, ◌<◌, ◌∷◌, ◌≡◌, ◌≤◌, ◌⊎◌, cases_order, cases_lt}

-- a sum that begins with k, and a sum with a first number
pub fold_from : (k : ℕ) (xs : List ℕ) → fold ◌+◌ k xs ≡ k + sum xs
fold_from k [] = omega arith
fold_from k (x ∷ xs) = omega (arith, fold_from (k + x) xs, fold_from (0 + x) xs)

pub sum_cons : (x : ℕ) (xs : List ℕ) → sum (x ∷ xs) ≡ x + sum xs
sum_cons x xs = omega (arith, fold_from (0 + x) xs)

-- comparing x * p + k with y * p + l, for k and l below p: x and y decide, or k and l if x and y
-- are equal
pub lesser_parts : (p x y k l : ℕ) → k < p → l < p → x * p + k < y * p + l
    → (x < y) ⊎ ((x ≡ y) × (k < l))
lesser_parts p x y k l s t h = go (cases_order x y)
  where
    go : (x ≡ y) ⊎ ((x < y) ⊎ (y < x)) → (x < y) ⊎ ((x ≡ y) × (k < l))
    go (inl e) = inr (e, omega (arith, ap (λ z. z * p) e))
    go (inr (inl m)) = inl m
    go (inr (inr m)) =
        let more : suc y * p ≤ x * p = mul-le-mul_right p (omega arith) in absurd (omega arith)

pub other_than : (a b : ℕ) → a ≤ b → (b ≡ a → ⊥) → a < b
other_than a b l n = grind (arith, cases_lt)
