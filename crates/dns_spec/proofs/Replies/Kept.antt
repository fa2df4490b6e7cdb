-- The sets that are kept of a list are the longest prefix of the list that fits the limit.
use Rattle.dns_spec.proofs.Common.{◌≡◌, ℕ, zero, suc, ◌<◌, ◌≤◌, Bool, true, false, cond, nat_le, ◌⊎◌, inl, inr, List, [], length, take, refl, sym, ap, ◌∙◌, arith, eq-or-lt_of_le, false≢true, length-take-le, Item, kept, greatest}

pub greatest_bound : (test : ℕ → Bool) (n : ℕ) → greatest test n ≤ n
greatest_bound test zero = omega arith
greatest_bound test (suc k) = grind (arith, (greatest_bound test k))

pub greatest_passes : (test : ℕ → Bool) (n : ℕ) → test 0 ≡ true → test (greatest test n) ≡ true
greatest_passes test zero h = h
greatest_passes test (suc k) h = grind (arith, (greatest_passes test k h))

pub greatest_most : (test : ℕ → Bool) (n k : ℕ) → k ≤ n → test k ≡ true → k ≤ greatest test n
greatest_most test zero k h e = h
greatest_most test (suc n) k h e = go (test (suc n)) refl (λ l. greatest_most test n k l e)
  where
    go : (t : Bool)
        → test (suc n) ≡ t → (k ≤ n → k ≤ greatest test n) → k ≤ cond t (suc n) (greatest test n)
    go true q f = h
    go false q f = f (below (eq-or-lt_of_le h))
      where
        below : (k ≡ suc n) ⊎ (k < suc n) → k ≤ n
        below (inl p) = absurd (false≢true (sym q ∙ ap test (sym p) ∙ e))
        below (inr l) = omega arith

module _ (size_of : List Item → ℕ) (limit : ℕ) (sets : List Item) where
  how_many : ℕ
  how_many = greatest (λ k. nat_le (size_of (take k sets)) limit) (length sets)

  -- the kept sets fit if the empty list does
  pub kept_fits : size_of [] ≤ limit → size_of (kept size_of limit sets) ≤ limit
  unfolding how_many
  kept_fits h = grind (arith, greatest_passes)

  pub length-kept : length
      (kept size_of limit sets) ≡ greatest (λ k. nat_le (size_of (take k sets)) limit) (length sets)
  length-kept = grind (arith, length-take-le, greatest_bound)

  -- no prefix longer than the kept sets fits
  pub kept_longest : (k : ℕ)
      → k ≤ length sets → size_of (take k sets) ≤ limit → k ≤ length (kept size_of limit sets)
  kept_longest k h fits = grind (arith, greatest_most, length-kept)
