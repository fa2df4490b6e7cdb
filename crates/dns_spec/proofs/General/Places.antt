-- What is at an index of a list.
use Rattle.dns_spec.proofs.Common.{◌≡◌, List, Some, [], arith, drop, length, none-some, slice_get, suc, take, take-append-le, zero, ℕ, ◌++◌, ◌+◌, ◌∷◌, ◌≤◌}

-- the element at an index stays the same if the list is continued
pub get_more : {A : Type 0} (xs ys : List A) (i : ℕ) (x : A)
    → slice_get xs i ≡ Some x → slice_get (xs ++ ys) i ≡ Some x
get_more [] ys i x at = absurd (none-some x at)
get_more (y ∷ xs) ys zero x at = at
get_more (y ∷ xs) ys (suc i) x at = get_more xs ys i x at

-- k elements from the index i on stay the same if the list is continued
pub take_within : (b x : List ℕ) (i k : ℕ)
    → i + k ≤ length b → take k (drop i (b ++ x)) ≡ take k (drop i b)
take_within b x zero k h = take-append-le k b x (omega (arith, h))
take_within [] x (suc i) k h = absurd (omega arith)
take_within (y ∷ b) x (suc i) k h = take_within b x i k (omega arith)
