-- The first elements of a list, and the rest.
use Rattle.std.proofs.lemmas.List.Sums.{prefix_len_passes, prefix_len_stops}
use Rattle.std.specs.List.Sorted.{IsPartitionPoint}
use Rattle.dns_spec.proofs.Common.{Bool, List, [], ap, ap₂, arith, drop, false, filter, get_or, length, length-drop, length-take, not, refl, suc, sym, take, true, zero, ℕ, ◌+◌, ◌-◌, ◌∙◌, ◌∷◌, ◌≡◌, ◌≤◌, AllByRecursion, prefix_len, IsPartitionedBy, take-add, take-length, false_from_ne_true, false≢true, get_or-drop, get_or-take, take-append-drop, filter-append, prefix_len-le-length, parts, ◌++◌, take-append-le, take_at}
use Rattle.dns_spec.proofs.General.Elements.{each_weaker, each_from_get}
use Rattle.dns_spec.proofs.General.Filters.{filter_all, filter_none}

-- elements that pass come first, and the others after them
pub halves : {X : Type 0} (p : X → Bool) (xs : List X) (i : ℕ)
    → i ≤ length xs → IsPartitionPoint (λ y. p y ≡ true) (λ y. p y ≡ false) xs i
    → (take i xs ≡ filter p xs) × (drop i xs ≡ filter (λ x. not (p x)) xs)
halves p xs zero l h = grind (arith, each_from_get, filter_none, filter_all, each_weaker)
halves p [] (suc i) l h = (refl, refl)
halves p (x ∷ xs) (suc i) l h =
    let here : p x ≡ true = h.0 0 x (omega arith) (omega arith) in
    let rest = halves p xs i (omega arith) (
      λ k d a b. h.0 (suc k) d (omega arith) (omega arith),
      λ k d a b. h.1 (suc k) d (omega arith) (omega arith),
    ) in grind arith

-- if the passing elements of a list come first, they also come first in each of its prefixes
pub parted_take : {X : Type 0} (p : X → Bool) (xs : List X) (n : ℕ) → IsPartitionedBy p xs
    → IsPartitionedBy p (take n xs)
parted_take p xs n parts i j d a b e = grind (arith, length-take, get_or-take)

-- if the passing elements of a list come first, they also come first without the first k elements
pub parted_drop : {X : Type 0} (p : X → Bool) (xs : List X) (k : ℕ) → IsPartitionedBy p xs
    → IsPartitionedBy p (drop k xs)
parted_drop p xs k h i j d a b e = grind (arith, length-drop, get_or-drop)

-- if the first a elements pass, and of the elements after them exactly the next b, then the first
-- a + b elements are those that pass
pub both_fronts : {X : Type 0} (p : X → Bool) (xs : List X) (a b : ℕ)
    → AllByRecursion (λ x. p x ≡ true)
    (take a xs) → take b (drop a xs) ≡ filter p (drop a xs) → take (a + b) xs ≡ filter p xs
both_fronts p xs a b e u =
    take-add a b xs ∙ ap₂ ◌++◌ (sym (filter_all p (take a xs) e)) u
    ∙ sym (ap (filter p) (sym (take-append-drop a xs)) ∙ filter-append p (take a xs) (drop a xs))

-- if passing elements come first, the passing elements counted from the front are all that pass
pub front : {X : Type 0} (p : X → Bool) (xs : List X) → IsPartitionedBy p xs → (take
    (prefix_len p xs) xs ≡ filter p xs) × (drop (prefix_len p xs) xs ≡ filter (λ x. not (p x)) xs)
front p xs h =
    halves p xs (prefix_len p xs) (prefix_len-le-length p xs) (
      λ k d a m. prefix_len_passes p xs k d m,
      λ k d a m. false_from_ne_true _ (λ t. false≢true
          (sym (prefix_len_stops p xs d (omega arith)) ∙ h (prefix_len p xs) k d a m t)),
    )

pub same_fronts_ends : (k j : ℕ) (a b : List ℕ) → k ≤ j → take j a ≡ take j b → drop k a ≡ drop k b
    → a ≡ b
same_fronts_ends zero j a b h e d = d
same_fronts_ends (suc k) zero a b h e d = absurd (omega arith)
same_fronts_ends (suc k) (suc j) [] [] h e d = refl
same_fronts_ends (suc k) (suc j) [] (y ∷ b) h e d = absurd (omega (arith, ap length e))
same_fronts_ends (suc k) (suc j) (x ∷ a) [] h e d = absurd (omega (arith, ap length e))
same_fronts_ends (suc k) (suc j) (x ∷ a) (y ∷ b) h e d = ap₂ (λ z zs. z ∷ zs)
    (ap (λ l. get_or l 0 0) e) (same_fronts_ends k j a b (omega (arith, h)) (ap (drop 1) e) d)

pub take_last : (k : ℕ) (xs : List ℕ)
    → k ≤ length xs → take k (drop (length xs - k) xs) ≡ drop (length xs - k) xs
take_last k xs long =
    grind (arith, length-drop (length xs - k) xs, take-length (drop (length xs - k) xs))

-- a prefix of at most n elements is a prefix of the first n elements
pub looked_at : {X : Type 0} (n : ℕ) (front more : List X)
    → length front ≤ n → (rest : List X) × (take n (front ++ more) ≡ front ++ rest)
looked_at n [] more short = (take n more, refl)
looked_at zero (o ∷ front) more short = absurd (omega (arith, short))
looked_at (suc n) (o ∷ front) more short = grind (arith, (looked_at n front more))

-- a prefix stays the same if only elements after it are overwritten
pub take_patched : (a k : ℕ) (b x b' : List ℕ)
    → b' ≡ take k b ++ x → a ≤ k → k ≤ length b → take a b' ≡ take a b
take_patched a k b x b' e low inside =
    let long = length-take k b in
    let front = length-take a b in
    let more : a + (k - a) ≡ k = omega (arith, low) in
    let split : take k b ≡ take a b ++ take (k - a) (drop a b) =
    ap (λ j. take j b) (sym more) ∙ take-add a (k - a) b in
    grind (arith, take-append-le, take_at, front)

pub drop_one : (n o : ℕ) (text : List ℕ) → drop (1 + n) (o ∷ text) ≡ drop n text
drop_one n o text = let next : 1 + n ≡ suc n = omega arith in ap (λ m. drop m (o ∷ text)) next

-- if a list is continued, the elements after its first n elements stay, and are continued too
pub dropped_more : (n : ℕ) (text more : List ℕ) (x : ℕ) (xs : List ℕ)
    → drop n text ≡ x ∷ xs → drop n (text ++ more) ≡ x ∷ (xs ++ more)
dropped_more zero text more x xs e = ap (λ t. t ++ more) e
dropped_more (suc n) [] more x xs e = absurd (omega (arith, ap length e))
dropped_more (suc n) (o ∷ text) more x xs e = dropped_more n text more x xs e

pub taken_more : (n : ℕ) (text more : List ℕ) (x : ℕ) (xs : List ℕ)
    → drop n text ≡ x ∷ xs → take n (text ++ more) ≡ take n text
taken_more zero text more x xs e = refl
taken_more (suc n) [] more x xs e = absurd (omega (arith, ap length e))
taken_more (suc n) (o ∷ text) more x xs e = ap (λ t. o ∷ t) (taken_more n text more x xs e)
