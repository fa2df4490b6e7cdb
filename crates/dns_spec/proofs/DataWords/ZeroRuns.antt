-- The longest run of zero groups begins at the index that `longest_place` gives.
use Rattle.dns_spec.proofs.Common.{◌≡◌, ℕ, zero, suc, ◌+◌, ◌<◌, ◌≤◌, ◌⊎◌, inl, inr, max, Bool, true, false, ◌==◌, List, [], ◌∷◌, ◌++◌, length, take, drop, get_or, replicate, fold, refl, sym, ◌∙◌, ap, arith, append_assoc, take-append-drop, length-drop, cases_Bool, cases_lt, eqb-true, eq-eqb, true≢false, drop-drop, prefix_len, position_or_len, prefix_len-le-length, fails_before_first, passes_at_first, zero_runs, longest_run, longest_place}

abbrev pub is_zero : ℕ → Bool
is_zero n = n == 0

pub length-zero_runs : (gs : List ℕ) → length (zero_runs gs) ≡ length gs
length-zero_runs [] = refl
length-zero_runs (g ∷ gs) = omega (arith, length-zero_runs gs)

pub run_at : (gs : List ℕ) (i : ℕ)
    → i < length gs → get_or (zero_runs gs) i 0 ≡ prefix_len is_zero (drop i gs)
run_at [] i inside = absurd (omega (arith, inside))
run_at (g ∷ gs) zero inside = refl
run_at (g ∷ gs) (suc i) inside = run_at gs i (omega (arith, inside))

-- n is one of the numbers, at the index `place`; and the greatest of a and the numbers is either a
-- or one of the numbers
record Reached (xs : List ℕ) (n : ℕ) : Type 0 where
  place : ℕ
  inside : place < length xs
  is : get_or xs place 0 ≡ n

greatest : (a : ℕ) (xs : List ℕ) → (fold max a xs ≡ a) ⊎ Reached xs (fold max a xs)
greatest a [] = inl refl
greatest a (x ∷ xs) = by_cases (greatest (max a x) xs) (cases_lt a x)
  where
    by_cases : (fold max (max a x) xs ≡ max a x) ⊎ Reached xs (fold max (max a x) xs)
        → (a < x) ⊎ (x ≤ a) → (fold max a (x ∷ xs) ≡ a) ⊎ Reached (x ∷ xs) (fold max a (x ∷ xs))
    by_cases (inr r) order =
        inr (record { place = suc r.place; inside = omega (arith, r.inside); is = r.is })
    by_cases (inl e) (inl more) =
        inr (record { place = 0; inside = omega arith; is = omega (arith, e, more) })
    by_cases (inl e) (inr less) = inl (omega (arith, e, less))

-- so the index of a number in the list is found
found : (n : ℕ) (xs : List ℕ) → Reached xs n → position_or_len (λ k. k == n) xs < length xs
found n xs r = grind (arith, cases_lt, inl, inr, fails_before_first, true≢false, eq-eqb)

-- `longest_place` is an index of the list, and the run that begins there has the greatest length
pub record LongestRun (gs : List ℕ) : Type 0 where
  pub inside : longest_place gs < length gs
  pub long : prefix_len is_zero (drop (longest_place gs) gs) ≡ longest_run gs

pub longest : (gs : List ℕ) → 0 < longest_run gs → LongestRun gs
longest gs some = by_cases (greatest 0 (zero_runs gs))
  where
    by_cases : (longest_run gs ≡ 0) ⊎ Reached (zero_runs gs) (longest_run gs) → LongestRun gs
    by_cases (inl none) = absurd (omega (arith, none, some))
    by_cases (inr r) =
        let place = found (longest_run gs) (zero_runs gs) r in
        let inside : longest_place gs < length gs = omega (arith, place, length-zero_runs gs) in
        let is = eqb-true (get_or (zero_runs gs) (longest_place gs) 0)
        (longest_run gs) (passes_at_first (λ k. k == longest_run gs) (zero_runs gs) 0 place) in
        record { inside = inside; long = sym (run_at gs (longest_place gs) inside) ∙ is }

zeros_first : (gs : List ℕ) → take (prefix_len is_zero gs) gs ≡ replicate (prefix_len is_zero gs) 0
zeros_first [] = refl
zeros_first (g ∷ gs) = by_cases (zeros_first gs) (cases_Bool (is_zero g))
  where
    by_cases : take (prefix_len is_zero gs) gs ≡ replicate (prefix_len is_zero gs) 0
        → (is_zero g ≡ true) ⊎ (is_zero g ≡ false)
        → take (prefix_len is_zero (g ∷ gs)) (g ∷ gs) ≡ replicate (prefix_len is_zero (g ∷ gs)) 0
    by_cases after (inl z) =
        let n = prefix_len is_zero gs in
        let one : 1 + n ≡ suc n = omega arith in
        grind (arith, eqb-true)
    by_cases after (inr other) = rw other refl

-- groups are the groups before the run, its zeros, and the groups after it
pub around_run : (gs : List ℕ) (r : LongestRun gs) → (take (longest_place gs) gs
    ++ replicate (longest_run gs) 0) ++ drop (longest_place gs + longest_run gs) gs ≡ gs
around_run gs r =
    let place = longest_place gs in
    let run = longest_run gs in
    let front = take place gs in
    let back = drop place gs in
    let zeros : take run back ≡ replicate run 0 = grind (arith, zeros_first back) in
    ap (λ z. (front ++ z) ++ drop (place + run) gs) (sym zeros)
    ∙ ap (λ b. (front ++ take run back) ++ b) (sym (drop-drop run place gs))
    ∙ append_assoc front (take run back) (drop run back)
    ∙ ap (λ b. front ++ b) (take-append-drop run back)
    ∙ take-append-drop place gs

pub run_inside : (gs : List ℕ) (r : LongestRun gs) → longest_place gs + longest_run gs ≤ length gs
run_inside gs r = grind (arith, prefix_len-le-length, length-drop)
