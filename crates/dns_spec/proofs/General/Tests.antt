-- Whether an element of a list passes a test, and the first that does.
use Rattle.dns_spec.proofs.Common.{Bool, List, None, Option, Some, [], ap, ap₂, arith, false, filter, inl, inr, length, map, nat_lt, refl, slice_get, sym, true, ◌&&◌, ◌||◌, ◌∙◌, ◌∷◌, ◌≡◌, ◌⊎◌, AllByRecursion, find, list_all, list_any, IsPermutation, option_map, and_parts, cases_Bool, false≢true, lt-ltb, or_parts, or_right, sum_by-IsPermutation, length-filter, none-some, same_Some, after, same, drop, prefix_len, ℕ, ◌++◌}
use Rattle.dns_spec.proofs.General.Elements.{Among}
use Rattle.dns_spec.proofs.General.Fronts.{drop_one}
use Rattle.dns_spec.proofs.General.Filters.{filter_twice, filter_nothing}

pub any_false : {X : Type 0} (p : X → Bool) (xs : List X) (a : X)
    → list_any p xs ≡ false → Among a xs → p a ≡ false
any_false p [] a e m = absurd m
any_false p (x ∷ xs) a e (inl q) = ap p q ∙ (or_parts (p x) (list_any p xs) e).0
any_false p (x ∷ xs) a e (inr m) = any_false p xs a (or_parts (p x) (list_any p xs) e).1 m

pub any_among : {X : Type 0} (p : X → Bool) (xs : List X)
    → list_any p xs ≡ true → (x : X) × Among x xs × (p x ≡ true)
any_among {X} p [] e = absurd (false≢true e)
any_among {X} p (x ∷ xs) e = grind (arith, Among, inl, inr, (any_among p xs))

pub among_any : {X : Type 0} (p : X → Bool) (x : X) (xs : List X)
    → Among x xs → p x ≡ true → list_any p xs ≡ true
among_any p x [] m e = absurd m
among_any p x (y ∷ ys) (inl q) e = ap (λ t. t || list_any p ys) (sym (ap p q) ∙ e)
among_any p x (y ∷ ys) (inr m) e = grind (arith, (among_any p x ys m e))

pub any_of_both : {X : Type 0} (p q : X → Bool) (xs : List X)
    → list_any (λ x. p x && q x) xs ≡ true → list_any p xs ≡ true
any_of_both p q xs e = grind (arith, any_among, among_any, and_parts)

-- two lists in which each test passes equally many elements
abbrev pub SameCounts : {X : Type 0} → List X → List X → Type 0
SameCounts {X} xs ys = (p : X → Bool) → length (filter p xs) ≡ length (filter p ys)

pub from_permutation : {X : Type 0} (xs ys : List X) → IsPermutation xs ys → SameCounts xs ys
from_permutation xs ys h p = grind (arith, length-filter, sum_by-IsPermutation)

pub any_counted : {X : Type 0} (p : X → Bool) (xs : List X)
    → list_any p xs ≡ nat_lt 0 (length (filter p xs))
any_counted p [] = refl
any_counted p (x ∷ xs) = grind (arith, lt-ltb, (any_counted p xs))

pub same_any : {X : Type 0} (p : X → Bool) (xs ys : List X)
    → SameCounts xs ys → list_any p xs ≡ list_any p ys
same_any p xs ys c = any_counted p xs ∙ ap (nat_lt 0) (c p) ∙ sym (any_counted p ys)

pub same_filter : {X : Type 0} (p : X → Bool) (xs ys : List X)
    → SameCounts xs ys → SameCounts (filter p xs) (filter p ys)
same_filter p xs ys c q = grind (arith, filter_twice)

-- if each test passes equally many elements of two lists, a function has the same values on both
module _ {X Y : Type 0} (f : X → Y) (eq : Y → Y → Bool)
    (decides : (a b : Y) → (eq a b ≡ true → a ≡ b) × (a ≡ b → eq a b ≡ true)) where
  pub any_value : (a : Y) (xs : List X) → Among a (map f xs) → list_any (λ x. eq a (f x)) xs ≡ true
  any_value a [] m = absurd m
  any_value a (x ∷ xs) (inl e) = grind arith
  any_value a (x ∷ xs) (inr m) = grind (arith, (any_value a xs m))

  pub value_any : (a : Y) (xs : List X) → list_any (λ x. eq a (f x)) xs ≡ true → Among a (map f xs)
  value_any a [] e = absurd (false≢true e)
  value_any a (x ∷ xs) e = grind (arith, Among, inl, inr, (value_any a xs))

  pub same_values : (xs ys : List X)
      → SameCounts xs ys → (a : Y) → Among a (map f xs) → Among a (map f ys)
  same_values xs ys c a m = grind (arith, value_any, same_any, any_value)

pub none_pass : {X : Type 0} (p : X → Bool) (xs : List X)
    → AllByRecursion (λ x. p x ≡ false) xs → list_any p xs ≡ false
none_pass p [] e = refl
none_pass p (x ∷ xs) e = ap₂ ◌||◌ e.0 (none_pass p xs e.1)

-- the test passes the first element
abbrev pub first_passes : {X : Type 0} → (X → Bool) → List X → Bool
first_passes p [] = false
first_passes p (x ∷ xs) = p x

pub any_weaker : {X : Type 0} (p q : X → Bool) (xs : List X) → ((x : X) → p x ≡ true → q x ≡ true)
    → list_any p xs ≡ true → list_any q xs ≡ true
any_weaker p q [] f e = absurd (false≢true e)
any_weaker p q (x ∷ xs) f e = grind (arith, or_right, (any_weaker p q xs f))

-- tests that agree on each element, and two tests together
pub any_alike : {X : Type 0} (p q : X → Bool) (xs : List X)
    → ((x : X) → p x ≡ q x) → list_any p xs ≡ list_any q xs
any_alike p q [] f = refl
any_alike p q (x ∷ xs) f = ap₂ ◌||◌ (f x) (any_alike p q xs f)

pub any_either : {X : Type 0} (p q : X → Bool) (xs : List X)
    → list_any (λ x. p x || q x) xs ≡ (list_any p xs || list_any q xs)
any_either p q [] = refl
any_either p q (x ∷ xs) = grind (arith, (any_either p q xs))

pub any_filter : {X : Type 0} (p q : X → Bool) (xs : List X)
    → list_any q (filter p xs) ≡ list_any (λ x. p x && q x) xs
any_filter p q [] = refl
any_filter p q (x ∷ xs) = grind (arith, (any_filter p q xs))

pub any_nothing : {X : Type 0} (p : X → Bool) (xs : List X) → filter p xs ≡ []
    → list_any p xs ≡ false
any_nothing p xs e = none_pass p xs (filter_nothing p xs e)

pub found_each : {X : Type 0} (P : X → Type 0) (test : X → Bool) (xs : List X) (y : X)
    → AllByRecursion P xs → find test xs ≡ Some y → P y
found_each P test [] y e h = absurd (none-some y h)
found_each P test (x ∷ xs) y e h = grind (arith, same_Some, (found_each P test xs y e.1))

-- what is found passes
pub found_passes : {X : Type 0} (p : X → Bool) (xs : List X) (x : X) → find p xs ≡ Some x
    → p x ≡ true
found_passes p [] x e = absurd (none-some x e)
found_passes p (y ∷ xs) x e = grind (arith, cases_Bool, inl, same_Some, inr, (found_passes p xs x))

-- what is found passes any test that all elements pass
pub entry_passes : {X : Type 0} (p q : X → Bool) (xs : List X) (x : X)
    → find p xs ≡ Some x → list_all q xs ≡ true → q x ≡ true
entry_passes p q [] x e all = absurd (none-some x e)
entry_passes p q (y ∷ xs) x e all =
    by_cases (cases_Bool (p y)) (λ f. entry_passes p q xs x f parts.1)
  where
    parts : (q y ≡ true) × (list_all q xs ≡ true)
    parts = and_parts (q y) (list_all q xs) all

    by_cases : (p y ≡ true) ⊎ (p y ≡ false) → (find p xs ≡ Some x → q x ≡ true) → q x ≡ true
    by_cases (inl here) after = grind (arith, Some, same_Some)
    by_cases (inr other) after = let f : find p xs ≡ Some x = rw other at e in after f

-- what is found among the images is the image of what is found
pub find-map : {A B : Type 0} (f : A → B) (test : B → Bool) (xs : List A)
    → find test (map f xs) ≡ option_map f (find (λ x. test (f x)) xs)
find-map f test [] = refl
find-map f test (x ∷ xs) = grind (arith, (find-map f test xs))

-- the law above for a table that consists of the images of a list
pub found_row : {R A B : Type 0} (v : R → A) (f : A → B) (test : B → Bool)
    (xs : List A) (table : List B) (r : Option R) → option_map v r ≡ find (λ x. test (f x)) xs
    → map f xs ≡ table → option_map (λ x. f (v x)) r ≡ find test table
found_row v f test xs table r e same = grind (arith, find-map)

pub first_is : {X : Type 0} (p : X → Bool) (x : X) (xs : List X)
    → Some x ≡ slice_get xs 0 → p x ≡ first_passes p xs
first_is p x xs h = grind arith

pub first_rest : {X : Type 0} (x : X) (xs : List X)
    → Some x ≡ slice_get xs 0 → (ys : List X) × (xs ≡ x ∷ ys)
first_rest x [] e = cc
first_rest x (y ∷ ys) e = let same : y ≡ x = cc in (ys, ap (λ z. z ∷ ys) same)

pub first_none : {X : Type 0} (p : X → Bool) (xs : List X)
    → None ≡ slice_get xs 0 → false ≡ first_passes p xs
first_none p xs h = grind arith

pub prefix_more : (p : ℕ → Bool) (text more : List ℕ) (x : ℕ) (xs : List ℕ)
    → drop (prefix_len p text) text ≡ x ∷ xs → prefix_len p (text ++ more) ≡ prefix_len p text
prefix_more p [] more x xs e = absurd (omega (arith, ap length e))
prefix_more p (o ∷ text) more x xs e = grind (arith, drop_one, (prefix_more p text more x xs))
