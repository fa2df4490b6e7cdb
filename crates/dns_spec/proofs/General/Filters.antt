-- The elements of a list that pass a test.
use Rattle.dns_spec.proofs.Common.{Bool, List, Option, [], ap, arith, drop, false, filter, get_or, inl, inr, length, length-drop, map, not, refl, subst, true, ℕ, ◌&&◌, ◌++◌, ◌+◌, ◌<◌, ◌∙◌, ◌∷◌, ◌≡◌, ◌≤◌, ◌⊎◌, AllByRecursion, filter_map, flat_map, false≢true, get_or-drop, length-filter_both}
use Rattle.dns_spec.proofs.General.Elements.{Among, each_at, each_get}

pub each_filter : {X : Type 0} (P : X → Type 0) (p : X → Bool) (xs : List X)
    → AllByRecursion P xs → AllByRecursion P (filter p xs)
each_filter P p [] e = tt
each_filter P p (x ∷ xs) e = grind (arith, (each_filter P p xs e.1))

pub filter_each : {X : Type 0} (p : X → Bool) (xs : List X)
    → AllByRecursion (λ x. p x ≡ true) (filter p xs)
filter_each p [] = tt
filter_each p (x ∷ xs) = grind (arith, (filter_each p xs))

pub filter_short : {X : Type 0} (p : X → Bool) (xs : List X) → length (filter p xs) ≤ length xs
filter_short p [] = omega arith
filter_short p (x ∷ xs) = grind (arith, (filter_short p xs))

pub among_filter : {X : Type 0} (p : X → Bool) (a : X) (xs : List X)
    → Among a (filter p xs) → Among a xs
among_filter p a [] m = m
among_filter p a (x ∷ xs) m = grind (arith, inl, inr, (among_filter p a xs))

pub filter_among : {X : Type 0} (p : X → Bool) (a : X) (xs : List X)
    → p a ≡ true → Among a xs → Among a (filter p xs)
filter_among p a [] e m = m
filter_among p a (x ∷ xs) e m = grind (arith, inl, inr, false≢true, (filter_among p a xs e))

pub filter_test : {X : Type 0} (p : X → Bool) (a : X) (xs : List X)
    → Among a (filter p xs) → p a ≡ true
filter_test p a [] m = absurd m
filter_test p a (x ∷ xs) m = grind (arith, Among, inl, inr, (filter_test p a xs))

pub filter_twice : {X : Type 0} (p q : X → Bool) (xs : List X)
    → filter q (filter p xs) ≡ filter (λ x. p x && q x) xs
filter_twice p q [] = refl
filter_twice p q (x ∷ xs) = grind (arith, (filter_twice p q xs))

pub filter_nothing : {X : Type 0} (p : X → Bool) (xs : List X)
    → filter p xs ≡ [] → AllByRecursion (λ x. p x ≡ false) xs
filter_nothing p [] e = tt
filter_nothing p (x ∷ xs) e = grind (arith, AllByRecursion, (filter_nothing p xs))

pub map_nothing : {X Y : Type 0} (f : X → Y) (xs : List X) → map f xs ≡ [] → xs ≡ []
map_nothing f [] e = refl
map_nothing f (x ∷ xs) e = cc

-- if `flat_map` gives nothing, f gives nothing for each element
pub flat_nothing : {X Y : Type 0} (f : X → List Y) (xs : List X) (a : X)
    → flat_map f xs ≡ [] → Among a xs → f a ≡ []
flat_nothing f [] a e m = absurd m
flat_nothing {Y = Y} f (x ∷ xs) a e m = go (f x) refl e m (flat_nothing f xs a)
  where
    go : (ys : List Y) → f x ≡ ys → ys ++ flat_map f xs ≡ []
        → (a ≡ x) ⊎ Among a xs → (flat_map f xs ≡ [] → Among a xs → f a ≡ []) → f a ≡ []
    go [] p q (inl s) r = ap f s ∙ p
    go [] p q (inr n) r = r q n
    go (y ∷ ys) p q n r = cc

-- lists of at most one element, with the same elements
pub same_single : {X : Type 0} (xs ys : List X) → length xs ≤ 1 → length ys ≤ 1
    → ((a : X) → Among a xs → Among a ys) → ((a : X) → Among a ys → Among a xs) → xs ≡ ys
same_single [] [] h k forth back = refl
same_single [] (y ∷ ys) h k forth back = absurd (back y (inl refl))
same_single (x ∷ xs) [] h k forth back = absurd (forth x (inl refl))
same_single (x ∷ []) (y ∷ []) h k forth back = go (forth x (inl refl))
  where
    go : (x ≡ y) ⊎ ⊥ → x ∷ [] ≡ y ∷ []
    go (inl e) = ap (λ z. z ∷ []) e
    go (inr m) = absurd m
same_single (x ∷ w ∷ xs) (y ∷ ys) h k forth back = absurd (omega arith)
same_single (x ∷ []) (y ∷ w ∷ ys) h k forth back = absurd (omega arith)

-- elements that pass two tests, in a list and in another with the same elements
pub kept_among : {X : Type 0} (p q : X → Bool) (a : X) (xs ys : List X) → ((b : X)
    → Among b xs → Among b ys) → Among a (filter p (filter q xs)) → Among a (filter p (filter q ys))
kept_among p q a xs ys forth m = grind (arith, among_filter, filter_among, each_at, filter_each)

-- the lengths of filtered lists
pub filtered_lengths : {X : Type 0} (p : X → Bool) (xs : List X)
    → length (filter p xs) + length (filter (λ x. not (p x)) xs) ≡ length xs
filtered_lengths p xs = length-filter_both p (λ x. not (p x)) (λ x. refl) xs

pub mapped_short : {X Y : Type 0} (f : X → Option Y) (xs : List X)
    → length (filter_map f xs) ≤ length xs
mapped_short f [] = omega arith
mapped_short {Y = Y} f (x ∷ xs) = grind (arith, (mapped_short f xs))

pub filter_all : {X : Type 0} (p : X → Bool) (xs : List X)
    → AllByRecursion (λ x. p x ≡ true) xs → filter p xs ≡ xs
filter_all p [] e = refl
filter_all p (x ∷ xs) e = grind (arith, filter, (filter_all p xs e.1))

pub filter_none : {X : Type 0} (p : X → Bool) (xs : List X)
    → AllByRecursion (λ x. p x ≡ false) xs → filter p xs ≡ []
filter_none p [] e = refl
filter_none p (x ∷ xs) e = grind (arith, filter, (filter_none p xs e.1))

-- filtering twice, if whatever passes q also passes p
pub filter_within : {X : Type 0} (p q : X → Bool) (xs : List X)
    → ((x : X) → q x ≡ true → p x ≡ true) → filter q (filter p xs) ≡ filter q xs
filter_within p q [] f = refl
filter_within p q (x ∷ xs) f = grind (arith, false≢true, (filter_within p q xs f))

pub filter_again : {X : Type 0} (p : X → Bool) (xs : List X) → filter p (filter p xs) ≡ filter p xs
filter_again p xs = filter_all p (filter p xs) (filter_each p xs)

pub nothing_there : {X : Type 0} (p : X → Bool) (xs : List X) (k : ℕ) (d : X)
    → filter p (drop k xs) ≡ [] → k < length xs → p (get_or xs k d) ≡ false
nothing_there p xs k d e h =
    let at : k + 0 ≡ k = omega arith in
    let some : 0 < length (drop k xs) = omega (arith, length-drop k xs) in
    subst (λ x. p x ≡ false) (get_or-drop k xs 0 d ∙ ap (λ i. get_or xs i d) at)
    (each_get (λ x. p x ≡ false) (drop k xs) 0 d (filter_nothing p (drop k xs) e) some)
