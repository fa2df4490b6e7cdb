-- A sorted list without duplicates depends only on its set of elements.
pub use Rattle.dns_spec.specs.Lists.{Rises}
use Rattle.dns_spec.proofs.Common.{Bool, Equal, Greater, Less, List, Ordering, [], ap, ap₂, arith, cond, false, filter, inl, inr, is_gt, is_lt, length, map, not, refl, subst, suc, sym, true, ◌&&◌, ◌++◌, ◌∙◌, ◌∷◌, ◌≡◌, ◌≤◌, ◌⊎◌, IsTotalOrder, AllByRecursion, list_all, IsPermutation, IsStrictlySortedBy, ordering_reverse, and_parts, false≢true, not-true, tied_itself, IsPermutation-cons, IsPermutation-middle, IsPermutation-refl, IsPermutation-sym, IsPermutation-trans, distinct, insert_by, sort_by}
use Rattle.dns_spec.proofs.General.Elements.{Among, each_at, each_weaker}
use Rattle.dns_spec.proofs.General.Filters.{each_filter, filter_each, filter_short, among_filter, filter_among}
use Rattle.dns_spec.proofs.General.Orderings.{less_from}

-- no two elements are equal by the test `eq`
abbrev pub Apart : {X : Type 0} → (X → X → Bool) → List X → Type 0
Apart eq [] = Unit {0}
Apart eq (x ∷ xs) = AllByRecursion (λ y. eq x y ≡ false) xs × Apart eq xs

apart_filter : {X : Type 0} (eq : X → X → Bool) (p : X → Bool) (xs : List X)
    → Apart eq xs → Apart eq (filter p xs)
apart_filter eq p [] a = tt
apart_filter eq p (x ∷ xs) a = grind (arith, each_filter, (apart_filter eq p xs a.1))

pub apart_distinct : {X : Type 0} (eq : X → X → Bool) (xs : List X) → Apart eq (distinct eq xs)
apart_distinct eq [] = tt
apart_distinct {X} eq (x ∷ xs) =
    grind (arith, each_weaker, not-true, filter_each, apart_filter, (apart_distinct eq xs))

pub distinct_among : {X : Type 0} (eq : X → X → Bool) (a : X) (xs : List X)
    → Among a (distinct eq xs) → Among a xs
distinct_among eq a [] m = m
distinct_among eq a (x ∷ xs) (inl e) = inl e
distinct_among eq a (x ∷ xs) (inr m) =
    inr (distinct_among eq a xs (among_filter (λ y. not (eq x y)) a (distinct eq xs) m))

pub each_distinct : {X : Type 0} (P : X → Type 0) (eq : X → X → Bool) (xs : List X)
    → AllByRecursion P xs → AllByRecursion P (distinct eq xs)
each_distinct P eq [] e = tt
each_distinct P eq (x ∷ xs) e = grind (arith, each_filter, (each_distinct P eq xs e.1))

-- sorting keeps the elements
module _ {X : Type 0} (cmp : X → X → Ordering) where
  pub each_insert : (P : X → Type 0) (x : X) (ys : List X)
      → P x → AllByRecursion P ys → AllByRecursion P (insert_by cmp x ys)
  each_insert P x [] p e = (p, tt)
  each_insert P x (y ∷ ys) p e = grind (arith, (each_insert P x ys p e.1))

  pub each_sort : (P : X → Type 0) (xs : List X) → AllByRecursion P xs
      → AllByRecursion P (sort_by cmp xs)
  each_sort P [] e = tt
  each_sort P (x ∷ xs) e = each_insert P x (sort_by cmp xs) e.0 (each_sort P xs e.1)

  among_insert : (a x : X) (ys : List X) → (a ≡ x) ⊎ Among a ys → Among a (insert_by cmp x ys)
  among_insert a x [] m = m
  among_insert a x (y ∷ ys) m = grind (arith, inl, inr, (among_insert a x ys))

  insert_among : (a x : X) (ys : List X) → Among a (insert_by cmp x ys) → (a ≡ x) ⊎ Among a ys
  insert_among a x [] m = m
  insert_among a x (y ∷ ys) m = grind (arith, inl, inr, (insert_among a x ys))

  pub among_sort : (a : X) (xs : List X) → Among a xs → Among a (sort_by cmp xs)
  among_sort a [] m = m
  among_sort a (x ∷ xs) (inl e) = among_insert a x (sort_by cmp xs) (inl e)
  among_sort a (x ∷ xs) (inr m) = among_insert a x (sort_by cmp xs) (inr (among_sort a xs m))

  pub sort_among : (a : X) (xs : List X) → Among a (sort_by cmp xs) → Among a xs
  sort_among a [] m = m
  sort_among a (x ∷ xs) m =
      elim (insert_among a x (sort_by cmp xs) m) [ inl e ↦ inl e | inr k ↦ inr (sort_among a xs k) ]

  length-insert : (x : X) (ys : List X) → length (insert_by cmp x ys) ≡ suc (length ys)
  length-insert x [] = refl
  length-insert x (y ∷ ys) = grind (arith, (length-insert x ys))

  pub length-sort_by : (xs : List X) → length (sort_by cmp xs) ≡ length xs
  length-sort_by [] = refl
  length-sort_by (x ∷ xs) = length-insert x (sort_by cmp xs) ∙ ap suc (length-sort_by xs)

turned : (c : Ordering) → ordering_reverse c ≡ Greater → c ≡ Less
turned c h = grind arith

-- An order, and a test that elements of equal rank pass and that, for elements with the property
-- D, only equal elements pass.
module _ {X : Type 0} (cmp : X → X → Ordering) (order : IsTotalOrder cmp)
    (eq : X → X → Bool) (tie : (x y : X) → cmp x y ≡ Equal → eq x y ≡ true)
    (D : X → Type 0) (one : (x y : X) → D x → D y → eq x y ≡ true → x ≡ y) where
  before_all : (x y : X) (ys : List X)
      → cmp x y ≡ Less → AllByRecursion (λ z. cmp y z ≡ Less) ys
      → AllByRecursion (λ z. cmp x z ≡ Less) ys
  before_all x y [] p e = tt
  before_all x y (z ∷ zs) p e = (order.trans x y z p e.0, before_all x y zs p e.1)

  insert_rises : (x : X) (ys : List X)
      → Rises cmp ys → AllByRecursion (λ y. eq x y ≡ false) ys → Rises cmp (insert_by cmp x ys)
  insert_rises x [] r e = (tt, tt)
  insert_rises x (y ∷ ys) r e =
      grind (arith, before_all, false≢true, each_insert, turned, (insert_rises x ys r.1 e.1))

  pub sort_rises : (xs : List X) → Apart eq xs → Rises cmp (sort_by cmp xs)
  sort_rises [] a = tt
  sort_rises (x ∷ xs) a = grind (arith, insert_rises, (sort_rises xs a.1), each_sort)

  pub among_distinct : (a : X) (xs : List X) → AllByRecursion D xs → Among a xs
      → Among a (distinct eq xs)
  among_distinct a [] d m = m
  among_distinct a (x ∷ xs) d (inl e) = inl e
  among_distinct a (x ∷ xs) d (inr m) =
      grind (arith, inl, each_at, inr, filter_among, (among_distinct a xs d.1 m))

  apart : (x : X) → cmp x x ≡ Less → ⊥
  apart x p = false≢true (ap is_lt (sym (tied_itself order x) ∙ p))

  -- two rising lists with the same elements are equal
  pub same_risen : (xs ys : List X) → Rises cmp xs → Rises cmp ys
      → ((a : X) → Among a xs → Among a ys) → ((a : X) → Among a ys → Among a xs) → xs ≡ ys
  same_risen [] [] r s f g = refl
  same_risen [] (y ∷ ys) r s f g = absurd (g y (inl refl))
  same_risen (x ∷ xs) [] r s f g = absurd (f x (inl refl))
  same_risen (x ∷ xs) (y ∷ ys) r s f g =
      let e = heads (f x (inl refl)) (g y (inl refl)) in
      ap₂ (λ z zs. z ∷ zs) e (same_risen xs ys r.1 s.1
      (λ a m. after_y a (f a (inr m)) (λ p. apart x
      (subst (λ z. cmp x z ≡ Less) (p ∙ sym e) (each_at (λ z. cmp x z ≡ Less) a xs r.0 m))))
      (λ a m. after_x a (g a (inr m)) (λ p. apart y
      (subst (λ z. cmp y z ≡ Less) (p ∙ e) (each_at (λ z. cmp y z ≡ Less) a ys s.0 m)))))
    where
      heads : (x ≡ y) ⊎ Among x ys → (y ≡ x) ⊎ Among y xs → x ≡ y
      heads (inl e) k = e
      heads (inr m) (inl e) = sym e
      heads (inr m) (inr k) = grind (arith, each_at)

      after_y : (a : X) → (a ≡ y) ⊎ Among a ys → (a ≡ y → ⊥) → Among a ys
      after_y a (inl p) n = absurd (n p)
      after_y a (inr m) n = m

      after_x : (a : X) → (a ≡ x) ⊎ Among a xs → (a ≡ x → ⊥) → Among a xs
      after_x a (inl p) n = absurd (n p)
      after_x a (inr m) n = m

  pub same_sorted : (xs ys : List X) → AllByRecursion D xs
      → AllByRecursion D ys → ((a : X) → Among a xs → Among a ys)
      → ((a : X) → Among a ys → Among a xs)
      → sort_by cmp (distinct eq xs) ≡ sort_by cmp (distinct eq ys)
  same_sorted xs ys d d' f g =
      same_risen (sort_by cmp (distinct eq xs)) (sort_by cmp (distinct eq ys))
      (sort_rises (distinct eq xs) (apart_distinct eq xs))
      (sort_rises (distinct eq ys) (apart_distinct eq ys))
      (λ a m. among_sort cmp a (distinct eq ys) (among_distinct a ys d'
      (f a (distinct_among eq a xs (sort_among cmp a (distinct eq xs) m)))))
      (λ a m. among_sort cmp a (distinct eq xs) (among_distinct a xs d
      (g a (distinct_among eq a ys (sort_among cmp a (distinct eq ys) m)))))

-- a list in which each element is before those after it is sorted
pub sort_risen : {X : Type 0} (cmp : X → X → Ordering) (xs : List X)
    → Rises cmp xs → sort_by cmp xs ≡ xs
sort_risen cmp [] r = refl
sort_risen {X} cmp (x ∷ xs) r = ap (insert_by cmp x) (sort_risen cmp xs r.1) ∙ first x xs r.0
  where
    first : (x : X) (xs : List X) → AllByRecursion (λ y. cmp x y ≡ Less) xs
        → insert_by cmp x xs ≡ x ∷ xs
    first x [] e = refl
    first x (y ∷ ys) e = grind arith

-- sorting permutes the elements
pub permutation_insert : {X : Type 0} (cmp : X → X → Ordering) (x : X) (ys : List X)
    → IsPermutation (x ∷ ys) (insert_by cmp x ys)
permutation_insert cmp x [] = IsPermutation-refl (x ∷ [])
permutation_insert cmp x (y ∷ ys) = go (is_gt (cmp x y)) (permutation_insert cmp x ys)
  where
    go : (t : Bool) → IsPermutation (x ∷ ys) (insert_by cmp x ys)
        → IsPermutation (x ∷ y ∷ ys) (cond t (y ∷ insert_by cmp x ys) (x ∷ y ∷ ys))
    go true h =
        IsPermutation-trans (x ∷ y ∷ ys) (y ∷ x ∷ ys) (y ∷ insert_by cmp x ys)
        (IsPermutation-sym (y ∷ x ∷ ys) (x ∷ y ∷ ys) (IsPermutation-middle (y ∷ []) x ys))
        (IsPermutation-cons y (x ∷ ys) (insert_by cmp x ys) h)
    go false h = IsPermutation-refl (x ∷ y ∷ ys)

pub permutation_sort : {X : Type 0} (cmp : X → X → Ordering) (xs : List X)
    → IsPermutation xs (sort_by cmp xs)
permutation_sort cmp [] = IsPermutation-refl []
permutation_sort cmp (x ∷ xs) =
    IsPermutation-trans (x ∷ xs) (x ∷ sort_by cmp xs) (sort_by cmp (x ∷ xs))
    (IsPermutation-cons x xs (sort_by cmp xs) (permutation_sort cmp xs))
    (permutation_insert cmp x (sort_by cmp xs))

-- A list rises if this test of each element with those after it passes.
unfoldable pub rises_test : {X : Type 0} → (X → X → Ordering) → List X → Bool
rises_test cmp [] = true
rises_test cmp (x ∷ xs) = list_all (λ y. is_lt (cmp x y)) xs && rises_test cmp xs

pub rises_from : {X : Type 0} (cmp : X → X → Ordering) (xs : List X)
    → rises_test cmp xs ≡ true → Rises cmp xs
unfolding rises_test
rises_from cmp [] e = tt
rises_from {X} cmp (x ∷ xs) e =
    let parts = and_parts (list_all (λ y. is_lt (cmp x y)) xs) (rises_test cmp xs) e in
    (each_less xs parts.0, rises_from cmp xs parts.1)
  where
    each_less : (ys : List X)
        → list_all (λ y. is_lt (cmp x y)) ys ≡ true → AllByRecursion (λ y. cmp x y ≡ Less) ys
    each_less [] e = tt
    each_less (y ∷ ys) e = let parts =
        and_parts (is_lt (cmp x y)) _ e in (less_from (cmp x y) parts.0, each_less ys parts.1)

pub rises_filtered : {X : Type 0} (cmp : X → X → Ordering) (p : X → Bool) (xs : List X)
    → Rises cmp xs → Rises cmp (filter p xs)
rises_filtered cmp p [] r = tt
rises_filtered {X} cmp p (x ∷ xs) r = grind (arith, each_filter, (rises_filtered cmp p xs r.1))

pub rises_mapped : {X Y : Type 0} (cmp : X → X → Ordering) (order : Y → Y → Ordering) (f : X → Y)
    → ((x y : X) → cmp x y ≡ Less → order (f x) (f y) ≡ Less)
    → (xs : List X) → Rises cmp xs → Rises order (map f xs)
rises_mapped cmp order f keeps [] r = tt
rises_mapped {X} {Y} cmp order f keeps (x ∷ xs) r =
    (each xs r.0, rises_mapped cmp order f keeps xs r.1)
  where
    each : (ys : List X)
        → AllByRecursion (λ y. cmp x y ≡ Less) ys
        → AllByRecursion (λ y. order (f x) y ≡ Less) (map f ys)
    each [] e = tt
    each (y ∷ ys) e = (keeps x y e.0, each ys e.1)

pub rises_joined : {X : Type 0} (cmp : X → X → Ordering) (xs ys : List X) → Rises cmp xs
    → Rises cmp ys → ((x y : X) → Among x xs → Among y ys → cmp x y ≡ Less) → Rises cmp (xs ++ ys)
rises_joined cmp [] ys r s before = s
rises_joined {X} cmp (x ∷ xs) ys r s before = (
  each_joined xs ys r.0 (λ y m. before x y (inl refl) m),
  rises_joined cmp xs ys r.1 s (λ a y m k. before a y (inr m) k),
)
  where
    from_among : (zs : List X)
        → ((z : X) → Among z zs → cmp x z ≡ Less) → AllByRecursion (λ z. cmp x z ≡ Less) zs
    from_among [] f = tt
    from_among (z ∷ zs) f = (f z (inl refl), from_among zs (λ a m. f a (inr m)))

    each_joined : (zs ws : List X) → AllByRecursion (λ y. cmp x y ≡ Less) zs
        → ((y : X) → Among y ws → cmp x y ≡ Less) → AllByRecursion (λ y. cmp x y ≡ Less) (zs ++ ws)
    each_joined [] ws e f = from_among ws f
    each_joined (z ∷ zs) ws e f = (e.0, each_joined zs ws e.1 f)

pub strictly_sorted : {X : Type 0} (cmp : X → X → Ordering) (xs : List X)
    → Rises cmp xs → IsStrictlySortedBy cmp xs
unfolding IsStrictlySortedBy
strictly_sorted cmp xs h = grind arith

pub sort_short : {X : Type 0} (cmp : X → X → Ordering) (xs : List X)
    → length xs ≤ 1 → sort_by cmp xs ≡ xs
sort_short cmp [] h = refl
sort_short cmp (x ∷ []) h = refl
sort_short cmp (x ∷ y ∷ xs) h = absurd (omega arith)

pub length_distinct : {X : Type 0} (eq : X → X → Bool) (xs : List X)
    → length (distinct eq xs) ≤ length xs
length_distinct eq [] = omega arith
length_distinct eq (x ∷ xs) = grind (arith, filter_short, (length_distinct eq xs))
