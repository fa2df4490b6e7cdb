-- What holds for each element of a list, and membership in lists.
use mathlib.Core.List.{reverse_aux}
pub use Rattle.dns_spec.specs.Lists.{Among}
use Rattle.dns_spec.proofs.Common.{All, List, [], ap, arith, drop, get_or, inl, inr, length, map, refl, subst, suc, sym, take, zero, ℕ, ◌++◌, ◌<◌, ◌∷◌, ◌≡◌, ◌⊎◌, AllByRecursion, Contains, flat_map, get_or_default, flat_map-cons, All-contains, All-from_recursion, map_push, reverse, reverse-append, ◌∙◌}

-- `AllByRecursion P` is a proof of P for each element: the trivial P, and a P that always holds
pub each_any : {X : Type 0} (xs : List X) → AllByRecursion (λ _. Unit {0}) xs
each_any [] = tt
each_any (x ∷ xs) = (tt, each_any xs)

pub each_always : {X : Type 0} (P : X → Type 0) (xs : List X)
    → ((x : X) → P x) → AllByRecursion P xs
each_always P [] f = tt
each_always P (x ∷ xs) f = (f x, each_always P xs f)

-- a proof for the first element in front of the proofs for the others
infixr 10 ◌⊲◌
abbrev pub ◌⊲◌ : {P Q : Type 0} → P → Q → P × Q
p ⊲ q = (p, q)

pub each_weaker : {X : Type 0} (P Q : X → Type 0) (xs : List X)
    → ((x : X) → P x → Q x) → AllByRecursion P xs → AllByRecursion Q xs
each_weaker P Q [] f e = tt
each_weaker P Q (x ∷ xs) f e = (f x e.0, each_weaker P Q xs f e.1)

-- if two properties hold for each element, so does a third property that they imply
pub each_both : {X : Type 0} (P Q S : X → Type 0) (xs : List X)
    → ((x : X) → P x → Q x → S x) → AllByRecursion P xs → AllByRecursion Q xs → AllByRecursion S xs
each_both P Q S [] f p q = tt
each_both P Q S (x ∷ xs) f p q = (f x p.0 q.0, each_both P Q S xs f p.1 q.1)

pub each_append : {X : Type 0} (P : X → Type 0) (xs ys : List X)
    → AllByRecursion P xs → AllByRecursion P ys → AllByRecursion P (xs ++ ys)
each_append P [] ys e f = f
each_append P (x ∷ xs) ys e f = (e.0, each_append P xs ys e.1 f)

-- what holds for each element holds for the first elements, for the last elements, with one more
-- element, and for parts of a list
pub each_front : {X : Type 0} (P : X → Type 0) (xs ys : List X)
    → AllByRecursion P (xs ++ ys) → AllByRecursion P xs
each_front P [] ys e = tt
each_front P (x ∷ xs) ys e = (e.0, each_front P xs ys e.1)

pub each_back : {X : Type 0} (P : X → Type 0) (xs ys : List X)
    → AllByRecursion P (xs ++ ys) → AllByRecursion P ys
each_back P [] ys e = e
each_back P (x ∷ xs) ys e = each_back P xs ys e.1

pub each_push : {X : Type 0} (P : X → Type 0) (xs : List X) (x : X) → AllByRecursion P xs → P x
    → AllByRecursion P (xs ++ x ∷ [])
each_push P [] x e p = (p, tt)
each_push P (y ∷ xs) x e p = (e.0, each_push P xs x e.1 p)

pub each_take : {X : Type 0} (P : X → Type 0) (k : ℕ) (xs : List X) → AllByRecursion P xs
    → AllByRecursion P (take k xs)
each_take P zero xs e = tt
each_take P (suc k) [] e = tt
each_take P (suc k) (x ∷ xs) e = (e.0, each_take P k xs e.1)

pub each_drop : {X : Type 0} (P : X → Type 0) (k : ℕ) (xs : List X) → AllByRecursion P xs
    → AllByRecursion P (drop k xs)
each_drop P zero xs e = e
each_drop P (suc k) [] e = e
each_drop P (suc k) (x ∷ xs) e = each_drop P k xs e.1

-- one more element, inserted at the index i
pub each_put : {X : Type 0} (P : X → Type 0) (xs : List X) (i : ℕ) (x : X) → AllByRecursion P xs
    → P x → AllByRecursion P (take i xs ++ x ∷ drop i xs)
each_put P xs zero x e p = (p, e)
each_put P [] (suc i) x e p = (p, tt)
each_put P (y ∷ ys) (suc i) x e p = (e.0, each_put P ys i x e.1 p)

pub each_map : {X Y : Type 0} (P : Y → Type 0) (f : X → Y) (xs : List X)
    → AllByRecursion (λ x. P (f x)) xs → AllByRecursion P (map f xs)
each_map P f [] e = tt
each_map P f (x ∷ xs) e = (e.0, each_map P f xs e.1)

pub map_each : {X Y : Type 0} (f : X → Y) (P : Y → Type 0) (xs : List X)
    → AllByRecursion P (map f xs) → AllByRecursion (λ x. P (f x)) xs
map_each f P [] e = tt
map_each f P (x ∷ xs) e = (e.0, map_each f P xs e.1)

pub each_flat_map : {X Y : Type 0} (P : Y → Type 0) (Q : X → Type 0) (f : X → List Y) (xs : List X)
    → ((x : X) → Q x → AllByRecursion P (f x)) → AllByRecursion Q xs
    → AllByRecursion P (flat_map f xs)
each_flat_map P Q f [] g e = tt
each_flat_map P Q f (x ∷ xs) g e = grind (arith, each_append, (each_flat_map P Q f xs g e.1))

pub each_reverse_onto : {X : Type 0} (P : X → Type 0) (xs ys : List X)
    → AllByRecursion P xs → AllByRecursion P ys → AllByRecursion P (reverse_aux xs ys)
each_reverse_onto P [] ys e f = f
each_reverse_onto P (x ∷ xs) ys e f = each_reverse_onto P xs (x ∷ ys) e.1 (e.0, f)

pub each_get : {X : Type 0} (P : X → Type 0) (xs : List X) (k : ℕ) (d : X)
    → AllByRecursion P xs → k < length xs → P (get_or xs k d)
each_get P [] k d e h = absurd (omega arith)
each_get P (x ∷ xs) zero d e h = e.0
each_get P (x ∷ xs) (suc k) d e h = each_get P xs k d e.1 (omega arith)

pub each_from_get : {X : Type 0} (P : X → Type 0) (xs : List X)
    → ((k : ℕ) (d : X) → k < length xs → P (get_or xs k d)) → AllByRecursion P xs
each_from_get P [] h = tt
each_from_get P (x ∷ xs) h =
    (h 0 x (omega arith), each_from_get P xs (λ k d l. h (suc k) d (omega arith)))

pub each_at : {X : Type 0} (P : X → Type 0) (a : X) (xs : List X) → AllByRecursion P xs → Among a xs
    → P a
each_at P a [] e m = absurd m
each_at P a (x ∷ xs) e (inl p) = subst P (sym p) e.0
each_at P a (x ∷ xs) e (inr m) = each_at P a xs e.1 m

pub each_among : {X : Type 0} (P : X → Type 0) (xs : List X)
    → ((x : X) → Among x xs → P x) → AllByRecursion P xs
each_among P [] f = tt
each_among P (x ∷ xs) f = (f x (inl refl), each_among P xs (λ y m. f y (inr m)))

pub among_mapped : {X Y : Type 0} (f : X → Y) (x : X) (xs : List X)
    → Among x xs → Among (f x) (map f xs)
among_mapped f x [] m = absurd m
among_mapped f x (y ∷ ys) (inl e) = inl (ap f e)
among_mapped f x (y ∷ ys) (inr m) = inr (among_mapped f x ys m)

pub mapped_among : {X Y : Type 0} (f : X → Y) (a : Y) (xs : List X)
    → Among a (map f xs) → (x : X) × Among x xs × (a ≡ f x)
mapped_among f a [] m = absurd m
mapped_among f a (y ∷ ys) (inl e) = (y, inl refl, e)
mapped_among f a (y ∷ ys) (inr m) = let r = mapped_among f a ys m in (r.0, inr r.1, r.2)

-- membership in joined, mapped and filtered lists
pub among_front : {X : Type 0} (a : X) (xs ys : List X) → Among a xs → Among a (xs ++ ys)
among_front a [] ys m = absurd m
among_front a (x ∷ xs) ys (inl e) = inl e
among_front a (x ∷ xs) ys (inr m) = inr (among_front a xs ys m)

pub among_back : {X : Type 0} (a : X) (xs ys : List X) → Among a ys → Among a (xs ++ ys)
among_back a [] ys m = m
among_back a (x ∷ xs) ys m = inr (among_back a xs ys m)

pub among_either : {X : Type 0} (a : X) (xs ys : List X) → Among a (xs ++ ys)
    → Among a xs ⊎ Among a ys
among_either a [] ys m = inr m
among_either a (x ∷ xs) ys (inl e) = inl (inl e)
among_either a (x ∷ xs) ys (inr m) = grind (arith, (among_either a xs ys m))

pub among_joined : {X Y : Type 0} (f : X → List Y) (a : Y) (x : X) (xs : List X)
    → Among x xs → Among a (f x) → Among a (flat_map f xs)
among_joined f a x [] m k = absurd m
among_joined f a x (y ∷ ys) (inl e) k = grind (arith, flat_map-cons, among_front)
among_joined f a x (y ∷ ys) (inr m) k = grind (arith, among_back, (among_joined f a x ys m k))

pub joined_among : {X Y : Type 0} (f : X → List Y) (a : Y) (xs : List X)
    → Among a (flat_map f xs) → (x : X) × Among x xs × Among a (f x)
joined_among f a [] m = absurd m
joined_among f a (y ∷ ys) m =
    elim (among_either a (f y) (flat_map f ys) (subst (Among a) (flat_map-cons f y ys) m)) [
      | inl k ↦ (y, inl refl, k)
      | inr k ↦ let r = joined_among f a ys k in (r.0, inr r.1, r.2)
    ]

module _ {X Y : Type 0} (f : X → Y) where
  pub put_among : (a : Y) (xs : List X) (i : ℕ) (x : X)
      → Among a (map f (take i xs ++ x ∷ drop i xs)) → (a ≡ f x) ⊎ Among a (map f xs)
  put_among a xs zero x m = m
  put_among a [] (suc i) x m = m
  put_among a (y ∷ ys) (suc i) x (inl e) = inr (inl e)
  put_among a (y ∷ ys) (suc i) x (inr m) = grind (arith, (put_among a ys i x m))

  pub among_put : (a : Y) (xs : List X) (i : ℕ) (x : X) → (a ≡ f x) ⊎ Among a (map f xs)
      → Among a (map f (take i xs ++ x ∷ drop i xs))
  among_put a xs zero x m = m
  among_put a [] (suc i) x m = m
  among_put a (y ∷ ys) (suc i) x (inl e) = inr (among_put a ys i x (inl e))
  among_put a (y ∷ ys) (suc i) x (inr (inl e)) = inl e
  among_put a (y ∷ ys) (suc i) x (inr (inr m)) = inr (among_put a ys i x (inr m))

-- membership by places (`Contains`) and by recursion (`Among`)
pub contains_among : {X : Type 0} (a : X) (xs : List X) → Contains xs a → Among a xs
contains_among a [] c = absurd (omega (arith, c.1))
contains_among a (x ∷ xs) (zero, h, e) = inl (sym e)
contains_among a (x ∷ xs) (suc k, h, e) = inr (contains_among a xs (k, omega arith, e))

pub among_get : {X : Type 0} (xs : List X) (i : ℕ) (d : X)
    → i < length xs → Among (get_or xs i d) xs
among_get xs i d l = contains_among _ xs (i, l, get_or_default xs i _ d l)

pub among_contains : {X : Type 0} (a : X) (xs : List X) → Among a xs → Contains xs a
among_contains a [] m = absurd m
among_contains a (x ∷ xs) (inl e) = (zero, omega arith, sym e)
among_contains a (x ∷ xs) (inr m) =
    let c = among_contains a xs m in (suc c.0, omega (arith, c.1), c.2)

pub among_held : {X : Type 0} (a : X) (xs ys : List X) → All (Contains ys) xs → Among a xs
    → Among a ys
among_held a xs ys held m =
    contains_among a ys (All-contains (Contains ys) xs a held (among_contains a xs m))

pub held_among : {X : Type 0} (xs ys : List X)
    → ((a : X) → Among a xs → Among a ys) → All (Contains ys) xs
held_among xs ys forth = search (All-from_recursion, each_among, among_contains)

pub map_reverse : {X Y : Type 0} (f : X → Y) (xs : List X) → map f (reverse xs) ≡ reverse (map f xs)
map_reverse f [] = refl
map_reverse f (x ∷ xs) =
    ap (map f) (reverse-append (x ∷ []) xs) ∙ map_push f (reverse xs) x
    ∙ ap (λ ys. ys ++ f x ∷ []) (map_reverse f xs) ∙ sym (reverse-append (f x ∷ []) (map f xs))
