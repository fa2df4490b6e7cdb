-- The part of a list from one index to before another, and the elements that pass a test.
use Rattle.dns_zone.proofs.Common.{◌≡◌, ℕ, zero, suc, ◌+◌, ◌-◌, ◌<◌, ◌≤◌, Bool, true, List, [], ◌∷◌, ◌++◌, length, take, drop, get_or, sym, ap, ◌∙◌, arith, subst, filter, length-append, length-take, length-drop, take-append-drop, take-append-le, get_or-take, get_or-drop, nil_from_length, filter-append, drop-drop, take-add, AllByRecursion, filter_each, span}
use Rattle.dns_spec.proofs.General.Elements.{each_get}
use Rattle.dns_spec.proofs.General.Filters.{filter_again}

pub drop_span : {X : Type 0} (a b : ℕ) (xs : List X) → a ≤ b → drop a xs ≡ span xs a b ++ drop b xs
drop_span a b xs h =
    let e : a + (b - a) ≡ b = omega arith in
    sym (take-append-drop (b - a) (drop a xs))
    ∙ ap (λ ys. take (b - a) (drop a xs) ++ ys)
    (drop-drop (b - a) a xs ∙ ap (λ k. drop k xs) e)

pub take_span : {X : Type 0} (a b : ℕ) (xs : List X) → a ≤ b → take b xs ≡ take a xs ++ span xs a b
take_span a b xs h =
    let e : b ≡ a + (b - a) = omega arith in
    ap (λ k. take k xs) e ∙ take-add a (b - a) xs

-- if a part contains exactly the passing elements, none before or after it passes
module _ {X : Type 0} (p : X → Bool) (xs : List X) (a b : ℕ) (h : a ≤ b)
    (e : span xs a b ≡ filter p xs) where
  lengths : length (filter p xs)
      ≡ length (filter p (take a xs)) + (length (filter p xs) + length (filter p (drop b xs)))
  lengths =
      let inner : filter p (span xs a b) ≡ filter p xs = ap (filter p) e ∙ filter_again p xs in
      let rest : filter p (drop a xs) ≡ filter p xs ++ filter p (drop b xs) =
      ap (filter p) (drop_span a b xs h) ∙ filter-append p (span xs a b) (drop b xs)
      ∙ ap (λ ys. ys ++ filter p (drop b xs)) inner
      in
      let whole : filter p xs ≡ filter p (take a xs) ++ (filter p xs ++ filter p (drop b xs)) =
      ap (filter p) (sym (take-append-drop a xs)) ∙ filter-append p (take a xs) (drop a xs)
      ∙ ap (λ ys. filter p (take a xs) ++ ys) rest
      in
      ap length whole ∙ length-append (filter p (take a xs)) (filter p xs ++ filter p (drop b xs))
      ∙ ap (λ (k : ℕ). length (filter p (take a xs)) + k)
      (length-append (filter p xs) (filter p (drop b xs)))

  pub none_before : filter p (take a xs) ≡ []
  none_before = grind (arith, lengths, nil_from_length)

  pub none_past : filter p (drop b xs) ≡ []
  none_past = grind (arith, lengths, nil_from_length)

  -- each element of the part passes
  pub in_span : (k : ℕ) (d : X) → a ≤ k → k < b → b ≤ length xs → p (get_or xs k d) ≡ true
  in_span k d l m f =
      let fits : k - a < length (span xs a b) = grind (arith, length-take, length-drop) in
      let here : get_or (span xs a b) (k - a) d ≡ get_or xs k d =
      grind (arith, get_or-take, get_or-drop) in
      subst (λ x. p x ≡ true) here
      (each_get (λ x. p x ≡ true) (span xs a b) (k - a) d
      (subst (AllByRecursion (λ x. p x ≡ true)) (sym e) (filter_each p xs)) fits)

-- if no element passes from index a on, none passes from a later index on
pub nothing_further : {X : Type 0} (p : X → Bool) (xs : List X) (a b : ℕ) → a ≤ b
    → filter p (drop a xs) ≡ [] → filter p (drop b xs) ≡ []
nothing_further p xs a b h e =
    let parts : filter p (span xs a b) ++ filter p (drop b xs) ≡ [] =
    sym (filter-append p (span xs a b) (drop b xs)) ∙ ap (filter p) (sym (drop_span a b xs h))
    ∙ e in
    let n : length (filter p (drop b xs)) ≡ 0 =
    omega (
      arith,
      ap length parts,
      length-append (filter p (span xs a b)) (filter p (drop b xs)),
    ) in
    nil_from_length (filter p (drop b xs)) n

-- a part of a prefix
pub span_front : {X : Type 0} (xs ys : List X) (a b : ℕ) → b ≤ length xs
    → span (xs ++ ys) a b ≡ span xs a b
span_front xs ys zero b h = take-append-le (b - 0) xs ys (omega arith)
span_front [] ys (suc a) b h = grind arith
span_front (x ∷ xs) ys (suc a) zero h = grind arith
span_front (x ∷ xs) ys (suc a) (suc b) h = grind (arith, (span_front xs ys a b (omega arith)))
