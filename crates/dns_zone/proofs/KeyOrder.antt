-- The keys of names in lower case are in the order of the names.
use Rattle.dns_zone.proofs.Common.{◌≡◌, ℕ, ◌+◌, ◌<◌, ◌⊎◌, inl, inr, [], ◌∷◌, ◌++◌, length, drop, get_or, map, reverse, refl, sym, ap, ap₂, ◌∙◌, Ordering, Less, Equal, Greater, nat_cmp, arith, cases_order, cases_lt, flat_map-cons, to_ascii_lowercase, nat_cmp_is, slice_cmp, flat_map, ordering_then, Octets, DomainName, folded, label_order, name_order, wire, reverse-append, length-map, length-append, flat_map_more, lowercase_is, raised, ended, name_key}
use Rattle.dns_spec.proofs.General.Orderings.{then_assoc}
use Rattle.dns_spec.proofs.General.Elements.{map_reverse}

-- an octet of a name in lower case
abbrev pub IsLow : ℕ → Type 0
IsLow o = (o < 65) ⊎ (90 < o)

pub low_octet : (o : ℕ) → to_ascii_lowercase o ≡ o → IsLow o
low_octet o e = grind (arith, cases_lt, lowercase_is)

pub raised_some : (o : ℕ) → 0 < raised o
raised_some o = grind arith

pub raised_less : (x y : ℕ) → IsLow x → IsLow y → x < y → raised x < raised y
raised_less x y p q l = grind arith

raised_order : (x y : ℕ) → IsLow x → IsLow y → nat_cmp (raised x) (raised y) ≡ nat_cmp x y
raised_order x y p q = go (cases_order x y)
  where
    go : (x ≡ y) ⊎ ((x < y) ⊎ (y < x)) → nat_cmp (raised x) (raised y) ≡ nat_cmp x y
    go (inl e) = sym (nat_cmp_is (raised x) (raised y) Equal (ap raised e)) ∙ nat_cmp_is x y Equal e
    go (inr (inl l)) =
        sym (nat_cmp_is (raised x) (raised y) Less (raised_less x y p q l)) ∙ nat_cmp_is x y Less l
    go (inr (inr l)) = sym (nat_cmp_is (raised x) (raised y) Greater (raised_less y x q p l))
        ∙ nat_cmp_is x y Greater l

-- ended labels compare as the labels do, and then by what follows them
ended_order : (xs ys us vs : Octets)
    → map to_ascii_lowercase xs ≡ xs → map to_ascii_lowercase ys ≡ ys → slice_cmp nat_cmp
    (ended xs ++ us) (ended ys ++ vs) ≡ ordering_then (label_order xs ys) (slice_cmp nat_cmp us vs)
ended_order [] [] us vs p q = refl
ended_order [] (y ∷ ys) us vs p q = ap (λ o. ordering_then o
    (slice_cmp nat_cmp us (ended ys ++ vs))) (sym (nat_cmp_is 0 (raised y) Less (raised_some y)))
ended_order (x ∷ xs) [] us vs p q = ap (λ o. ordering_then o
    (slice_cmp nat_cmp (ended xs ++ us) vs)) (sym (nat_cmp_is (raised x) 0 Greater (raised_some x)))
ended_order (x ∷ xs) (y ∷ ys) us vs p q =
    grind (
      arith,
      ordering_then,
      raised_order,
      low_octet,
      get_or,
      (λ (a b c : Ordering). sym (then_assoc a b c)),
      nat_cmp,
      label_order,
      slice_cmp,
      (ended_order xs ys us vs (ap (drop 1) p) (ap (drop 1) q)),
    )

ended_first : (l us : Octets) → slice_cmp nat_cmp [] (ended l ++ us) ≡ Less
ended_first [] us = refl
ended_first (o ∷ l) us = refl

ended_last : (l us : Octets) → slice_cmp nat_cmp (ended l ++ us) [] ≡ Greater
ended_last [] us = refl
ended_last (o ∷ l) us = refl

ended_names : (n m : DomainName) → folded n ≡ n → folded m ≡ m
    → slice_cmp nat_cmp (flat_map ended n) (flat_map ended m) ≡ slice_cmp label_order n m
ended_names [] [] p q = refl
ended_names [] (k ∷ m) p q = simp (slice_cmp, nat_cmp, flat_map-cons, ended, ended_first, flat_map)
ended_names (l ∷ n) [] p q = simp (slice_cmp, nat_cmp, flat_map-cons, ended, ended_last, flat_map)
ended_names (l ∷ n) (k ∷ m) p q =
    grind (
      arith,
      slice_cmp,
      nat_cmp,
      flat_map-cons,
      ended,
      ended_order,
      flat_map,
      get_or,
      ordering_then,
      label_order,
      ended_names n m (ap (drop 1) p) (ap (drop 1) q),
    )

pub key_flat : (n : DomainName) → name_key n ≡ flat_map ended (reverse n)
key_flat [] = refl
key_flat (l ∷ n) =
    ap (λ xs. xs ++ ended l) (key_flat n) ∙ flat_map_more ended [] (reverse n) l
    ∙ ap (flat_map ended) (sym (reverse-append (l ∷ []) n))

pub key_order : (n m : DomainName)
    → folded n ≡ n → folded m ≡ m → slice_cmp nat_cmp (name_key n) (name_key m) ≡ name_order n m
key_order n m p q = grind (arith, map_reverse, ap₂, key_flat, ended_names)

-- a key is one octet shorter than the wire form
pub key_length : (n : DomainName) → length (name_key n) + 1 ≡ length (wire n)
key_length [] = refl
key_length (l ∷ n) = grind (arith, length-append, length-map, (key_length n))
