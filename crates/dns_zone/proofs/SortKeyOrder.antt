-- Places are in the order of their records.
use Rattle.dns_zone.proofs.Common.{◌≡◌, ℕ, zero, suc, ◌≤◌, ◌⊎◌, inl, inr, [], ◌∷◌, length, subst, wire, IsEight, take, drop, min-eq_left, take_all, drop_all, cases_lt, refl, sym, ap, ap₂, ◌∙◌, arith, Ordering, Less, Equal, Greater, cases_order, nat_cmp, nat_cmp_is, nat_cmp_total, nat_list_cmp_total, IsTotalOrder, then_total, on_total, ordering_then, ordering_reverse, slice_cmp, tied_itself, List, Octets, ResourceRecord, LowerOwner, record_order, name_key, placed, sorted_key, sort_key_order, own_order, AreFronts, IsSortKey, SortKey}
use Rattle.std.specs.Prelude.{min}
use Rattle.std.proofs.Math.Nat.{min-eq_right}
use Rattle.dns_zone.proofs.KeyOrder.{key_order}
use Rattle.dns_zone.proofs.LabelKeys.{front_order, next_order}
use Rattle.dns_spec.proofs.General.Orderings.{then_assoc}

own_total : IsTotalOrder own_order
own_total =
    then_total (on_total (λ (r : ResourceRecord). r.rtype) nat_cmp_total)
    (then_total (on_total (λ (r : ResourceRecord). r.rdata) nat_list_cmp_total)
    (on_total (λ (r : ResourceRecord). r.ttl) nat_cmp_total))

pub sort_key_order_total : (keys : Octets) (rs : List ResourceRecord) (first : ResourceRecord)
    → IsTotalOrder (sort_key_order keys rs first)
sort_key_order_total keys rs first =
    then_total (on_total (λ (p : SortKey). p.front) nat_cmp_total)
    (then_total (on_total (λ (p : SortKey). p.next) nat_cmp_total)
    (then_total (on_total (sorted_key keys rs first) nat_list_cmp_total)
    (on_total (placed rs first) own_total)))

-- lists of which the first n octets differ, and lists of which they are equal
prefix_less : (n : ℕ) (a b : Octets) → slice_cmp nat_cmp (take n a) (take n b) ≡ Less
    → slice_cmp nat_cmp a b ≡ Less
prefix_less zero a b h = grind arith
prefix_less (suc n) [] [] h = grind arith
prefix_less (suc n) [] (y ∷ b) h = refl
prefix_less (suc n) (x ∷ a) [] h = grind arith
prefix_less (suc n) (x ∷ a) (y ∷ b) h = grind (arith, slice_cmp, ordering_then, prefix_less n a b)

prefix_tied : (n : ℕ) (a b : Octets) → slice_cmp nat_cmp (take n a) (take n b) ≡ Equal
    → slice_cmp nat_cmp (drop n a) (drop n b) ≡ slice_cmp nat_cmp a b
prefix_tied zero a b h = refl
prefix_tied (suc n) [] [] h = refl
prefix_tied (suc n) [] (y ∷ b) h = grind arith
prefix_tied (suc n) (x ∷ a) [] h = grind arith
prefix_tied (suc n) (x ∷ a) (y ∷ b) h = grind (arith, slice_cmp, ordering_then, prefix_tied n a b)

pub take_min : (n : ℕ) (xs : Octets) → take (min n (length xs)) xs ≡ take n xs
take_min n xs = grind (arith, cases_lt, min-eq_left, min-eq_right, take_all)

pub drop_min : (n : ℕ) (xs : Octets) → drop (min n (length xs)) xs ≡ drop n xs
drop_min n xs = grind (arith, cases_lt, min-eq_left, min-eq_right, drop_all)

-- numbers that do not fall, and then a key that is less
rising : (f g i j : ℕ) → f ≤ g → i ≤ j
    → ordering_then (nat_cmp f g) (ordering_then (nat_cmp i j) Less) ≡ Less
rising f g i j l m = grind (arith, cases_order, nat_cmp_is)

falling : (f g i j : ℕ) → g ≤ f → j ≤ i
    → ordering_then (nat_cmp f g) (ordering_then (nat_cmp i j) Greater) ≡ Greater
falling f g i j l m = grind (arith, cases_order, nat_cmp_is)

same_first : (f g : ℕ) (c : Ordering) → f ≡ g → ordering_then (nat_cmp f g) c ≡ c
same_first f g c e = grind (arith, nat_cmp_is)

first_decides : (f g : ℕ) (c d : Ordering) → (f ≡ g → ⊥) → nat_cmp f g ≡ d
    → ordering_then (nat_cmp f g) c ≡ d
first_decides f g c d n e = grind (arith, cases_order, nat_cmp_is)

alike : (f g i j : ℕ) (c : Ordering) → f ≡ g → i ≡ j
    → ordering_then (nat_cmp f g) (ordering_then (nat_cmp i j) c) ≡ c
alike f g i j c l m = grind (arith, same_first, ordering_then, nat_cmp)

pub either : (a b : ℕ) → (a ≡ b) ⊎ (a ≡ b → ⊥)
either a b = grind (arith, inl, inr, cases_order)

-- sort keys that share a key
pub shared_key : (keys : Octets) (rs : List ResourceRecord) (first : ResourceRecord) (p q : SortKey)
    → p.start ≡ q.start
    → length (wire (placed rs first p).owner) ≡ length (wire (placed rs first q).owner)
    → Equal ≡ slice_cmp nat_cmp (sorted_key keys rs first p) (sorted_key keys rs first q)
shared_key keys rs first p q e f =
    grind (arith, slice_cmp, nat_cmp, ap₂, tied_itself, nat_list_cmp_total)

module _ (o : Octets) where
  abbrev side : Octets → Ordering
  side a = slice_cmp nat_cmp (take (length o) a) o

  -- the order of keys, after their numbers
  abbrev by_numbers : Octets → Octets → ℕ → ℕ → ℕ → ℕ → Ordering
  by_numbers a b f i g j =
      ordering_then (nat_cmp f g) (ordering_then (nat_cmp i j) (slice_cmp nat_cmp a b))

  abbrev fronts_cmp : Octets → Octets → Ordering
  fronts_cmp a b = slice_cmp nat_cmp (take (length o) a) (take (length o) b)

  sides : (a b : Octets) → fronts_cmp a b ≡ Less → (side a ≡ Less) ⊎ (side b ≡ Greater)
  sides a b l = go (side a) refl
    where
      turned : slice_cmp nat_cmp o (take (length o) b) ≡ Less → side b ≡ Greater
      turned e = nat_list_cmp_total.antisymm (take (length o) b) o ∙ ap ordering_reverse e

      go : (x : Ordering) → side a ≡ x → (side a ≡ Less) ⊎ (side b ≡ Greater)
      go Less e = inl e
      go Equal e =
          inr (turned (sym (nat_list_cmp_total.congr (take (length o) a) o (take (length o) b) e) ∙ l))
      go Greater e =
          inr (turned (nat_list_cmp_total.trans o (take (length o) a) (take (length o) b)
          (nat_list_cmp_total.antisymm o (take (length o) a) ∙ ap ordering_reverse e) l))

  module _ (a b : Octets) (f i g j : ℕ) (p : AreFronts o a f i) (q : AreFronts o b g j) where
    -- if the first octets of a are less, so is the key a, and its numbers are not greater
    not_greater : fronts_cmp a b ≡ Less → (f ≤ g) × (i ≤ j)
    not_greater l = go (sides a b l)
      where
        go : (side a ≡ Less) ⊎ (side b ≡ Greater) → (f ≤ g) × (i ≤ j)
        go (inl h) = (omega (arith, (p.less h).0), omega (arith, (p.less h).1))
        go (inr k) =
            let front = p.front_fits in
            let next = p.next_fits in
            (omega (arith, front, (q.greater k).0), omega (arith, next, (q.greater k).1))

    both_equal : side a ≡ Equal → side b ≡ Equal
        → by_numbers a b f i g j ≡ slice_cmp nat_cmp a b
    both_equal h k = go (either f g) (either i j)
      where
        tied_other : slice_cmp nat_cmp o (take (length o) b) ≡ Equal
        tied_other = nat_list_cmp_total.antisymm o (take (length o) b) ∙ ap ordering_reverse k

        tied : slice_cmp nat_cmp (drop (length o) a) (drop (length o) b) ≡ slice_cmp nat_cmp a b
        tied = grind (arith, prefix_tied, o, a, b, nat_list_cmp_total, h, tied_other)

        go : (f ≡ g) ⊎ (f ≡ g → ⊥) → (i ≡ j) ⊎ (i ≡ j → ⊥)
            → by_numbers a b f i g j ≡ slice_cmp nat_cmp a b
        go (inr n) e = grind (arith, first_decides, f, g, front_order, p, h, q, k, tied)
        go (inl e) (inl m) = alike f g i j (slice_cmp nat_cmp a b) e m
        go (inl e) (inr n) =
            same_first f g _ e
            ∙ first_decides i j _ _ n (next_order (p.equal h).0
            (subst (λ x. IsEight x (drop (length o) b)) (sym e) (q.equal k).0)
            (p.equal h).1 (q.equal k).1 n ∙ tied)

    -- if the first octets of the keys are equal, so are the numbers, or they decide as the keys do
    tied_fronts : fronts_cmp a b ≡ Equal → by_numbers a b f i g j ≡ slice_cmp nat_cmp a b
    tied_fronts e = go (side a) refl
      where
        other : side a ≡ side b
        other = nat_list_cmp_total.congr (take (length o) a) (take (length o) b) o e

        go : (x : Ordering) → side a ≡ x → by_numbers a b f i g j ≡ slice_cmp nat_cmp a b
        go Less h = grind (arith, alike f g i j, p.less, q.less, other)
        go Equal h = both_equal h (sym other ∙ h)
        go Greater h = grind (arith, alike f g i j, p.greater, q.greater, other)

  -- the numbers of keys are in the order of the keys
  fronts_order : (a b : Octets) (f i g j : ℕ) → AreFronts o a f i → AreFronts o b g j
      → by_numbers a b f i g j ≡ slice_cmp nat_cmp a b
  fronts_order a b f i g j p q = go (fronts_cmp a b) refl
    where
      go : (x : Ordering) → fronts_cmp a b ≡ x → by_numbers a b f i g j ≡ slice_cmp nat_cmp a b
      go Less e =
          grind (arith, prefix_less (length o) a b, rising f g i j, not_greater a b f i g j p q e)
      go Equal e = tied_fronts a b f i g j p q e
      go Greater e =
          let less : fronts_cmp b a ≡ Less =
          nat_list_cmp_total.antisymm (take (length o) b) (take (length o) a)
          ∙ ap ordering_reverse e in
          grind (
            arith,
            prefix_less (length o) b a,
            nat_list_cmp_total.antisymm a b,
            falling f g i j,
            not_greater b a g j f i q p less,
          )

-- sort keys are in the order of their records
module _ (origin keys : Octets) (rs : List ResourceRecord) (first : ResourceRecord) where
  pub placed_order : (p q : SortKey) → IsSortKey origin keys rs p → IsSortKey origin keys rs q
      → LowerOwner (placed rs first p) → LowerOwner (placed rs first q)
      → sort_key_order keys rs first p q ≡ record_order (placed rs first p) (placed rs first q)
  placed_order p q h k low_p low_q =
      let a = name_key (placed rs first p).owner in
      let b = name_key (placed rs first q).owner in
      let own = own_order (placed rs first p) (placed rs first q) in
      ap₂ (λ x y. ordering_then (nat_cmp p.front q.front) (ordering_then (nat_cmp p.next q.next)
      (ordering_then (slice_cmp nat_cmp x y) own))) (h.key first) (k.key first)
      ∙ ap (ordering_then (nat_cmp p.front q.front))
      (sym (then_assoc (nat_cmp p.next q.next) (slice_cmp nat_cmp a b) own))
      ∙ sym (then_assoc (nat_cmp p.front q.front)
      (ordering_then (nat_cmp p.next q.next) (slice_cmp nat_cmp a b)) own)
      ∙ ap (λ c. ordering_then c own)
      (fronts_order origin a b p.front p.next q.front q.next (h.fronts first) (k.fronts first)
      ∙ key_order _ _ low_p low_q)
