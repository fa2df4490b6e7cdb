-- Sort keys that rise, and rise with one more.
use Rattle.dns_zone.proofs.Common.{◌≡◌, ℕ, ◌+◌, ◌-◌, ◌<◌, ◌≤◌, List, take, get_or, length, length-take, length-drop, get_or-drop, get_or-take, get_or_append_left, Ordering, Less, Greater, ordering_reverse, ap, refl, suc, [], ◌∷◌, false, is_lt, IsSorted, IsTotalOrder, get_or_default, ◌∙◌, arith, cases_order, SwappedAt, Octets, ResourceRecord, SortKey, sort_key_order}
use Rattle.dns_zone.proofs.SortKeyOrder.{sort_key_order_total}
use Rattle.dns_zone.specs.SortKeyForm.{RiseUpTo, no_sort_key}
use Rattle.std.specs.List.{RotatedRight, dedup, dedup_from}
use Rattle.std.specs.Ordering.{eq_by_cmp}
use Rattle.std.proofs.lemmas.List.{get_or-append_right}
use borrow.Rule.Slice.PartMut.{mid_of, put_mid}

pub turned : (keys : Octets) (rs : List ResourceRecord) (first : ResourceRecord) (p q : SortKey)
    → sort_key_order keys rs first p q ≡ Greater → sort_key_order keys rs first q p ≡ Less
turned keys rs first p q h =
    (sort_key_order_total keys rs first).antisymm q p ∙ ap ordering_reverse h

module _ (R : SortKey → SortKey → Ordering) (ps : List SortKey) (n at : ℕ)
    (rising : RiseUpTo R ps n) where
  abbrev from : List SortKey → ℕ → SortKey
  from xs k = get_or xs k no_sort_key

  -- the sort key at `at` is placed at `to`, before those that it is less than
  rise_with : (qs : List SortKey) (to : ℕ) → to ≤ n
      → ((k : ℕ) → k < to → from qs k ≡ from ps k) → from qs to ≡ from ps at
      → ((k : ℕ) → to < k → k ≤ n → from qs k ≡ from ps (k - 1))
      → (0 < to → R (from ps (to - 1)) (from ps at) ≡ Less)
      → (to < n → R (from ps at) (from ps to) ≡ Less)
      → RiseUpTo R qs (n + 1)
  rise_with qs to l front one back after before k h = grind (arith, cases_order, rising)

  -- the sort key at `at` is swapped with that at n
  pub rise_swapped : (qs : List SortKey) → n ≤ at → SwappedAt ps qs n at
      → (0 < n → R (from ps (n - 1)) (from ps at) ≡ Less) → RiseUpTo R qs (n + 1)
  rise_swapped qs fits swapped after = grind (arith, (rise_with qs n))

  -- it is swapped with that at n, and then moved back to `to`
  pub rise_rotated : (qs mid : List SortKey) (to : ℕ) → n ≤ at → SwappedAt ps qs n at → to ≤ n
      → at < length ps → length qs ≡ length ps
      → RotatedRight (mid_of to (n + 1 - to) qs) mid (length (mid_of to (n + 1 - to) qs)) 1
      → length mid ≡ length (mid_of to (n + 1 - to) qs)
      → (0 < to → R (from ps (to - 1)) (from ps at) ≡ Less)
      → (to < n → R (from ps at) (from ps to) ≡ Less)
      → RiseUpTo R (put_mid to (n + 1 - to) qs mid) (n + 1)
  rise_rotated qs mid to fits swapped l inside size rotated len after before =
      rise_with zs to l front one back after before
    where
      zs : List SortKey
      zs = put_mid to (n + 1 - to) qs mid

      front_len : length (take to qs) ≡ to
      front_len = grind (arith, length-take)

      mid_len : length mid ≡ n + 1 - to
      mid_len = grind (arith, length-take, length-drop)

      front : (k : ℕ) → k < to → from zs k ≡ from ps k
      front k h = grind (arith, get_or_append_left, get_or-take, front_len)

      in_mid : (k : ℕ) → to ≤ k → k ≤ n → from zs k ≡ from mid (k - to)
      in_mid k h m = grind (arith, get_or-append_right, get_or_append_left, front_len, mid_len)

      one : from zs to ≡ from ps at
      one = in_mid to (omega arith) l ∙ grind (arith, (rotated.0 0 no_sort_key), get_or-take, get_or-drop, mid_len)

      back : (k : ℕ) → to < k → k ≤ n → from zs k ≡ from ps (k - 1)
      back k h m = grind (arith, in_mid, to, get_or-take, get_or-drop, mid_len)

-- sort keys that rise are sorted, and distinct
module _ (R : SortKey → SortKey → Ordering) (total : IsTotalOrder R) where
  not_less : (p q : SortKey) → R p q ≡ Less → is_lt (R q p) ≡ false
  not_less p q h = ap is_lt (total.antisymm q p ∙ ap ordering_reverse h)

  pub rising_sorted : (ps : List SortKey) → RiseUpTo R ps (length ps) → IsSorted R ps
  rising_sorted ps r k d low h = grind (arith, not_less, get_or_default, (r k))

  rest_rises : (p : SortKey) (ps : List SortKey) → RiseUpTo R (p ∷ ps) (length (p ∷ ps))
      → RiseUpTo R ps (length ps)
  rest_rises p ps r k h = grind (arith, (r (suc k)))

  distinct_from : (p : SortKey) (ps : List SortKey) → RiseUpTo R (p ∷ ps) (length (p ∷ ps))
      → dedup_from (eq_by_cmp R) p ps ≡ p ∷ ps
  distinct_from p [] r = refl
  distinct_from p (q ∷ qs) r =
      grind (arith, (r 0), (distinct_from q qs (rest_rises p (q ∷ qs) r)))

  pub rising_distinct : (ps : List SortKey) → RiseUpTo R ps (length ps)
      → dedup (eq_by_cmp R) ps ≡ ps
  rising_distinct [] r = refl
  rising_distinct (p ∷ ps) r = distinct_from p ps r
