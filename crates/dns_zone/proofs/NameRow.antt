-- The row of a name, among records in canonical order. The record at `first` is at or below the
-- name, and no record before it is.
use Rattle.dns_zone.proofs.Common.{AreOrdered, DomainName, AllByRecursion, IsCanonical, IsFront, IsPartitionedBy, List, ResourceRecord, [], ap, arith, at_or_below, drop, drop_more, each_weaker, false, filter, filter-append, filter_each, folded, get_or, get_or-map, is_gt, rules, length, length-drop, length-take, owners, prefix_len, prefix_len-le-length, cases_lt, inl, inr, ◌⊎◌, record_order, record_order_total, span, subst, sym, take, take-append-drop, true, under, wire, ℕ, ◌+◌, ◌-◌, ◌<◌, ◌∙◌, ◌∷◌, ◌≡◌, ◌≤◌}
use Rattle.std.specs.Prelude.{max}
use Rattle.dns_zone.proofs.NameTree.{itself-under}
use Rattle.dns_zone.proofs.EndingNames.{ends_in}
use Rattle.dns_zone.proofs.AtName.{ordered_records, OwnerNotAfter, owners_in_order, is_at}
use Rattle.dns_zone.proofs.BoundedChildren.{none_at, widened}
use Rattle.dns_zone.proofs.ChildRows.{is_under, under_parted, at_in_front}
use Rattle.dns_spec.proofs.General.Filters.{filter_within}
use Rattle.dns_spec.proofs.General.Pairs.{Pairs, unmoved, pairs_drop}
use Rattle.dns_spec.proofs.General.Fronts.{parted_take, both_fronts, front}

one_of : {X : Type 0} (n : ℕ) (x : X) (xs : List X) → 0 < n → take 1 (take n (x ∷ xs)) ≡ x ∷ []
one_of n x xs h = grind (arith, cases_lt)

module _ (rs : List ResourceRecord) (canonical : IsCanonical rs) (m : DomainName) (first : ℕ)
    (fits : first < length rs) (here : at_or_below (get_or (owners rs) first []) m ≡ true) where
  abbrev r : ResourceRecord
  r = get_or rs first (record { owner = []; ttl = 0; rtype = 0; rdata = [] })

  owner_is : get_or (owners rs) first [] ≡ r.owner
  owner_is = grind (arith, get_or-map)

  above : at_or_below r.owner m ≡ true
  above = subst (λ (o : DomainName). at_or_below o m ≡ true) owner_is here

  rest_is : drop first rs ≡ r ∷ drop (first + 1) rs
  rest_is = drop_more rs first _ fits

  in_order : Pairs OwnerNotAfter (r ∷ drop (first + 1) rs)
  in_order =
      subst (Pairs OwnerNotAfter) rest_is
      (pairs_drop OwnerNotAfter first rs (owners_in_order rs canonical.ordered))

  ordered_rest : AreOrdered (r ∷ drop (first + 1) rs)
  ordered_rest =
      unmoved record_order record_order_total (r ∷ drop (first + 1) rs)
      (subst (Pairs (λ s t. is_gt (record_order s t) ≡ false)) rest_is
      (pairs_drop (λ s t. is_gt (record_order s t) ≡ false) first rs
      (ordered_records rs canonical.ordered)))

  under_front : IsPartitionedBy (is_under m) (drop first rs)
  under_front =
      subst (IsPartitionedBy (is_under m)) (sym rest_is)
      (under_parted m r (drop (first + 1) rs) in_order above)

  own_front : IsPartitionedBy (is_at m) (drop first rs)
  own_front = grind (arith, is_at, m, rest_is, at_in_front, r, first, in_order, above, ordered_rest)

  -- the first owner ends with the name's octets
  pub ends : folded m ≡ m → (owner : DomainName) → owner ≡ get_or (owners rs) first []
      → (length (wire m) ≤ length (wire owner))
      × (drop (length (wire owner) - length (wire m)) (wire owner) ≡ wire m)
  ends low owner e =
      ends_in owner m
      (subst (λ (o : DomainName). folded o ≡ o) (sym (e ∙ owner_is))
      (canonical.each first _ fits).lower_owner) low
      (subst (λ (o : DomainName). at_or_below o m ≡ true) (sym e) here)

  -- if no record before the first is at or below the name, and none from `end` on
  module _ (before : under m (take first rs) ≡ []) (end : ℕ) (upto : first ≤ end)
      (after : under m (drop end rs) ≡ []) where
    abbrev others : List ResourceRecord
    others = span rs first end

    pub under_others : IsPartitionedBy (is_under m) others
    under_others = parted_take (is_under m) (drop first rs) (end - first) under_front

    all_from : under m rs ≡ under m (drop first rs)
    all_from =
        grind (arith, before, take-append-drop first rs, filter-append (is_under m) (take first rs) (drop first rs))

    own_within : (xs : List ResourceRecord) → filter (is_at m) (under m xs) ≡ filter (is_at m) xs
    own_within xs = filter_within (is_under m) (is_at m) xs (λ s e. itself-under s.owner m e)

    own_from : filter (is_at m) rs ≡ filter (is_at m) (drop first rs)
    own_from = sym (own_within rs) ∙ ap (filter (is_at m)) all_from ∙ own_within (drop first rs)

    some_under : 0 < length (under m (drop first rs))
    some_under = grind (arith, rest_is, above)

    -- the first record is known to be at or below the name, even if it is not the name's own
    module _ (own known count : ℕ) (own_is : own ≡ prefix_len (is_at m) others)
        (some : first < end) (known_is : known ≡ max own 1)
        (more : IsFront (is_under m) (drop known others) count) where
      own_fits : own ≤ length others
      own_fits = omega (arith, own_is, prefix_len-le-length (is_at m) others)

      own_others : take own others ≡ filter (is_at m) others
      own_others =
          ap (λ k. take k others) own_is
          ∙ (front (is_at m) others
          (parted_take (is_at m) (drop first rs) (end - first) own_front)).0

      first_is : take 1 others ≡ r ∷ []
      first_is = grind (arith, end, first, rest_is, one_of, r, some)

      known_fits : known ≤ length others
      known_fits = grind (arith, own_fits, known_is, first_is, length-take)

      all_fit : known + count ≤ length others
      all_fit = omega (arith, known_fits, more.bound, length-drop known others)

      front_is : AllByRecursion (λ s. is_under m s ≡ true) (take own others)
      front_is =
          subst (AllByRecursion (λ s. is_under m s ≡ true)) (sym own_others)
          (each_weaker (λ s. is_at m s ≡ true) (λ s. is_under m s ≡ true) (filter (is_at m) others)
          (λ s h. itself-under s.owner m h) (filter_each (is_at m) others))

      known_front : (0 < own) ⊎ (own ≤ 0)
          → AllByRecursion (λ s. is_under m s ≡ true) (take known others)
      known_front (inl l) =
          let same : known ≡ own = grind (arith, known_is) in rw same front_is
      known_front (inr l) =
          let same : known ≡ 1 = grind (arith, known_is) in rw (same, first_is) (search (rules, above))

      from_first : take (known + count) (drop first rs) ≡ under m (drop first rs)
      from_first =
          widened (is_under m) rs first end upto after (known + count) all_fit
          (both_fronts (is_under m) others known count (known_front (cases_lt 0 own)) more.passing)

      pub reached : (0 < known + count) × (first + (known + count) ≤ end)
          × (span rs first (first + own) ≡ filter (is_at m) rs)
          × (span rs first (first + (known + count)) ≡ under m rs)
      reached =
          let of_own : first + own - first ≡ own = omega arith in
          let of_all : first + (known + count) - first ≡ known + count = omega arith in
          let taken = length-take (known + count) (drop first rs) in (
            omega (arith, some_under, ap length from_first, taken),
            omega (arith, all_fit, upto, length-take (end - first) (drop first rs)),
            ap (λ k. take k (drop first rs)) of_own
                ∙ widened (is_at m) rs first end upto (none_at m (drop end rs) after) own own_fits
                own_others ∙ sym own_from,
            ap (λ k. take k (drop first rs)) of_all ∙ from_first ∙ sym all_from,
          )
