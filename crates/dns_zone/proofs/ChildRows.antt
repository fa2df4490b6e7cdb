-- Names among records in canonical order, and the name of the next child below one.
use Rattle.dns_zone.proofs.Common.{AreOrdered, Bool, DomainName, AllByRecursion, IsCanonical, IsPartitionedBy, IsReadRecord, List, Octets, ResourceRecord, [], ap, arith, at_or_below, below, drop, each_weaker, ending, false, false≢true, folded, get_or, get_or-map, inl, inr, is_gt, length, name_order, name_order_total, not, owners, subst, suc, sym, take, true, true≢false, under, upto, wire, ℕ, ◌+◌, ◌<◌, ◌∙◌, ◌∷◌, ◌≡◌, ◌⊎◌}
use Rattle.dns_zone.proofs.NameTree.{under-order, between}
use Rattle.dns_zone.proofs.ChildNames.{IsChildOf, cons_under, child_end}
use Rattle.dns_zone.proofs.AtName.{OwnerNotAfter, is_at, is_before, at_parted}
use Rattle.dns_spec.proofs.General.Filters.{filter_all, nothing_there}
use Rattle.dns_spec.proofs.General.Pairs.{Pairs, pairs_of, parted}

abbrev pub is_under : DomainName → ResourceRecord → Bool
is_under m r = at_or_below r.owner m

-- records in canonical order, of which the first is at or below m
module _ (m : DomainName) (r : ResourceRecord) (xs : List ResourceRecord)
    (h : Pairs OwnerNotAfter (r ∷ xs)) (here : at_or_below r.owner m ≡ true) where
  not_before : AllByRecursion (λ (s : ResourceRecord). is_gt (name_order m s.owner) ≡ false)
      (r ∷ xs)
  not_before = grind (arith, under-order, each_weaker, upto, name_order_total)

  pub under_parted : IsPartitionedBy (is_under m) (r ∷ xs)
  under_parted = search (arith, parted, pairs_of, between, not_before)

  each_not_before : AllByRecursion (λ s. not (is_before m s) ≡ true) (r ∷ xs)
  each_not_before = grind (arith, each_weaker, not_before, name_order_total, true≢false)

  pub at_in_front : AreOrdered (r ∷ xs) → IsPartitionedBy (is_at m) (r ∷ xs)
  at_in_front o =
      subst (IsPartitionedBy (is_at m))
      (filter_all (λ s. not (is_before m s)) (r ∷ xs) each_not_before) (at_parted m (r ∷ xs) o)

pub owner_at : (rs : List ResourceRecord) (k : ℕ) (r : ResourceRecord) → k < length rs
    → r ≡ get_or rs k r → get_or (owners rs) k [] ≡ r.owner
owner_at rs k r h e = grind (arith, get_or-map)

-- for each name one label below n, the records at or below the name are all before index k, or all
-- from index k on
abbrev pub IsBetween : List ResourceRecord → DomainName → ℕ → Type 0
IsBetween rs n k =
    (m : DomainName) → folded m ≡ m → at_or_below m n ≡ true → length m ≡ suc (length n)
    → (under m (take k rs) ≡ []) ⊎ (under m (drop k rs) ≡ [])

-- the record at `next` is below n, and its child of n has no row yet
pub record IsNext (rs : List ResourceRecord) (n : DomainName) (next : ℕ) : Type 0 where
  pub lower : folded n ≡ n
  pub fits : next < length rs
  pub under_it : below (get_or (owners rs) next []) n ≡ true
  pub between : IsBetween rs n next

-- the child's name: the shortest suffix of the record's owner that is longer than n
module _ (rs : List ResourceRecord) (canonical : IsCanonical rs) (n : DomainName) (next : ℕ)
    (is_next : IsNext rs n next) (r : ResourceRecord) (r_is : r ≡ get_or rs next r) where
  owner_lower : folded r.owner ≡ r.owner
  owner_lower = (subst IsReadRecord (sym r_is) (canonical.each next r is_next.fits)).lower_owner

  owner_below : below r.owner n ≡ true
  owner_below =
      subst (λ (m : DomainName). below m n ≡ true) (owner_at rs next r is_next.fits r_is)
      is_next.under_it

  pub child_there : (parent : Octets) (owner m : DomainName) → wire n ≡ parent → owner ≡ r.owner
      → m ≡ ending (length parent + 1) owner → IsChildOf n r.owner m
  child_there parent owner m w o e = grind (arith, child_end, owner_below, owner_lower)

  -- the child's first record is the next one
  pub none_before_it : (m : DomainName) → IsChildOf n r.owner m → under m (take next rs) ≡ []
  none_before_it m child = go (is_next.between m child.lower child_under (ap length child.labels))
    where
      child_under : at_or_below m n ≡ true
      child_under = grind (arith, cons_under)

      go : (under m (take next rs) ≡ []) ⊎ (under m (drop next rs) ≡ [])
          → under m (take next rs) ≡ []
      go (inl e) = e
      go (inr e) =
          absurd (false≢true (sym (nothing_there (is_under m) rs next r e is_next.fits)
          ∙ ap (is_under m) (sym r_is) ∙ child.above))
