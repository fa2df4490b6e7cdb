-- The records of a name among records in canonical order.
use Rattle.dns_zone.proofs.Common.{◌≡◌, Bool, true, false, not, List, filter, is_gt, is_lt, arith, not-true, nat_list_cmp_total, on_total, upto, IsTotalOrder, IsPartitionedBy, DomainName, same, name_order, ResourceRecord, sort_by, data_order, record_order, record_order_total, name_tie, name_order_total, filter_each, AreOrdered, distinct, records_equal}
use Rattle.dns_zone.proofs.NameOrder.{same-tied}
use Rattle.dns_spec.proofs.General.Pairs.{Pairs, pairs_weaker, pairs_of, pairs_filter, parted, sorted_pairs}
use Rattle.dns_spec.proofs.General.Orderings.{not_greater, first_part}

pub data_order_total : IsTotalOrder data_order
data_order_total = on_total (λ (r : ResourceRecord). r.rdata) nat_list_cmp_total

-- r's owner is not after s's owner; so it is in canonical order if r is before s
abbrev pub OwnerNotAfter : ResourceRecord → ResourceRecord → Type 0
OwnerNotAfter r s = is_gt (name_order r.owner s.owner) ≡ false

pub ordered_records : (rs : List ResourceRecord)
    → AreOrdered rs → Pairs (λ r s. is_gt (record_order r s) ≡ false) rs
ordered_records rs h = sorted_pairs record_order record_order_total rs h

pub owners_in_order : (rs : List ResourceRecord) → AreOrdered rs → Pairs OwnerNotAfter rs
owners_in_order rs h = search (arith, pairs_weaker, first_part, ordered_records)

module _ (n : DomainName) where
  abbrev pub is_before : ResourceRecord → Bool
  is_before r = is_lt (name_order r.owner n)

  abbrev pub is_at : ResourceRecord → Bool
  is_at r = same r.owner n

  at_more : (r s : ResourceRecord) → not (is_before r) ≡ true
      → not (is_before s) ≡ true → OwnerNotAfter r s → is_at s ≡ true → is_at r ≡ true
  at_more r s p q e f =
      grind (arith, same-tied, upto, name_order_total, name_tie, not_greater, not-true)

  -- among the records whose owner is not before the name, those at the name come first
  pub at_parted : (rs : List ResourceRecord)
      → AreOrdered rs → IsPartitionedBy is_at (filter (λ r. not (is_before r)) rs)
  at_parted rs h =
      let others = filter (λ r. not (is_before r)) rs in
      parted is_at others
      (pairs_of (λ r. not (is_before r) ≡ true) OwnerNotAfter (λ r s. is_at s ≡ true
      → is_at r ≡ true) others at_more (filter_each (λ r. not (is_before r)) rs)
      (pairs_filter OwnerNotAfter (λ r. not (is_before r)) rs (owners_in_order rs h)))

abbrev pub canonical : List ResourceRecord → List ResourceRecord
canonical rs = sort_by record_order (distinct records_equal rs)
