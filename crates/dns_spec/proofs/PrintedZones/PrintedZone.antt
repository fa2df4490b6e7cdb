-- The canonical text of a zone means the zone's records, in the order in which they are printed.
use Rattle.dns_spec.proofs.Common.{◌≡◌, ◌≤◌, not, All, length, refl, sym, subst, IsPermutation, DomainName, record_order, ZoneContents, sort_by, most_octets, most_records, records, Means, IsPermutation-trans, IsPermutation-filter_both, All-permutation, length_permutation, IsReadRecord, HasZoneType, is_soa, printed_records, zone_text}
use Rattle.dns_spec.proofs.PrintedZones.PrintedMeaning.{printed_again}
use Rattle.dns_spec.proofs.General.Sorted.{permutation_sort}

pub printed_moves : (z : ZoneContents) → IsPermutation z.records (printed_records z)
printed_moves z =
    let sorted = sort_by record_order z.records in
    IsPermutation-trans z.records sorted (printed_records z)
    (permutation_sort record_order z.records)
    (IsPermutation-filter_both is_soa (λ r. not (is_soa r)) (λ r. refl) sorted)

pub zone_means : (z : ZoneContents) (o : DomainName) → All IsReadRecord z.records → All HasZoneType
    z.records → length z.records ≤ most_records → length (zone_text z) ≤ most_octets → Means o
    (zone_text z) (records (printed_records z)) × IsPermutation z.records (printed_records z)
unfolding zone_text
zone_means z o all types few short =
    let moved = printed_moves z in
    let same_long : length (printed_records z) ≡ length z.records =
    length_permutation z.records (printed_records z) moved in (
      printed_again o
          (printed_records z) (All-permutation IsReadRecord z.records (printed_records z) moved all)
          (All-permutation HasZoneType z.records (printed_records z) moved types)
          (subst (λ n. n ≤ most_records) (sym same_long) few) short,
      moved,
    )
