-- The canonical order of records, and lists of records in it.
use Rattle.dns_spec.proofs.Common.{◌≡◌, true, List, ap, ◌∙◌, arith, All, is_eq, rules, and_parts, eqb-true, IsTotalOrder, lists_ties, DomainName, same, name_order, ResourceRecord, zone_of, records_equal, distinct, sort_by, record_order, ordered_zone, faults, nat_cmp_total, nat_list_cmp_total, on_total, then_total, eq_by_cmp, All-from_recursion, recursion_from_All}
use Rattle.dns_spec.proofs.DomainNames.NameLaws.{octets_equal-decides, names_equal-decides}
use Rattle.dns_spec.proofs.ZoneChecks.FaultOrder.{faults_in_any_order, name_order_total, name_tie, Lower, lower_equal}
use Rattle.dns_spec.proofs.General.Sorted.{each_sort, each_distinct, apart_distinct, Rises, sort_rises, permutation_sort}

pub record_order_total : IsTotalOrder record_order
record_order_total =
    then_total (on_total (λ (r : ResourceRecord). r.owner) name_order_total)
    (then_total (on_total (λ (r : ResourceRecord). r.rtype) nat_cmp_total)
    (then_total (on_total (λ (r : ResourceRecord). r.rdata) nat_list_cmp_total)
    (on_total (λ (r : ResourceRecord). r.ttl) nat_cmp_total)))

name_ties : (n m : DomainName) → same n m ≡ is_eq (name_order n m)
name_ties n m = grind (arith, names_equal-decides, name_order_total, name_tie)

-- records tie if and only if they are equal
pub record_ties : (r s : ResourceRecord) → records_equal r s ≡ eq_by_cmp record_order r s
record_ties r s = search (rules, name_ties, lists_ties)

-- records that are equal by `records_equal`, with owners in lower case, are the same
abbrev pub LowerOwner : ResourceRecord → Type 0
LowerOwner r = Lower r.owner

one_of_parts : (r s : ResourceRecord)
    → r.owner ≡ s.owner → r.ttl ≡ s.ttl → r.rtype ≡ s.rtype → r.rdata ≡ s.rdata → r ≡ s
one_of_parts r s a b c d = grind arith

pub one_record : (r s : ResourceRecord)
    → LowerOwner r → LowerOwner s → records_equal r s ≡ true → r ≡ s
one_record r s low low' t =
    grind (arith, and_parts, one_of_parts, lower_equal, eqb-true, octets_equal-decides)

pub rises_canonical : (rs : List ResourceRecord)
    → Rises record_order (sort_by record_order (distinct records_equal rs))
rises_canonical rs =
    sort_rises record_order record_order_total records_equal
    (λ r s e. record_ties r s ∙ ap is_eq e) LowerOwner one_record (distinct records_equal rs)
    (apart_distinct records_equal rs)

-- what holds for all records holds for the records of the canonical list
pub all_canonical : (P : ResourceRecord → Type 0) (rs : List ResourceRecord)
    → All P rs → All P (sort_by record_order (distinct records_equal rs))
all_canonical P rs all =
    search (rules, All-from_recursion, each_sort, each_distinct, recursion_from_All)

-- the canonical zone has the faults of the zone as it was read
pub ordered_faults : (o : DomainName) (rs : List ResourceRecord)
    → faults (ordered_zone o rs) ≡ faults (zone_of o rs)
ordered_faults o rs = grind (arith, faults_in_any_order, permutation_sort)
