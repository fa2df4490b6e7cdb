-- The records of a name of a zone, ordered by type, and the lookup of a target.
use Rattle.dns_zone.proofs.Common.{◌≡◌, ℕ, ◌≤◌, true, false, ◌==◌, sym, ◌∙◌, arith, is_gt, Equal, cases_lt, le-ltb, ne_eqb, true≢false, list_any, IsNonDecreasingBy, DomainName, same, name_order, ResourceRecord, ZoneContents, at, owns, record_order, filter_each, AreOrdered}
use Rattle.dns_zone.proofs.NameOrder.{same-is, same-from, same-tied}
use Rattle.dns_zone.proofs.AtName.{ordered_records}
use Rattle.dns_spec.proofs.General.Tests.{any_filter}
use Rattle.dns_spec.proofs.General.Pairs.{pairs_of, pairs_filter, rising}

-- the records of one name are ordered by type
type_up_to : (r s : ResourceRecord)
    → name_order r.owner s.owner ≡ Equal → is_gt (record_order r s) ≡ false → r.rtype ≤ s.rtype
type_up_to r s e h = grind (arith, cases_lt, le-ltb, ne_eqb, true≢false)

pub own_types : (z : ZoneContents) (n : DomainName)
    → AreOrdered z.records → IsNonDecreasingBy (λ (r : ResourceRecord). r.rtype) (at z n)
own_types z n h =
    rising (λ (r : ResourceRecord). r.rtype) (at z n)
    (pairs_of (λ (r : ResourceRecord). same r.owner n ≡ true) (λ r s. is_gt (record_order r s)
    ≡ false) (λ r s. r.rtype ≤ s.rtype) (at z n) (λ r s p q e. type_up_to r s (same-tied r.owner
    s.owner (same-from r.owner s.owner (same-is r.owner n p ∙ sym (same-is s.owner n q)))) e)
    (filter_each (λ (r : ResourceRecord). same r.owner n) z.records)
    (pairs_filter (λ r s. is_gt (record_order r s) ≡ false)
    (λ (r : ResourceRecord). same r.owner n) z.records (ordered_records z.records h)))

pub own_owns : (z : ZoneContents) (n : DomainName) (t : ℕ)
    → list_any (λ (r : ResourceRecord). r.rtype == t) (at z n) ≡ owns z n t
own_owns z n t = grind (arith, any_filter, same)
