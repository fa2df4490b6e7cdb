-- The sets of a name of a built zone.
use Rattle.dns_zone.proofs.Common.{◌≡◌, ℕ, ◌≤◌, true, false, not, ◌==◌, List, [], ◌∷◌, map, length, Option, None, Some, IfSome, refl, sym, ap, ◌∙◌, subst, filter, is_gt, nat_cmp, arith, eqb-true, nat_cmp_total, tied_itself, length-map, none-some, same_Some, IsNonDecreasingBy, DomainName, folded, same, Valid, ResourceRecord, ZoneContents, distinct, sort_by, data_order, record_order, at, rrset, RecordSet, records_at, set_of, rising_types, of_lowest_type, of_first_type, IsReadRecord, AllByRecursion, each_filter, each_distinct, each_sort, each_weaker, filter_each, length-sort_by, recursion_from_All, All-from_recursion, count_few, IsOf, as_set, first_ttl, own_records, each_typed, IsSetOf, data_of, set_of_type, AreOfType, IsBuilt}
use Rattle.dns_zone.proofs.NameOrder.{same-is, same-from, same-tied}
use Rattle.dns_zone.proofs.AtName.{data_order_total, ordered_records}
use Rattle.dns_spec.proofs.General.Elements.{each_both, each_map}
use Rattle.dns_spec.proofs.General.Pairs.{pairs_of, pairs_filter, pairs_rising, unmoved, first_in}
use Rattle.dns_spec.proofs.General.Orderings.{first_part, not_above}

-- records of one name and one type are ordered by data
data_in_order : (n : DomainName) (t : ℕ) (r s : ResourceRecord)
    → (same r.owner n ≡ true) × (r.rtype ≡ t) → (same s.owner n ≡ true) × (s.rtype ≡ t)
    → is_gt (record_order r s) ≡ false → is_gt (data_order r s) ≡ false
data_in_order n t r s p q h =
    grind (arith, same-tied, same-from, same-is, tied_itself, nat_cmp_total, first_part)

-- the data of read records of one type is valid for it
datas : (t : ℕ) (rs : List ResourceRecord)
    → AllByRecursion (λ (r : ResourceRecord). IsReadRecord r × (r.rtype ≡ t)) rs
    → AllByRecursion (Valid t) (data_of rs)
datas t [] e = tt
datas t (r ∷ rs) e = (subst (λ u. Valid u r.rdata) e.0.1 e.0.0.rdata, datas t rs e.1)

of_one_type : (t : ℕ) (rs : List ResourceRecord)
    → AllByRecursion (λ (r : ResourceRecord). IsReadRecord r × (r.rtype ≡ t)) rs → AreOfType rs
of_one_type t rs h = grind (arith, All-from_recursion, datas, each_weaker)

-- the lowest type is the first record's
lowest_first : (r : ResourceRecord) (rs : List ResourceRecord) → IsNonDecreasingBy
    (λ (q : ResourceRecord). q.rtype) (r ∷ rs) → rising_types (r ∷ rs) ≡ r.rtype ∷ sort_by nat_cmp
    (filter (λ u. not (r.rtype == u)) (distinct ◌==◌ (map (λ (q : ResourceRecord). q.rtype) rs)))
lowest_first r rs h =
    let others =
    filter (λ u. not (r.rtype == u)) (distinct ◌==◌ (map (λ (q : ResourceRecord). q.rtype) rs))
    in
    first_in nat_cmp nat_cmp_total r.rtype (sort_by nat_cmp others)
    (each_weaker (λ u. r.rtype ≤ u) (λ u. is_gt (nat_cmp r.rtype u) ≡ false)
    (sort_by nat_cmp others) (not_above r.rtype)
    (each_sort nat_cmp (λ u. r.rtype ≤ u) others
    (each_filter (λ u. r.rtype ≤ u) (λ u. not (r.rtype == u))
    (distinct ◌==◌ (map (λ (q : ResourceRecord). q.rtype) rs))
    (each_distinct (λ u. r.rtype ≤ u) ◌==◌ (map (λ (q : ResourceRecord). q.rtype) rs)
    (each_map (λ u. r.rtype ≤ u) (λ (q : ResourceRecord). q.rtype) rs
    (pairs_rising (λ (q : ResourceRecord). q.rtype) (r ∷ rs) h).0)))))

module _ (z : ZoneContents) (kept : IsBuilt z) (n : DomainName) where
  reads : AllByRecursion IsReadRecord z.records
  reads = recursion_from_All IsReadRecord z.records kept.each

  lows : AllByRecursion (λ (r : ResourceRecord). folded r.owner ≡ r.owner) z.records
  lows = grind (arith, each_weaker, reads)

  module _ (t : ℕ) where
    abbrev typed : List ResourceRecord
    typed = filter (λ (r : ResourceRecord). r.rtype == t) (at z n)

    -- the records of the type are already ordered by data
    pub of_type_is : typed ≡ rrset z n t
    of_type_is =
        sym (unmoved data_order data_order_total typed
        (pairs_of (λ r. (same r.owner n ≡ true) × (r.rtype ≡ t))
        (λ r s. is_gt (record_order r s) ≡ false) (λ r s. is_gt (data_order r s) ≡ false) typed
        (data_in_order n t)
        (each_both (λ r. same r.owner n ≡ true) (λ r. (r.rtype == t) ≡ true)
        (λ r. (same r.owner n ≡ true) × (r.rtype ≡ t)) typed
        (λ r p q. (p, eqb-true r.rtype t q))
        (each_filter (λ r. same r.owner n ≡ true) (λ (r : ResourceRecord). r.rtype == t) (at z n)
        (filter_each (λ (r : ResourceRecord). same r.owner n) z.records))
        (filter_each (λ (r : ResourceRecord). r.rtype == t) (at z n)))
        (pairs_filter (λ r s. is_gt (record_order r s) ≡ false)
        (λ (r : ResourceRecord). r.rtype == t) (at z n)
        (pairs_filter (λ r s. is_gt (record_order r s) ≡ false)
        (λ (r : ResourceRecord). same r.owner n) z.records
        (ordered_records z.records kept.ordered)))))

    read_set : AllByRecursion (λ (r : ResourceRecord). IsReadRecord r × (r.rtype ≡ t)) (rrset z n t)
    read_set = grind (arith, each_typed, each_filter, reads)

    pub are_of_type : AreOfType (rrset z n t)
    are_of_type = of_one_type t (rrset z n t) read_set

    -- RFC 2181 5.2, and the limit on the size of a set
    few : length (rrset z n t) ≤ 64
    few = grind (arith, count_few, lows, length-sort_by, data_order, typed)

    pub set_kept : folded n ≡ n → (s : RecordSet) → set_of (rrset z n t) ≡ Some s
        → (s.rtype ≡ t) × IsSetOf (record { zone = z; name = n }) s
    set_kept low s e = go (rrset z n t) refl e
      where
        k : ℕ
        k = first_ttl t (at z n)

        shown : (r : ResourceRecord) (rs : List ResourceRecord) → rrset z n t ≡ r ∷ rs
            → AllByRecursion (IsOf (folded n) k t) (r ∷ rs)
            → records_at n r.ttl (set_of_type r.rtype r.ttl (r ∷ rs)) ≡ rrset z n r.rtype
        shown r rs p own = grind (arith, as_set, k)

        go : (xs : List ResourceRecord) → rrset z n t ≡ xs → set_of xs ≡ Some s
            → (s.rtype ≡ t) × IsSetOf (record { zone = z; name = n }) s
        go [] p e = absurd (none-some s e)
        go (r ∷ rs) p e =
            grind
            (arith, own_records, lows, read_set, few, are_of_type, same_Some, shown, length-map)

    pub sets_kept : folded n ≡ n → (o : Option RecordSet) → o ≡ set_of (rrset z n t)
        → IfSome o (λ s. s.rtype ≡ t) × IfSome o (IsSetOf (record { zone = z; name = n }))
    sets_kept low None e = (tt, tt)
    sets_kept low (Some s) e = set_kept low s (sym e)

  pub lowest : (r : ResourceRecord) (rs : List ResourceRecord)
      → IsNonDecreasingBy (λ (q : ResourceRecord). q.rtype) (at z n) → at z n ≡ r ∷ rs
      → of_lowest_type (at z n) ≡ rrset z n r.rtype
  lowest r rs h e =
      ap (λ ts. of_first_type ts (at z n))
      (ap rising_types e
      ∙ lowest_first r rs (subst (IsNonDecreasingBy (λ (q : ResourceRecord). q.rtype)) e h))
