-- Sorted sort keys without those of duplicates are those of the records in canonical order.
use Rattle.dns_zone.proofs.Common.{◌≡◌, ℕ, zero, suc, ◌<◌, ◌≤◌, List, [], ◌∷◌, All, AllByRecursion, Ordering, name_key, length-map, get_or-map, ap₂, recursion_from_All, All-weaker, length, map, get_or, refl, sym, ap, ◌∙◌, arith, true, is_eq, Less, Equal, subst, get_or_default, cases_order, tied_itself, IsPermutation, IsSorted, Octets, ResourceRecord, IsReadRecord, LowerOwner, record_order, record_order_total, record_ties, one_record, records_equal, distinct, sort_by, rises_canonical, Among, Rises, among_contains, among_distinct, among_sort, distinct_among, sort_among, same_risen, AreApart, AreSortKeys, AreSorted, IsSortKey, no_record, own_order, same_sort_key, sorted_key, sort_key_order, placed, SortKey, Bool, ◌==◌, ◌&&◌, nat_cmp, slice_cmp, ordering_then, nat_ties}
use Rattle.dns_zone.specs.SortKeyForm.{no_sort_key}
use Rattle.dns_zone.proofs.SortKeyOrder.{sort_key_order_total, placed_order}
use Rattle.dns_spec.proofs.General.Elements.{each_map, each_both, each_at, among_get, among_mapped}
use Rattle.dns_spec.proofs.General.Orderings.{then_ties}
use Rattle.std.proofs.lemmas.List.Filters.{All-dedup}
use Rattle.std.proofs.lemmas.List.Kept.{Any-dedup, IsStrictlySortedBy-dedup}
use Rattle.std.proofs.lemmas.List.Sorted.{All-permutation, Contains-permutation, length_permutation}
use Rattle.std.specs.Cmp.{eq_by_cmp_equiv}
use Rattle.std.specs.Ordering.{eq_by_cmp}
use Rattle.std.specs.List.{dedup, dedup_from, Contains}
use Rattle.std.specs.List.Sorted.{IsStrictlySortedBy}

-- each element of a rising list is less than those after it
rises_far : (xs : List ResourceRecord) → Rises record_order xs → (i j : ℕ) (d : ResourceRecord)
    → i < j → j < length xs → record_order (get_or xs i d) (get_or xs j d) ≡ Less
rises_far [] r i j d l m = absurd (omega (arith, m))
rises_far (x ∷ xs) r i zero d l m = absurd (omega (arith, l))
rises_far (x ∷ xs) r zero (suc j) d l m =
    each_at (λ y. record_order x y ≡ Less) (get_or xs j d) xs r.0 (among_get xs j d (omega (arith, m)))
rises_far (x ∷ xs) r (suc i) (suc j) d l m =
    rises_far xs r.1 i j d (omega (arith, l)) (omega (arith, m))

less_itself : (r : ResourceRecord) → record_order r r ≡ Less → ⊥
less_itself r h = grind (arith, tied_itself, record_order_total)

tested_twice : (a b c : Bool) → (a && (b && (a && (b && c)))) ≡ (a && (b && c))
tested_twice a b c = grind arith

module _ (origin keys : Octets) (rs : List ResourceRecord) (first : ResourceRecord)
    (low : All IsReadRecord rs) where
  abbrev f : SortKey → ResourceRecord
  f = placed rs first

  abbrev R : SortKey → SortKey → Ordering
  R = sort_key_order keys rs first

  lower : (p : SortKey) → IsSortKey origin keys rs p → LowerOwner (f p)
  lower p h = (low p.at first h.inside).lower_owner

  order : (p q : SortKey) → IsSortKey origin keys rs p → IsSortKey origin keys rs q
      → R p q ≡ record_order (f p) (f q)
  order p q h k = placed_order origin keys rs first p q h k (lower p h) (lower q k)

  -- sort keys with the same numbers and equal records are equal in their order
  same : (p q : SortKey) → IsSortKey origin keys rs p → IsSortKey origin keys rs q
      → same_sort_key rs first p q ≡ eq_by_cmp R p q
  same p q h k =
      let a = p.front == q.front in
      let b = p.next == q.next in
      let own = ordering_then (slice_cmp nat_cmp (sorted_key keys rs first p)
      (sorted_key keys rs first q)) (own_order (f p) (f q)) in
      let parts : eq_by_cmp R p q ≡ (a && (b && is_eq own)) = grind (arith, then_ties, nat_ties) in
      ap (λ c. a && (b && c)) (record_ties (f p) (f q) ∙ ap is_eq (sym (order p q h k)) ∙ parts)
      ∙ tested_twice a b (is_eq own) ∙ sym parts

  kept_alike : (p : SortKey) (qs : List SortKey) → IsSortKey origin keys rs p
      → AllByRecursion (IsSortKey origin keys rs) qs
      → dedup_from (same_sort_key rs first) p qs ≡ dedup_from (eq_by_cmp R) p qs
  kept_alike p [] h e = refl
  kept_alike p (q ∷ qs) h e = grind (arith, same, kept_alike p qs h e.1, kept_alike q qs e.0 e.1)

  rises : (ps : List SortKey) → AllByRecursion (IsSortKey origin keys rs) ps
      → IsStrictlySortedBy R ps → Rises record_order (map f ps)
  unfolding IsStrictlySortedBy
  rises [] e s = tt
  rises (p ∷ ps) e s = (
    each_map (λ r. record_order (f p) r ≡ Less) f ps
        (each_both (IsSortKey origin keys rs) (λ q. R p q ≡ Less)
        (λ q. record_order (f p) (f q) ≡ Less) ps (λ q k l. sym (order p q e.0 k) ∙ l) e.1 s.0),
    rises ps e.1 s.1,
  )

  inside_among : (ps : List SortKey) → AllByRecursion (IsSortKey origin keys rs) ps
      → (a : ResourceRecord) → Among a (map f ps) → Among a rs
  inside_among [] e a m = absurd m
  inside_among (p ∷ ps) e a m = grind (arith, m, among_get rs p.at first e.0.inside, inside_among ps e.1 a)

  module _ (ps qs : List SortKey) (all : AreSortKeys origin keys rs ps) (moved : IsPermutation ps qs)
      (sorted : IsSorted R qs) where
    abbrev ds : List SortKey
    ds = dedup (eq_by_cmp R) qs

    each_sorted : All (IsSortKey origin keys rs) qs
    each_sorted = All-permutation (IsSortKey origin keys rs) ps qs moved all.each

    each : All (IsSortKey origin keys rs) ds
    each = All-dedup (eq_by_cmp R) (IsSortKey origin keys rs) qs each_sorted

    strictly : IsStrictlySortedBy R ds
    strictly = IsStrictlySortedBy-dedup (sort_key_order_total keys rs first) (λ p q. refl) qs sorted

    risen : Rises record_order (map f ds)
    risen = rises ds (recursion_from_All (IsSortKey origin keys rs) ds each) strictly

    -- each record is at one of the sort keys
    kept : (a : ResourceRecord) → Among a rs → Among a (map f ds)
    kept a m =
        let (k, l, e) = among_contains a rs m in
        let count = all.count in
        let inside : k < length ps = omega (arith, l, count) in
        let p = get_or ps k no_sort_key in
        let at = all.at k no_sort_key inside in
        let sort_key = all.each k no_sort_key inside in
        let there : Contains qs p =
        Contains-permutation ps qs p moved (k, inside, get_or_default ps k p no_sort_key inside) in
        let (i, q, within, is, tie) = Any-dedup (eq_by_cmp_equiv (sort_key_order_total keys rs first)) qs
        p there in
        let other = subst (IsSortKey origin keys rs) is (each i q within) in
        let same : f p ≡ f q = one_record (f p) (f q) (lower p sort_key) (lower q other)
        (record_ties (f p) (f q) ∙ ap is_eq (sym (order p q sort_key other)) ∙ tie) in
        let owner : f p ≡ a = ap (λ j. get_or rs j first) at ∙ get_or_default rs k first a l ∙ e in
        subst (λ r. Among r (map f ds)) (sym same ∙ owner)
        (among_mapped f q ds (subst (λ x. Among x ds) is (among_get ds i q within)))

    pub whole : map f ds ≡ sort_by record_order (distinct records_equal rs)
    whole =
        let tie : (r s : ResourceRecord) → record_order r s ≡ Equal → records_equal r s ≡ true =
        λ r s e. record_ties r s ∙ ap is_eq e in
        same_risen record_order record_order_total records_equal tie LowerOwner one_record
        (map f ds) (sort_by record_order (distinct records_equal rs)) risen (rises_canonical rs)
        (λ a m. among_sort record_order a (distinct records_equal rs)
        (among_distinct record_order record_order_total records_equal tie LowerOwner one_record a rs
        (recursion_from_All LowerOwner rs (All-weaker IsReadRecord LowerOwner (λ r h. h.lower_owner)
        rs low)) (inside_among ds (recursion_from_All (IsSortKey origin keys rs) ds each) a m)))
        (λ a m. kept a (distinct_among records_equal a rs
        (sort_among record_order a (distinct records_equal rs) m)))

    same_first : (es : List SortKey) → AllByRecursion (IsSortKey origin keys rs) es
        → map (placed rs no_record) es ≡ map f es
    same_first [] e = refl
    same_first (p ∷ es) e =
        ap₂ (λ r ss. r ∷ ss) (get_or_default rs p.at no_record first e.0.inside)
        (same_first es e.1)

    apart : AreApart ds
    apart i j d l m e = grind (arith, cases_order, differ)
      where
        differ : (a b : ℕ) → a < b → b < length ds → (get_or ds a d).at ≡ (get_or ds b d).at → ⊥
        differ a b n within same =
            let less = rises_far (map f ds) risen a b first n
            (omega (arith, within, length-map ds f)) in
            let left = get_or-map f ds a d first (omega (arith, n, within)) in
            let right = get_or-map f ds b d first within in
            let one : f (get_or ds a d) ≡ f (get_or ds b d) =
            ap (λ k. get_or rs k first) same in
            less_itself (f (get_or ds b d))
            (sym (ap₂ record_order (left ∙ one) right) ∙ less)

    pub are_sorted : (es : List SortKey) → es ≡ ds → length es ≤ length qs → AreSorted keys rs es
    are_sorted es is short =
        let count = all.count in
        let size = length_permutation ps qs moved in
        subst (AreSorted keys rs) (sym is) (record {
          inside = All-weaker (IsSortKey origin keys rs) (λ p. p.at < length rs) (λ p h. h.inside) ds
              each;
          apart = apart;
          fewer = omega (arith, short, count, size, ap length is);
          key = All-weaker (IsSortKey origin keys rs)
              (λ p. sorted_key keys rs no_record p ≡ name_key (placed rs no_record p).owner)
              (λ p h. h.key no_record) ds each;
          whole = same_first ds (recursion_from_All (IsSortKey origin keys rs) ds each) ∙ whole;
        })

    -- the sort keys without those that are the same as the last one kept
    pub are_kept : (es : List SortKey) → es ≡ dedup (same_sort_key rs first) qs
        → length es ≤ length qs → AreSorted keys rs es
    are_kept es is = are_sorted es (is ∙ alike qs (recursion_from_All _ qs each_sorted))
      where
        alike : (xs : List SortKey) → AllByRecursion (IsSortKey origin keys rs) xs
            → dedup (same_sort_key rs first) xs ≡ dedup (eq_by_cmp R) xs
        alike [] e = refl
        alike (x ∷ xs) e = kept_alike x xs e.0 e.1
