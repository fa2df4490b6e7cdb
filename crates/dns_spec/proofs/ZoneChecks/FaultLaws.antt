-- A fault is among the faults of a zone if and only if its check fails. Each fault is in the list
-- once, and the faults are sorted by owner and then by code.
use Rattle.dns_spec.proofs.Common.{common_steps, ◌≡◌, ℕ, ◌↔◌, Bool, true, false, ◌&&◌, ◌||◌, ◌⊎◌, inl, inr, List, [], ◌∷◌, map, ◌==◌, filter, refl, sym, ap, ◌∙◌, subst, arith, Ordering, Less, nat_cmp, Contains, flat_map, ordering_then, and_parts, and_from, eqb-true, eq-eqb, tied_itself, flat_map-cons, DomainName, folded, names_equal, same, name_order, ResourceRecord, ZoneContents, owns, distinct, IsStrictlySortedBy, Check, is_origin, is_owner, checks, fails, Fault, faults_at, checked_names, faults, fault_order, AllByRecursion}
use Rattle.dns_spec.proofs.ZoneChecks.FaultOrder.{Lower, lower_equal, each_lower, name_order_total, name_tie, folded_folded}
use Rattle.dns_spec.proofs.General.Elements.{Among, each_at, among_mapped, among_joined, joined_among, mapped_among, contains_among, among_contains}
use Rattle.dns_spec.proofs.General.Filters.{among_filter, filter_among, filter_each}
use Rattle.dns_spec.proofs.General.Tests.{any_among, among_any, any_of_both, any_counted}
unfoldable use Rattle.dns_spec.proofs.General.Sorted.{rises_test}
use Rattle.dns_spec.proofs.General.Sorted.{Rises, apart_distinct, sort_rises, among_sort, among_distinct, rises_from, rises_filtered, rises_mapped, rises_joined, strictly_sorted}

-- A name is checked if it is the origin or an owner.
abbrev IsChecked : ZoneContents → DomainName → Type 0
IsChecked z n = (is_origin z n ≡ true) ⊎ (is_owner z n ≡ true)

owner_if_owns : (z : ZoneContents) (n : DomainName) (t : ℕ)
    → owns z n t ≡ true → is_owner z n ≡ true
owner_if_owns z n t e =
    let own : ResourceRecord → Bool = λ r. same r.owner n in
    sym (any_counted own z.records) ∙ any_of_both own (λ r. r.rtype == t) z.records e

-- Each name that fails a check is the origin or an owner.
abbrev OfChecked : ZoneContents → DomainName → ℕ × Check → Type 0
OfChecked z n c = c.1 z n ≡ true → IsChecked z n

each_of_checked : (z : ZoneContents) (n : DomainName) → AllByRecursion (OfChecked z n) checks
each_of_checked z n = grind (arith, common_steps, owner_if_owns)

pub failing_is_checked : (z : ZoneContents) (n : DomainName) (code : ℕ)
    → fails z n code ≡ true → IsChecked z n
failing_is_checked z n code e =
    let r = any_among (λ (c : ℕ × Check). c.0 == code && c.1 z n) checks e in
    grind (arith, each_at, each_of_checked, and_parts)

-- a name in lower case that is checked is among the checked names
checked_among : (z : ZoneContents) (n : DomainName)
    → Lower n → IsChecked z n → Among n (checked_names z)
checked_among z n low is_checked =
    among_sort name_order n (distinct same names)
    (among_distinct name_order name_order_total same name_tie Lower lower_equal n names
    (folded_folded z.origin, each_lower z.records) (stands is_checked))
  where
    names : List DomainName
    names = folded z.origin ∷ map (λ (r : ResourceRecord). folded r.owner) z.records

    stands : IsChecked z n → Among n names
    stands (inl e) = grind (arith, lower_equal, folded, folded_folded, names_equal)
    stands (inr e) =
        let own : ResourceRecord → Bool = λ r. same r.owner n in
        let r = any_among own z.records (any_counted own z.records ∙ e) in
        inr (subst (λ m. Among m (map (λ (s : ResourceRecord). folded s.owner) z.records))
        (lower_equal (folded r.0.owner) n (folded_folded r.0.owner) low
        (ap (λ m. names_equal m (folded n)) (folded_folded r.0.owner) ∙ r.2))
        (among_mapped (λ (s : ResourceRecord). folded s.owner) r.0 z.records r.1))

-- a fault's name and code are those of a check that the name fails
fault_fails : (z : ZoneContents) (m : DomainName) (f : Fault)
    → Among f (faults_at z m) → (f.owner ≡ m) × (fails z m f.code ≡ true)
fault_fails z m f k =
    let make : ℕ × Check → Fault = λ c. record { owner = m; code = c.0 } in
    let r = mapped_among make f (filter (λ (c : ℕ × Check). c.1 z m) checks) k in
    let holds : r.0.1 z m ≡ true = each_at (λ c. c.1 z m ≡ true) r.0
    (filter (λ (c : ℕ × Check). c.1 z m) checks) (filter_each (λ c. c.1 z m) checks) r.1 in (
      ap (λ (g : Fault). g.owner) r.2,
      among_any (λ (c : ℕ × Check). c.0 == f.code && c.1 z m) r.0 checks
          (among_filter (λ c. c.1 z m) r.0 checks r.1)
          (and_from _ _ (eq-eqb r.0.0 f.code (sym (ap (λ (g : Fault). g.code) r.2))) holds),
    )

fails_fault : (z : ZoneContents) (n : DomainName) (code : ℕ)
    → fails z n code ≡ true → Among (record { owner = n; code = code }) (faults_at z n)
fails_fault z n code e =
    let make : ℕ × Check → Fault = λ c. record { owner = n; code = c.0 } in
    let r = any_among (λ (c : ℕ × Check). c.0 == code && c.1 z n) checks e in
    let both = and_parts (r.0.0 == code) (r.0.1 z n) r.2 in
    let there = among_mapped make r.0 (filter (λ (c : ℕ × Check). c.1 z n) checks)
    (filter_among (λ c. c.1 z n) r.0 checks both.1 r.1) in
    subst (λ k. Among (record { owner = n; code = k }) (faults_at z n))
    (eqb-true r.0.0 code both.0) there

-- A fault is among the faults if and only if the name fails its check.
pub fault_stands : (z : ZoneContents) (n : DomainName) (code : ℕ) → folded n ≡ n
    → Contains (faults z) (record { owner = n; code = code }) ↔ (fails z n code ≡ true)
unfolding faults
fault_stands z n code low = (forth, back)
  where
    forth : Contains (flat_map (faults_at z) (checked_names z)) (record { owner = n; code = code })
        → fails z n code ≡ true
    forth c =
        let r = joined_among (faults_at z) (record { owner = n; code = code })
        (checked_names z) (contains_among _ (flat_map (faults_at z) (checked_names z)) c) in
        let k = fault_fails z r.0 (record { owner = n; code = code }) r.2 in grind arith

    back : fails z n code ≡ true
        → Contains (flat_map (faults_at z) (checked_names z)) (record { owner = n; code = code })
    back e =
        among_contains _ (flat_map (faults_at z) (checked_names z))
        (among_joined (faults_at z) _ n (checked_names z)
        (checked_among z n low (failing_is_checked z n code e)) (fails_fault z n code e))

-- the faults of one name rise by code, and the faults of a list of names by name and then by code
code_order : ℕ × Check → ℕ × Check → Ordering
code_order c d = nat_cmp c.0 d.0

codes_rise : Rises code_order checks
unfolding rises_test code_order
codes_rise = rises_from code_order checks refl

faults_of_one_rise : (z : ZoneContents) (n : DomainName) → Rises fault_order (faults_at z n)
unfolding code_order
faults_of_one_rise z n =
    rises_mapped code_order fault_order (λ (c : ℕ × Check). record { owner = n; code = c.0 })
    (λ c d e. ap (λ o. ordering_then o (nat_cmp c.0 d.0)) (tied_itself name_order_total n) ∙ e)
    (filter (λ (c : ℕ × Check). c.1 z n) checks)
    (rises_filtered code_order (λ c. c.1 z n) checks codes_rise)

faults_rise : (z : ZoneContents) (names : List DomainName)
    → Rises name_order names → Rises fault_order (flat_map (faults_at z) names)
faults_rise z [] r = tt
faults_rise z (n ∷ names) r =
    subst (Rises fault_order) (sym (flat_map-cons (faults_at z) n names))
    (rises_joined fault_order (faults_at z n)
    (flat_map (faults_at z) names) (faults_of_one_rise z n) (faults_rise z names r.1) before)
  where
    before : (f g : Fault)
        → Among f (faults_at z n) → Among g (flat_map (faults_at z) names) → fault_order f g ≡ Less
    before f g m k =
        let later = joined_among (faults_at z) g names k in
        let order : name_order f.owner g.owner ≡ Less =
        ap (λ a. name_order a g.owner) (fault_fails z n f m).0
        ∙ ap (λ b. name_order n b) (fault_fails z later.0 g later.2).0
        ∙ each_at (λ y. name_order n y ≡ Less) later.0 names r.0 later.1 in
        ap (λ o. ordering_then o (nat_cmp f.code g.code)) order

-- Each fault is in the list once, and the faults are sorted by owner and then by code.
pub faults_are_sorted : (z : ZoneContents) → IsStrictlySortedBy fault_order (faults z)
unfolding faults
faults_are_sorted z =
    let names : List DomainName =
    folded z.origin ∷ map (λ (r : ResourceRecord). folded r.owner) z.records in
    strictly_sorted fault_order (flat_map (faults_at z) (checked_names z))
    (faults_rise z (checked_names z)
    (sort_rises name_order name_order_total same name_tie Lower lower_equal
    (distinct same names) (apart_distinct same names)))

pub origin_or_owner : (z : ZoneContents) (n : DomainName) (code : ℕ)
    → fails z n code ≡ true → (is_origin z n || is_owner z n) ≡ true
origin_or_owner z n code e = elim (failing_is_checked z n code e) [
  | inl o ↦ ap (λ t. t || is_owner z n) o
  | inr w ↦ ap (λ t. is_origin z n || t) w ∙ or_true (is_origin z n)
]
  where
    or_true : (t : Bool) → (t || true) ≡ true
    or_true true = refl
    or_true false = refl
