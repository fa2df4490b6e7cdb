-- A zone that passes has no fault at its origin or at an owner.
use Rattle.dns_spec.proofs.Common.{common_steps, ltb-false, folded, same, name_order, type_soa, ResourceRecord, ZoneContents, distinct, rrset, at, Check, checks, faults_at, checked_names, faults, Passes, ◌≡◌, ℕ, ◌≤◌, false, inl, inr, List, [], ◌∷◌, map, length, sym, ap, subst, filter, ◌==◌, arith, AllByRecursion}
use Rattle.dns_spec.proofs.DomainNames.NameLaws.{names_equal-decides}
use Rattle.dns_spec.proofs.ZoneChecks.FaultOrder.{name_order_total, name_tie, Lower, lower_equal}
use Rattle.dns_spec.proofs.General.Elements.{Among, each_at, among_mapped}
use Rattle.dns_spec.proofs.General.Filters.{filter_nothing, map_nothing, flat_nothing}
use Rattle.dns_spec.proofs.General.Sorted.{among_sort, among_distinct, sort_short}

-- the origin of a zone that passes fails no check
pub checks_of_origin : (z : ZoneContents) → folded z.origin ≡ z.origin
    → Passes z → AllByRecursion (λ (k : ℕ × Check). k.1 z z.origin ≡ false) checks
unfolding faults
checks_of_origin z low passes =
    let checked : Among z.origin (checked_names z) = among_sort name_order z.origin
    (distinct same (folded z.origin ∷ map (λ (r : ResourceRecord). folded r.owner) z.records))
    (inl (sym low)) in
    let none : faults_at z z.origin ≡ [] = grind (arith, flat_nothing) in
    filter_nothing (λ (k : ℕ × Check). k.1 z z.origin) checks
    (map_nothing (λ (k : ℕ × Check). record { owner = z.origin; code = k.0 })
    (filter (λ (k : ℕ × Check). k.1 z z.origin) checks) none)

-- one of the checks
abbrev pub IsCheck : Check → Type 0
IsCheck c = Among c (map (λ (k : ℕ × Check). k.1) checks)

-- an owner in a zone that passes fails no check
pub passes_check : (z : ZoneContents) → folded z.origin ≡ z.origin → AllByRecursion
    (λ (r : ResourceRecord). folded r.owner ≡ r.owner) z.records → Passes z → (r : ResourceRecord)
    → Among r z.records → (c : Check) → IsCheck c → c z r.owner ≡ false
unfolding faults
passes_check z low lows passes r m c is_check =
    let f = λ (s : ResourceRecord). folded s.owner in
    let names = folded z.origin ∷ map f z.records in
    let here : folded r.owner ≡ r.owner =
    each_at (λ (s : ResourceRecord). folded s.owner ≡ s.owner) r z.records lows m in
    let named : Among r.owner names =
    inr (subst (λ n. Among n (map f z.records)) here (among_mapped f r z.records m)) in
    let lower : AllByRecursion Lower names = (ap folded low, all_low z.records lows) in
    let checked : Among r.owner (checked_names z) =
    among_sort name_order r.owner (distinct same names) (among_distinct
    name_order name_order_total same name_tie Lower lower_equal r.owner names lower named) in
    let none : faults_at z r.owner ≡ [] =
    flat_nothing (faults_at z) (checked_names z) r.owner passes checked in
    let all = filter_nothing (λ (k : ℕ × Check). k.1 z r.owner) checks
    (map_nothing (λ (k : ℕ × Check). record { owner = r.owner; code = k.0 })
    (filter (λ (k : ℕ × Check). k.1 z r.owner) checks) none) in
    each_at (λ k. k z r.owner ≡ false) c (map (λ (k : ℕ × Check). k.1) checks) all is_check
  where
    all_low : (rs : List ResourceRecord)
        → AllByRecursion (λ (s : ResourceRecord). folded s.owner ≡ s.owner)
        rs → AllByRecursion Lower (map (λ (s : ResourceRecord). folded s.owner) rs)
    all_low [] e = tt
    all_low (s ∷ rs) e = (ap folded e.0, all_low rs e.1)

-- the SOA at the origin of a zone that passes is the only one
pub few_soa : (z : ZoneContents) → folded z.origin ≡ z.origin
    → Passes z → length (filter (λ (r : ResourceRecord). r.rtype == type_soa) (at z z.origin)) ≤ 1
few_soa z low passes = grind (arith, common_steps, checks_of_origin, names_equal-decides, ltb-false)

-- so sorting it changes nothing
pub one_soa : (z : ZoneContents) → folded z.origin ≡ z.origin → Passes z → rrset z z.origin type_soa
    ≡ filter (λ (r : ResourceRecord). r.rtype == type_soa) (at z z.origin)
one_soa z low passes = grind (arith, sort_short, few_soa)
