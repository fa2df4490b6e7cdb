-- The names for which faults are reported: the origin, and each owner once.
use Rattle.dns_zone.proofs.Common.{◌≡◌, ℕ, suc, Bool, true, false, ◌⊎◌, inl, inr, List, [], ◌∷◌, ◌++◌, map, refl, ◌==◌, ◌&&◌, filter, is_gt, Less, arith, false≢true, true≢false, and_parts, eqb-true, if◌then◌else◌, DomainName, folded, same, name_order, ResourceRecord, ZoneContents, distinct, Check, checks, checked_names, folded_folded, name_tie, name_order_total, lower_equal, Lower, tied_back, alike_right, AllByRecursion, Among, Rises, each_weaker, sort_rises, apart_distinct, distinct_among, sort_among, among_sort, among_distinct, same_risen, failed_from, begins_with_owner, owners_once, reported_at, Fault, CheckFault, fault_of, faults_of, numbered_owner, subst, map-append}
use Rattle.dns_spec.specs.Checks.{faults_at}
use Rattle.dns_zone.proofs.NameOrder.{same-is, same-from, same-tied}
use Rattle.dns_zone.proofs.AtName.{OwnerNotAfter}
use Rattle.dns_spec.proofs.General.Pairs.{Pairs}

-- the codes of checks rise by one
abbrev rise_by_one : ℕ → List (ℕ × Check) → Bool
rise_by_one k [] = true
rise_by_one k (c ∷ cs) = c.0 == k && rise_by_one (suc k) cs

-- the faults of the owner with a number
module _ (z : ZoneContents) (i : ℕ) where
  abbrev fails : ℕ × Check → Bool
  fails c = c.1 z (numbered_owner z i)

  abbrev as_fault : ℕ × Check → Fault
  as_fault c = record { owner = numbered_owner z i; code = c.0 }

  failed_in_order : (k : ℕ) (cs : List (ℕ × Check)) → rise_by_one k cs ≡ true
      → faults_of z (failed_from i k (map fails cs)) ≡ map as_fault (filter fails cs)
  failed_in_order k [] h = refl
  failed_in_order k (c ∷ cs) h = grind (arith, eqb-true, and_parts, failed_in_order (suc k) cs)

  failed_reported : (n : DomainName) → numbered_owner z i ≡ n
      → faults_of z (failed_from i 1 (map (λ (c : ℕ × Check). c.1 z n) checks)) ≡ reported_at z n
  unfolding reported_at
  failed_reported n e =
      subst (λ m. faults_of z (failed_from i 1 (map (λ (c : ℕ × Check). c.1 z m) checks))
      ≡ faults_at z m) e (failed_in_order 1 checks refl)

  pub more_reported : (n : DomainName) → numbered_owner z i ≡ n → (old new : List CheckFault)
      → new ≡ old ++ failed_from i 1 (map (λ (c : ℕ × Check). c.1 z n) checks)
      → faults_of z new ≡ faults_of z old ++ reported_at z n
  more_reported n e old new f = grind (arith, z, map-append, fault_of, failed_reported)

each_once : (P : DomainName → Type 0) (rs : List ResourceRecord)
    → AllByRecursion (λ r. P (folded r.owner)) rs → AllByRecursion P (owners_once rs)
each_once P [] e = tt
each_once P (r ∷ rs) e = grind (arith, (each_once P rs e.1))

lower_order : (n m : DomainName) → name_order (folded n) (folded m) ≡ name_order n m
lower_order n m = grind (arith, same-tied, same-from, folded_folded, alike_right, name_order_total)

less_then : (n m k : DomainName)
    → name_order n m ≡ Less → is_gt (name_order m k) ≡ false → name_order n k ≡ Less
less_then n m k e h = grind (arith, alike_right, name_order_total, true≢false)

less_other : (n m : DomainName)
    → is_gt (name_order n m) ≡ false → same m n ≡ false → name_order n m ≡ Less
less_other n m h s = grind (arith, false≢true, name_tie, tied_back, name_order_total, true≢false)

-- after the last record of an owner, all owners are greater
pub greater_after : (r : ResourceRecord) (rs : List ResourceRecord)
    → Pairs OwnerNotAfter (r ∷ rs) → begins_with_owner r.owner rs ≡ false
    → AllByRecursion (λ s. name_order (folded r.owner) (folded s.owner) ≡ Less) rs
greater_after r [] h e = tt
greater_after r (q ∷ rs) h e = grind (arith, less_other, lower_order, each_weaker, less_then)

pub once_rise : (rs : List ResourceRecord)
    → Pairs OwnerNotAfter rs → Rises name_order (owners_once rs)
once_rise [] h = tt
once_rise (r ∷ rs) h =
    grind (
      arith,
      once_rise rs h.1,
      greater_after r rs h,
      each_once (λ n. name_order (folded r.owner) n ≡ Less) rs,
    )

-- the owners of records
abbrev pub owners : List ResourceRecord → List DomainName
owners rs = map (λ (r : ResourceRecord). folded r.owner) rs

once_among : (a : DomainName) (rs : List ResourceRecord)
    → Among a (owners_once rs) → Among a (owners rs)
once_among a [] m = m
once_among a (r ∷ rs) m = grind (arith, (once_among a rs))

next_among : (a : DomainName) (r : ResourceRecord) (rs : List ResourceRecord)
    → begins_with_owner r.owner rs ≡ true → a ≡ folded r.owner → Among a (owners rs)
next_among a r rs h h1 = grind (arith, false≢true, same-is)

pub among_once : (a : DomainName) (rs : List ResourceRecord)
    → Among a (owners rs) → Among a (owners_once rs)
among_once a [] m = m
among_once a (r ∷ rs) m = go (begins_with_owner r.owner rs) refl m (among_once a rs)
  where
    go : (b : Bool) → begins_with_owner r.owner rs ≡ b → (a ≡ folded r.owner) ⊎ Among a (owners rs)
        → (Among a (owners rs) → Among a (owners_once rs))
        → Among a ((if b then [] else folded r.owner ∷ []) ++ owners_once rs)
    go true h (inl e) f = f (next_among a r rs h e)
    go true h (inr k) f = f k
    go false h (inl e) f = inl e
    go false h (inr k) f = inr (f k)

module _ (z : ZoneContents) where
  abbrev names : List DomainName
  names = folded z.origin ∷ owners z.records

  names_lower : AllByRecursion Lower names
  names_lower = (folded_folded z.origin, all z.records)
    where
      all : (rs : List ResourceRecord) → AllByRecursion Lower (owners rs)
      all [] = tt
      all (r ∷ rs) = (folded_folded r.owner, all rs)

  -- the origin, or an owner
  abbrev pub IsName : DomainName → Type 0
  IsName a = (a ≡ folded z.origin) ⊎ Among a (owners_once z.records)

  pub checked_rise : Rises name_order (checked_names z)
  checked_rise =
      sort_rises name_order name_order_total same name_tie Lower lower_equal
      (distinct same names) (apart_distinct same names)

  pub checked_among : (a : DomainName) → Among a (checked_names z) → IsName a
  checked_among a m =
      grind (
        arith,
        among_once a z.records,
        distinct_among same a names,
        sort_among name_order a (distinct same names),
      )

  pub among_checked : (a : DomainName) → IsName a → Among a (checked_names z)
  among_checked a m =
      among_sort name_order a (distinct same names)
      (among_distinct name_order name_order_total same name_tie Lower lower_equal a names
      names_lower (grind (arith, once_among)))

  -- rising names that are the origin and all owners are the checked names
  pub names_checked : (ns : List DomainName) → Rises name_order ns → ((a : DomainName)
      → Among a ns → IsName a) → ((a : DomainName) → IsName a → Among a ns) → ns ≡ checked_names z
  names_checked ns rise f g =
      same_risen name_order name_order_total same name_tie Lower lower_equal ns (checked_names z)
      rise checked_rise (λ a m. among_checked a (f a m)) (λ a m. g a (checked_among a m))
