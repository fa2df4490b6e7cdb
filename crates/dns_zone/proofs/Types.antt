-- The records of one owner, ordered by type.
use Rattle.dns_zone.proofs.Common.{◌≡◌, ◌==◌, ℕ, ◌-◌, ◌<◌, ◌≤◌, length, get_or, Bool, true, not, nat_lt, List, [], sym, ◌∙◌, arith, filter, eqb-true, eq-eqb, ne_eqb, le-ltb, take_all, IsPartitionedBy, IsNonDecreasingBy, ResourceRecord, filter_each}
use Rattle.dns_spec.proofs.General.Filters.{filter_within}
use Rattle.dns_spec.proofs.General.Pairs.{Pairs, pairs_of, pairs_filter, pairs_rising, parted}
use Rattle.dns_spec.proofs.General.Fronts.{halves}

-- the records of a type come first among the records whose type is not lower
module _ (t : ℕ) where
  abbrev of_t : ResourceRecord → Bool
  of_t r = r.rtype == t

  abbrev not_below : ResourceRecord → Bool
  not_below r = not (nat_lt r.rtype t)

  type_pairs : (rs : List ResourceRecord)
      → IsNonDecreasingBy (λ (r : ResourceRecord). r.rtype) rs → Pairs (λ r s. of_t s ≡ true → of_t r ≡ true) (filter not_below rs)
  type_pairs rs h =
      pairs_of (λ r. not_below r ≡ true) (λ r s. r.rtype ≤ s.rtype) (λ r s. of_t s ≡ true
      → of_t r ≡ true) (filter not_below rs) level (filter_each not_below rs) (pairs_filter (λ r
      s. r.rtype ≤ s.rtype) not_below rs (pairs_rising (λ (r : ResourceRecord). r.rtype) rs h))
    where
      level : (r s : ResourceRecord) → not_below r ≡ true
          → not_below s ≡ true → r.rtype ≤ s.rtype → of_t s ≡ true → of_t r ≡ true
      level r s p q l e = grind arith

  pub type_parted : (rs : List ResourceRecord) → IsNonDecreasingBy
      (λ (r : ResourceRecord). r.rtype) rs → IsPartitionedBy of_t (filter not_below rs)
  type_parted rs h = parted of_t (filter not_below rs) (type_pairs rs h)

  pub type_others : (rs : List ResourceRecord) → filter of_t (filter not_below rs) ≡ filter of_t rs
  type_others rs = grind (arith, filter_within, eqb-true, le-ltb)

  -- if the first and the last record have the type, all have it
  pub all_of_type : (rs : List ResourceRecord) → IsNonDecreasingBy (λ (r : ResourceRecord). r.rtype)
      rs → 0 < length rs → ((d : ResourceRecord) → (get_or rs 0 d).rtype ≡ t)
      → ((d : ResourceRecord) → (get_or rs (length rs - 1) d).rtype ≡ t) → rs ≡ filter of_t rs
  all_of_type rs h some first last =
      sym (take_all (length rs) rs (omega arith))
      ∙ (halves of_t rs (length rs) (omega arith) (
        λ k d a b.
            let from : (get_or rs 0 d).rtype ≤ (get_or rs k d).rtype =
            h 0 k d (omega arith) (omega arith) in
            let to : (get_or rs k d).rtype ≤ (get_or rs (length rs - 1) d).rtype =
            h k (length rs - 1) d (omega arith) (omega arith) in
            eq-eqb (get_or rs k d).rtype t (omega (arith, from, to, first d, last d)),
        λ k d a b. absurd (omega arith),
      )).0

  -- if the first record's type is greater, none has the type
  pub none_above : (rs : List ResourceRecord) → IsNonDecreasingBy (λ (r : ResourceRecord). r.rtype)
      rs → ((d : ResourceRecord) → t < (get_or rs 0 d).rtype) → [] ≡ filter of_t rs
  none_above rs h first = (halves of_t rs 0 (omega arith) (
    λ k d a b. absurd (omega arith),
    λ k d a b.
        let from : (get_or rs 0 d).rtype ≤ (get_or rs k d).rtype =
        h 0 k d (omega arith) (omega arith) in
        ne_eqb (get_or rs k d).rtype t (λ e. absurd (omega (arith, from, first d, e))),
  )).0

  -- if the last record's type is lower, none has the type
  pub none_below : (rs : List ResourceRecord) → IsNonDecreasingBy (λ (r : ResourceRecord). r.rtype)
      rs → ((d : ResourceRecord) → (get_or rs (length rs - 1) d).rtype < t) → [] ≡ filter of_t rs
  none_below rs h last = (halves of_t rs 0 (omega arith) (
    λ k d a b. absurd (omega arith),
    λ k d a b.
        let to : (get_or rs k d).rtype ≤ (get_or rs (length rs - 1) d).rtype =
        h k (length rs - 1) d (omega arith) (omega arith) in
        ne_eqb (get_or rs k d).rtype t (λ e. absurd (omega (arith, to, last d, e))),
  )).0
