-- The faults of a list of records do not depend on its order.
use Rattle.dns_spec.proofs.Common.{◌≡◌, ℕ, Bool, true, ◌&&◌, eqb, nat_lt, ◌==◌, List, [], ◌∷◌, map, reverse, length, sym, ap, ap₂, ◌∙◌, arith, flat_map, IsPermutation, is_eq, nat_cmp, Equal, eqb-true, reverse-reverse, list_any, IsTotalOrder, lists_ties, DomainName, folded, same, names_equal, label_order, name_order, ResourceRecord, ZoneContents, at, owns, distinct, nat_cmp_total, nat_list_cmp_total, lists_total, on_total, most_sets, Check, has_target, ttls_differ, ns_target_alias, lacks_address, ns_target_lacks_address, mx_target_alias, data_at_cut, large_set, many_sets, Fault, faults_at, checked_names, faults, AllByRecursion}
use Rattle.dns_spec.proofs.DomainNames.NameLaws.{names_equal-decides}
pub use Rattle.dns_spec.proofs.DataWords.LoweredData.{folded_folded}
use Rattle.dns_spec.proofs.General.Elements.{each_any}
use Rattle.dns_spec.proofs.General.Tests.{SameCounts, from_permutation, same_any, same_filter, same_values}
use Rattle.dns_spec.proofs.General.Sorted.{length-sort_by, same_sorted}
use Rattle.dns_spec.proofs.General.Orderings.{eqb_decides, nat_ties, nat_tie}
use Rattle.dns_spec.proofs.General.Truths.{in_rest}

-- two lists in which each test passes equally many records have equally many types
same_type_count : (xs ys : List ResourceRecord)
    → SameCounts xs ys → length (distinct ◌==◌ (map (λ (r : ResourceRecord). r.rtype) xs))
    ≡ length (distinct ◌==◌ (map (λ (r : ResourceRecord). r.rtype) ys))
same_type_count xs ys c =
    let f : ResourceRecord → ℕ = λ (r : ResourceRecord). r.rtype in
    let back : SameCounts ys xs = λ p. sym (c p) in
    sym (length-sort_by nat_cmp (distinct ◌==◌ (map f xs)))
    ∙ ap length (same_sorted nat_cmp nat_cmp_total ◌==◌ nat_tie (λ _. Unit {0}) (λ
    x y d e t. eqb-true x y t) (map f xs) (map f ys) (each_any (map f xs)) (each_any (map f ys))
    (same_values f eqb eqb_decides xs ys c) (same_values f eqb eqb_decides ys xs back))
    ∙ length-sort_by nat_cmp (distinct ◌==◌ (map f ys))

-- A name in lower case. Two such names are equal if they are `same` (`lower_equal`); names that are
-- equal in the canonical order are `same` (`name_tie`).
abbrev pub Lower : DomainName → Type 0
Lower n = folded n ≡ n

pub each_lower : (xs : List ResourceRecord)
    → AllByRecursion Lower (map (λ (r : ResourceRecord). folded r.owner) xs)
each_lower [] = tt
each_lower (r ∷ xs) = (folded_folded r.owner, each_lower xs)

pub lower_equal : (n m : DomainName) → Lower n → Lower m → same n m ≡ true → n ≡ m
lower_equal n m d e t = sym d ∙ (names_equal-decides (folded n) (folded m)).0 t ∙ e

pub name_order_total : IsTotalOrder name_order
name_order_total = on_total (λ n. reverse (folded n)) (lists_total nat_list_cmp_total)

pub name_tie : (n m : DomainName) → name_order n m ≡ Equal → same n m ≡ true
name_tie n m e =
    let a = reverse (folded n) in
    let b = reverse (folded m) in
    let t : names_equal a b ≡ true =
    lists_ties label_order (lists_ties nat_cmp nat_ties) a b ∙ ap is_eq e in
    let back : folded n ≡ folded m = sym (reverse-reverse (folded n))
    ∙ ap reverse ((names_equal-decides a b).0 t) ∙ reverse-reverse (folded m) in
    (names_equal-decides (folded n) (folded m)).1 back

-- for one origin, each check gives the same for two lists in which each test passes equally many
-- records
module _ (o : DomainName) (xs ys : List ResourceRecord) (c : SameCounts xs ys) where
  z : ZoneContents
  z = record { origin = o; records = xs }

  z' : ZoneContents
  z' = record { origin = o; records = ys }

  abbrev Kept : Check → Type 0
  Kept check = (n : DomainName) → check z n ≡ check z' n

  same_at : (n : DomainName) → SameCounts (at z n) (at z' n)
  unfolding z z'
  same_at n = same_filter (λ (r : ResourceRecord). same r.owner n) xs ys c

  any_at : (n : DomainName) (p : ResourceRecord → Bool) → list_any p (at z n) ≡ list_any p (at z' n)
  any_at n p = same_any p (at z n) (at z' n) (same_at n)

  owns_kept : (n : DomainName) (t : ℕ) → owns z n t ≡ owns z' n t
  unfolding z z'
  owns_kept n t = same_any (λ (r : ResourceRecord). same r.owner n && r.rtype == t) xs ys c

  target_kept : (n : DomainName) (type : ℕ → Bool) (p q : DomainName → Bool)
      → ((m : DomainName) → p m ≡ q m) → has_target z n type p ≡ has_target z' n type q
  unfolding z z'
  target_kept n type p q e = grind (arith, z, any_at)

  lacks_kept : (n m : DomainName) → lacks_address z n m ≡ lacks_address z' n m
  unfolding z z'
  lacks_kept n m = grind (arith, ap₂, owns_kept)

  ttls_differ_kept : Kept ttls_differ
  ttls_differ_kept n = grind (arith, z, any_at, z')

  ns_target_alias_kept : Kept ns_target_alias
  ns_target_alias_kept n = grind (arith, target_kept, owns_kept)

  ns_target_lacks_address_kept : Kept ns_target_lacks_address
  ns_target_lacks_address_kept n = grind (arith, target_kept, lacks_kept)

  mx_target_alias_kept : Kept mx_target_alias
  mx_target_alias_kept n = grind (arith, target_kept, owns_kept)

  data_at_cut_kept : Kept data_at_cut
  unfolding z z'
  data_at_cut_kept n = grind (arith, owns_kept, any_at)

  large_set_kept : Kept large_set
  large_set_kept n = grind (arith, same_at, any_at)

  many_sets_kept : Kept many_sets
  many_sets_kept n = ap (nat_lt most_sets) (same_type_count (at z n) (at z' n) (same_at n))

  faults_at_kept : (n : DomainName) → faults_at z n ≡ faults_at z' n
  unfolding z z'
  faults_at_kept n =
      grind (
        arith,
        owns_kept,
        any_at,
        same_at,
        ttls_differ_kept,
        ns_target_alias_kept,
        ns_target_lacks_address_kept,
        mx_target_alias_kept,
        data_at_cut_kept,
        large_set_kept,
        many_sets_kept,
      )

  checked_names_kept : checked_names z ≡ checked_names z'
  unfolding z z'
  checked_names_kept =
      let f : ResourceRecord → DomainName = λ (r : ResourceRecord). folded r.owner in
      let back : SameCounts ys xs = λ p. sym (c p) in
      same_sorted name_order name_order_total same name_tie Lower lower_equal
      (folded o ∷ map f xs) (folded o ∷ map f ys)
      (folded_folded o, each_lower xs) (folded_folded o, each_lower ys)
      (λ a m. in_rest m (same_values f names_equal names_equal-decides xs ys c a))
      (λ a m. in_rest m (same_values f names_equal names_equal-decides ys xs back a))

  faults_kept : faults z ≡ faults z'
  unfolding faults
  faults_kept = ap (λ (h : DomainName → List Fault). flat_map h (checked_names z))
      (λ k n. faults_at_kept n k) ∙ ap (flat_map (faults_at z')) checked_names_kept

-- The faults of a list of records do not depend on its order.
pub faults_in_any_order : (o : DomainName) (xs ys : List ResourceRecord) → IsPermutation xs ys
    → faults (record { origin = o; records = xs }) ≡ faults (record { origin = o; records = ys })
unfolding z z'
faults_in_any_order o xs ys h = faults_kept o xs ys (from_permutation xs ys h)
