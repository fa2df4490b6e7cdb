-- Faults that no further record removes: a zone with more records, in any order, has them too.
use Rattle.dns_spec.proofs.Common.{◌≡◌, ℕ, ◌≤◌, Bool, true, false, ◌&&◌, not, ◌==◌, nat_lt, List, [], ◌∷◌, ◌++◌, map, map-append, filter, filter-append, length-append, list_any, list_any-append, refl, ap, ◌∙◌, subst, arith, IsTrue, lt-ltb, ltb-true, eqb-true, false≢true, and_parts, and_from, or_parts, Contains, IsPermutation, Option, Some, None, DomainName, folded, same, at_or_below, target, type_cname, type_ns, type_soa, ResourceRecord, ZoneContents, at, owns, distinct, is_cut, Check, is_owner, count, has_target, ttls_differ, data_at_cut, large_set, many_sets, checks, fails, faults, is_lasting, AllByRecursion}
use Rattle.std.specs.Option.{option_map_or}
use Rattle.dns_spec.specs.Sets.{types_of}
use Rattle.dns_spec.specs.Checks.{owns_such}
use Rattle.dns_spec.proofs.General.Tests.{any_weaker, any_among, among_any}
use Rattle.dns_spec.proofs.General.Elements.{each_at}
use Rattle.dns_spec.proofs.ZoneChecks.FaultOrder.{faults_in_any_order}
use Rattle.dns_spec.proofs.ZoneChecks.FaultLaws.{fault_stands}

-- what some element of a list passes, some element of a longer list passes by a weaker test
any_more : {X : Type 0} (p q : X → Bool) (xs ys : List X) → ((x : X) → p x ≡ true → q x ≡ true)
    → list_any p xs ≡ true → list_any q (xs ++ ys) ≡ true
any_more p q xs ys weaker e = grind (arith, list_any-append, any_weaker)

-- a longer list has at least as many distinct elements
distinct_more : {X : Type 0} (eq : X → X → Bool) (xs ys : List X)
    → (zs : List X) × (distinct eq (xs ++ ys) ≡ distinct eq xs ++ zs)
distinct_more {X} eq [] ys = (distinct eq ys, refl)
distinct_more {X} eq (x ∷ xs) ys =
    let more = distinct_more eq xs ys in
    let p : X → Bool = λ y. not (eq x y) in (
      filter p more.0,
      ap (λ l. x ∷ filter p l) more.1
          ∙ ap (λ l. x ∷ l) (filter-append p (distinct eq xs) more.0),
    )

-- for one origin, what holds of a name by some records also holds by more
module _ (o : DomainName) (rs more : List ResourceRecord) where
  abbrev z : ZoneContents
  z = record { origin = o; records = rs }

  abbrev z' : ZoneContents
  z' = record { origin = o; records = rs ++ more }

  abbrev Stays : Check → Type 0
  Stays check = (n : DomainName) → check z n ≡ true → check z' n ≡ true

  at_more : (n : DomainName)
      → at z' n ≡ at z n ++ filter (λ (r : ResourceRecord). same r.owner n) more
  at_more n = filter-append (λ (r : ResourceRecord). same r.owner n) rs more

  owns_stays : (n : DomainName) (t : ℕ) → owns z n t ≡ true → owns z' n t ≡ true
  owns_stays n t e =
      any_more (λ (r : ResourceRecord). same r.owner n && r.rtype == t)
      (λ (r : ResourceRecord). same r.owner n && r.rtype == t) rs more (λ r h. h) e

  any_stays : (n : DomainName) (p q : ResourceRecord → Bool)
      → ((r : ResourceRecord) → p r ≡ true → q r ≡ true)
      → list_any p (at z n) ≡ true → list_any q (at z' n) ≡ true
  any_stays n p q weaker e =
      ap (list_any q) (at_more n)
      ∙ any_more p q (at z n) (filter (λ (r : ResourceRecord). same r.owner n) more) weaker e

  count_grows : (n : DomainName) (t : ℕ) → count z n t ≤ count z' n t
  count_grows n t = grind (arith, at_more, filter-append, length-append)

  exceeds : (k m m' : ℕ) → m ≤ m' → nat_lt k m ≡ true → nat_lt k m' ≡ true
  exceeds k m m' less e = lt-ltb k m' (omega (arith, less, (ltb-true k m e)))

  is_cut_stays : Stays is_cut
  is_cut_stays n e = grind (arith, owns_stays)

  target_stays : (n : DomainName) (type : ℕ → Bool)
      → has_target z n type (λ m. owns z m type_cname) ≡ true
      → has_target z' n type (λ m. owns z' m type_cname) ≡ true
  target_stays n type e = any_stays n _ _ by_record e
    where
      by_target : (m : Option DomainName)
          → option_map_or (λ m. at_or_below m o && owns z m type_cname) m false ≡ true
          → option_map_or (λ m. at_or_below m o && owns z' m type_cname) m false ≡ true
      by_target None e = e
      by_target (Some m) e = grind (arith, owns_stays)

      by_record : (r : ResourceRecord) → (type r.rtype && option_map_or (λ m. at_or_below m o
          && owns z m type_cname) (target r.rtype r.rdata) false) ≡ true
          → (type r.rtype && option_map_or (λ m. at_or_below m o
          && owns z' m type_cname) (target r.rtype r.rdata) false) ≡ true
      by_record r e = grind (arith, by_target)

  same_r : (p : ResourceRecord → Bool) (r : ResourceRecord) → p r ≡ true → p r ≡ true
  same_r p r e = e

  owns_such_stays : (n : DomainName) (test : ℕ → Bool)
      → owns_such z n test ≡ true → owns_such z' n test ≡ true
  owns_such_stays n test e = any_stays n _ _ (same_r (λ (r : ResourceRecord). test r.rtype)) e

  exceeds_stays : (n : DomainName) (t k : ℕ)
      → nat_lt k (count z n t) ≡ true → nat_lt k (count z' n t) ≡ true
  exceeds_stays n t k e = exceeds k (count z n t) (count z' n t) (count_grows n t) e

  ttls_differ_stays : Stays ttls_differ
  ttls_differ_stays n e = grind (arith, any_stays)

  cuts_stay : (ns : List DomainName)
      → list_any (is_cut z) ns ≡ true → list_any (is_cut z') ns ≡ true
  cuts_stay ns e = any_weaker (is_cut z) (is_cut z') ns is_cut_stays e

  data_at_cut_stays : Stays data_at_cut
  data_at_cut_stays n = grind (arith, is_cut_stays, cuts_stay, owns_such_stays, or_parts, and_parts)

  large_set_stays : Stays large_set
  large_set_stays n e = grind (arith, any_stays, exceeds_stays)

  many_sets_stays : Stays many_sets
  many_sets_stays n e =
      let f : ResourceRecord → ℕ = λ (r : ResourceRecord). r.rtype in
      let own = filter (λ (r : ResourceRecord). same r.owner n) more in
      let found = distinct_more ◌==◌ (map f (at z n)) (map f own) in
      let is : types_of (at z' n) ≡ types_of (at z n) ++ found.0 =
      ap types_of (at_more n) ∙ ap (distinct ◌==◌) (map-append f (at z n) own) ∙ found.1 in
      grind (arith, exceeds, z, z', length-append)

  abbrev StaysIfLasting : ℕ × Check → Type 0
  StaysIfLasting c =
      (n : DomainName) → is_lasting c.0 ≡ true → c.1 z n ≡ true → c.1 z' n ≡ true

  each_stays : AllByRecursion StaysIfLasting checks
  each_stays = (
    (λ n lasts e. absurd (false≢true lasts)),
    (
      (λ n lasts e. both e (λ k. k) (exceeds_stays n type_soa 1)),
      (
        (λ n lasts e. both e (λ k. k) (owns_stays n type_soa)),
        (
          (λ n lasts e. absurd (false≢true lasts)),
          (
            (λ n lasts e. both e (exceeds_owner n) (λ k. k)),
            (
              (λ n lasts e. both e (owns_stays n type_cname) (owns_such_stays n _)),
              (
                (λ n lasts e. exceeds_stays n type_cname 1 e),
                (
                  (λ n lasts e. ttls_differ_stays n e),
                  (
                    (λ n lasts e. target_stays n _ e),
                    (
                      (λ n lasts e. absurd (false≢true lasts)),
                      (
                        (λ n lasts e. target_stays n _ e),
                        (
                          (λ n lasts e. data_at_cut_stays n e),
                          (
                            (λ n lasts e. both e (λ k. k) (owns_stays n type_ns)),
                            (
                              (λ n lasts e. large_set_stays n e),
                              (
                                (λ n lasts e. many_sets_stays n e),
                                tt,
                              ),
                            ),
                          ),
                        ),
                      ),
                    ),
                  ),
                ),
              ),
            ),
          ),
        ),
      ),
    ),
  )
    where
      both : {p q p' q' : Bool} → (p && q) ≡ true
          → (p ≡ true → p' ≡ true) → (q ≡ true → q' ≡ true) → (p' && q') ≡ true
      both {p} {q} {p'} {q'} e f g = grind arith

      exceeds_owner : (n : DomainName) → is_owner z n ≡ true → is_owner z' n ≡ true
      exceeds_owner n e = grind (arith, at_more, length-append)

  fails_stays : (n : DomainName) (code : ℕ)
      → is_lasting code ≡ true → fails z n code ≡ true → fails z' n code ≡ true
  fails_stays n code lasts e =
      let found = any_among (λ (c : ℕ × Check). c.0 == code && c.1 z n) checks e in
      let parts = and_parts (found.0.0 == code) (found.0.1 z n) found.2 in
      grind (arith, among_any, z', and_from, each_at, each_stays, eqb-true)

-- A fault that lasts is a fault of each zone with more records, in any order.
pub fault_lasts : (o : DomainName) (rs more ss : List ResourceRecord) (n : DomainName) (code : ℕ)
    → folded n ≡ n → IsTrue (is_lasting code) → IsPermutation (rs ++ more) ss
    → Contains (faults (record { origin = o; records = rs })) (record { owner = n; code = code })
    → Contains (faults (record { origin = o; records = ss })) (record { owner = n; code = code })
fault_lasts o rs more ss n code low lasts mixed stands =
    subst (λ fs. Contains fs (record { owner = n; code = code }))
    (faults_in_any_order o (rs ++ more) ss mixed)
    ((fault_stands (z' o rs more) n code low).1
    (fails_stays o rs more n code lasts ((fault_stands (z o rs more) n code low).0 stands)))
