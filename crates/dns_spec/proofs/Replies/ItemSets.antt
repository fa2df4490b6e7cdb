-- If a zone passes, each item of its replies is the records of one RRset at one owner, with one
-- TTL.
use Rattle.dns_spec.proofs.Common.{common_steps, eqb-true, eq-eqb, false≢true, none-some, same_Some, list_any, DomainName, folded, same, type_ns, type_cname, ResourceRecord, ZoneContents, at, of_type, rrset, with_owner, records_at, found, ttls_differ, Passes, Section, answer, Item, no_error, item, follows_alias, alias_set, chain, alias_items, asked_records, negative_soa, negative, positive, has_any, outcome_by, outcome_at, outcome, address_sets, extra, items, ◌≡◌, ℕ, ◌≤◌, Bool, true, false, ◌&&◌, not, cond, ◌==◌, ◌⊎◌, inl, inr, List, [], ◌∷◌, ◌++◌, map, length, Option, None, Some, All, flat_map, refl, sym, ap, ap₂, ◌∙◌, subst, arith, IsSetAt, AllByRecursion, recursion_from_All, All-from_recursion}
use Rattle.dns_spec.proofs.DomainNames.NameLaws.{names_equal-decides}
use Rattle.dns_spec.proofs.ZoneChecks.PassedChecks.{passes_check, few_soa, one_soa}
use Rattle.dns_spec.proofs.General.Elements.{Among, each_at, each_any, each_append, each_flat_map, each_among}
use Rattle.dns_spec.proofs.General.Filters.{among_filter, filter_test}
use Rattle.dns_spec.proofs.General.Tests.{any_false}
use Rattle.dns_spec.proofs.General.Sorted.{each_sort}

-- records with one owner, one TTL and one type make a set
pub record IsOf (o : DomainName) (k t : ℕ) (r : ResourceRecord) : Type 0 where
  pub owner : r.owner ≡ o
  pub ttl : r.ttl ≡ k
  pub rtype : r.rtype ≡ t

pub as_set : (o : DomainName) (k t : ℕ) (rs : List ResourceRecord)
    → AllByRecursion (IsOf o k t) rs → rs ≡ records_at o k
    (record { rtype = t; ttl = k; rdata = map (λ (r : ResourceRecord). r.rdata) rs })
as_set o k t [] e = refl
as_set o k t (r ∷ rs) e = grind (arith, ap₂, (as_set o k t rs e.1))

one_set : (o : DomainName) (k t : ℕ) (rs : List ResourceRecord) → AllByRecursion (IsOf o k t) rs
    → IsSetAt rs
one_set o k t rs e = record {
  owner = o;
  ttl = k;
  set = record {
    rtype = t;
    ttl = k;
    rdata = map (λ (r : ResourceRecord). r.rdata) rs;
  };
  records = as_set o k t rs e;
}

one_record_set : (rs : List ResourceRecord) → length rs ≤ 1 → IsSetAt rs
one_record_set [] h = one_set [] 0 0 [] tt
one_record_set (r ∷ []) h =
    one_set r.owner r.ttl r.rtype (r ∷ []) (record { owner = refl; ttl = refl; rtype = refl }, tt)
one_record_set (r ∷ s ∷ rs) h = absurd (omega arith)

abbrev Sets : List Item → Type 0
Sets = AllByRecursion (λ (i : Item). IsSetAt i.records)

item_set : (s : Section) (rs : List ResourceRecord) → IsSetAt rs → Sets (item s rs)
item_set s rs h = grind arith

-- the TTL of the first record of a type
pub first_ttl : ℕ → List ResourceRecord → ℕ
first_ttl t [] = 0
first_ttl t (r ∷ rs) = cond (r.rtype == t) r.ttl (first_ttl t rs)

record FirstOf (t : ℕ) (rs : List ResourceRecord) : Type 0 where
  first : ResourceRecord
  among : Among first rs
  typed : first.rtype ≡ t
  ttl : first_ttl t rs ≡ first.ttl

first_of_type : (t : ℕ) (rs : List ResourceRecord) (r : ResourceRecord)
    → Among r rs → r.rtype ≡ t → FirstOf t rs
unfolding first_ttl
first_of_type t [] r m e = absurd m
first_of_type t (s ∷ rs) r m e = go (s.rtype == t) refl m (first_of_type t rs r)
  where
    go : (b : Bool) → (s.rtype == t) ≡ b
        → (r ≡ s) ⊎ Among r rs → (Among r rs → r.rtype ≡ t → FirstOf t rs) → FirstOf t (s ∷ rs)
    go true p n f = record {
      first = s;
      among = inl refl;
      typed = eqb-true s.rtype t p;
      ttl = ap (λ b. cond b s.ttl (first_ttl t rs)) p;
    }
    go false p (inl q) f = grind arith
    go false p (inr n) f =
        let g = f n e in
        record {
          first = g.first;
          among = inr g.among;
          typed = g.typed;
          ttl = ap (λ b. cond b s.ttl (first_ttl t rs)) p ∙ g.ttl;
        }

pub each_typed : (t : ℕ) (P : ResourceRecord → Type 0) (rs : List ResourceRecord)
    → AllByRecursion P rs → AllByRecursion (λ r. P r × (r.rtype ≡ t)) (of_type t rs)
each_typed t P rs e =
    grind (arith, each_sort, each_among, each_at, among_filter, eqb-true, filter_test)

owned : (o : DomainName) (P : ℕ → ℕ → Type 0) (rs : List ResourceRecord)
    → AllByRecursion (λ (r : ResourceRecord). P r.ttl r.rtype) rs
    → AllByRecursion (λ (r : ResourceRecord). (r.owner ≡ o) × P r.ttl r.rtype) (with_owner o rs)
owned o P [] e = tt
owned o P (r ∷ rs) e = ((refl, e.0), owned o P rs e.1)

module _ (z : ZoneContents) (origin : folded z.origin ≡ z.origin) (low : AllByRecursion
    (λ (r : ResourceRecord). folded r.owner ≡ r.owner) z.records) (passes : Passes z) where
  -- records at one name, of one type, have one TTL
  same_ttl : (n : DomainName) (r s : ResourceRecord)
      → Among r (at z n) → Among s (at z n) → r.rtype ≡ s.rtype → r.ttl ≡ s.ttl
  same_ttl n r s m k e =
      let test = λ (x : ResourceRecord). same x.owner n in
      let here = among_filter test r z.records m in
      let alike : folded r.owner ≡ folded n =
      (names_equal-decides (folded r.owner) (folded n)).0 (filter_test test r z.records m) in
      let xs : at z r.owner ≡ at z n = grind arith in
      let fine : ttls_differ z r.owner ≡ false =
      passes_check z origin low passes r here ttls_differ (search (inl, inr) depth 16) in
      let inner = any_false (λ (x : ResourceRecord). list_any
      (λ (y : ResourceRecord). x.rtype == y.rtype && not (x.ttl == y.ttl)) (at z r.owner))
      (at z r.owner) r fine (subst (Among r) (sym xs) m) in
      let pair = any_false (λ (y : ResourceRecord). r.rtype == y.rtype && not (r.ttl == y.ttl))
      (at z r.owner) s inner (subst (Among s) (sym xs) k) in grind (arith, go, eq-eqb)
    where
      go : (b : Bool) → (r.ttl == s.ttl) ≡ b → not (r.ttl == s.ttl) ≡ false → r.ttl ≡ s.ttl
      go true p q = eqb-true r.ttl s.ttl p
      go false p q = absurd (false≢true (sym q ∙ ap not p))

  abbrev HasTtl : DomainName → ℕ → ResourceRecord → Type 0
  HasTtl n t r = r.rtype ≡ t → r.ttl ≡ first_ttl t (at z n)

  at_ttl : (n : DomainName) (t : ℕ) → AllByRecursion (HasTtl n t) (at z n)
  at_ttl n t = each_among
      (HasTtl n t) (at z n) (λ r m e. first_is n t r m e (first_of_type t (at z n) r m e))
    where
      first_is : (n : DomainName) (t : ℕ) (r : ResourceRecord)
          → Among r (at z n) → r.rtype ≡ t → FirstOf t (at z n) → r.ttl ≡ first_ttl t (at z n)
      first_is n t r m e f = same_ttl n r f.first m f.among (e ∙ sym f.typed) ∙ sym f.ttl

  -- the set of a type at the name n, with the owner o
  shown_set : (o n : DomainName) (t : ℕ) → IsSetAt (of_type t (with_owner o (at z n)))
  shown_set o n t =
      one_set o (first_ttl t (at z n)) t (of_type t (with_owner o (at z n)))
      (each_weak (of_type t (with_owner o (at z n)))
      (each_typed t (λ r. (r.owner ≡ o) × HasTtl n t r) (with_owner o (at z n))
      (owned o (λ k u. u ≡ t → k ≡ first_ttl t (at z n)) (at z n) (at_ttl n t))))
    where
      each_weak : (rs : List ResourceRecord) → AllByRecursion (λ r. ((r.owner ≡ o) × HasTtl n t r)
          × (r.rtype ≡ t)) rs → AllByRecursion (IsOf o (first_ttl t (at z n)) t) rs
      each_weak [] e = tt
      each_weak (r ∷ rs) e =
          (record { owner = e.0.0.0; ttl = e.0.0.1 e.0.1; rtype = e.0.1 }, each_weak rs e.1)

  -- the records of a set at a name: their owner is the name in lower case
  pub own_records : (n : DomainName) (t : ℕ)
      → AllByRecursion (IsOf (folded n) (first_ttl t (at z n)) t) (rrset z n t)
  own_records n t =
      each_weak (rrset z n t) (each_typed t (λ r. (r.owner ≡ folded n) × HasTtl n t r) (at z n)
      (each_among (λ r. (r.owner ≡ folded n) × HasTtl n t r) (at z n) (λ r m.
      let test = λ (x : ResourceRecord). same x.owner n in (
        sym (each_at (λ (x : ResourceRecord). folded x.owner ≡ x.owner) r z.records low
            (among_filter test r z.records m))
            ∙ (names_equal-decides (folded r.owner) (folded n)).0 (filter_test test r z.records m),
        each_at (HasTtl n t) r (at z n) (at_ttl n t) m,
      ))))
    where
      each_weak : (rs : List ResourceRecord)
          → AllByRecursion (λ r. ((r.owner ≡ folded n) × HasTtl n t r)
          × (r.rtype ≡ t)) rs → AllByRecursion (IsOf (folded n) (first_ttl t (at z n)) t) rs
      each_weak [] e = tt
      each_weak (r ∷ rs) e =
          (record { owner = e.0.0.0; ttl = e.0.0.1 e.0.1; rtype = e.0.1 }, each_weak rs e.1)

  referral_set : (c : DomainName) → IsSetAt (with_owner c (rrset z c type_ns))
  referral_set c =
      let k = first_ttl type_ns (at z c) in
      one_set c k type_ns (with_owner c (rrset z c type_ns)) (shown
      (rrset z c type_ns) (each_typed type_ns (HasTtl c type_ns) (at z c) (at_ttl c type_ns)))
    where
      shown : (rs : List ResourceRecord)
          → AllByRecursion (λ r. HasTtl c type_ns r × (r.rtype ≡ type_ns)) rs
          → AllByRecursion (IsOf c (first_ttl type_ns (at z c)) type_ns) (with_owner c rs)
      shown [] e = tt
      shown (r ∷ rs) e = (record { owner = refl; ttl = e.0.0 e.0.1; rtype = e.0.1 }, shown rs e.1)

  -- the records found for q are the records at some name, with q as owner
  record Shown (q : DomainName) (rs : List ResourceRecord) : Type 0 where
    source : DomainName
    whole : with_owner q (at z source) ≡ rs

  found_shown : (q : DomainName) (rs : List ResourceRecord) → found z q ≡ Some rs → Shown q rs
  found_shown q rs e = grind (arith, none-some, same_Some)

  alias_is_set : (s : DomainName) → IsSetAt (alias_set z s)
  alias_is_set s = grind (arith, one_record_set, shown_set)

  asked_is_set : (q : DomainName) (rs : List ResourceRecord) (t : ℕ)
      → Shown q rs → Sets (item answer (asked_records t rs))
  asked_is_set q rs t s = grind (arith, shown_set)

  negative_set : Sets (negative_soa z)
  negative_set = grind (arith, common_steps, item_set, one_soa, few_soa, one_record_set)

  main_sets : (t : ℕ) (s : DomainName) (x : Option DomainName) (y : Option (List ResourceRecord))
      → found z s ≡ y → Sets (outcome_by z t x y).answers × Sets (outcome_by z t x y).authorities
  main_sets t s (Some c) y e = grind (arith, item_set, referral_set)
  main_sets t s None None e = (tt, negative_set)
  main_sets t s None (Some rs) e =
      go (follows_alias t && has_any (of_type type_cname rs)) (has_any (asked_records t rs))
    where
      go : (b c : Bool) → Sets (cond b (positive []) (cond c (positive (item answer
          (asked_records t rs))) (negative z no_error))).answers × Sets (cond b (positive [])
          (cond c (positive (item answer (asked_records t rs))) (negative z no_error))).authorities
      go true c = (tt, tt)
      go false true = (asked_is_set s rs t (found_shown s rs e), tt)
      go false false = (tt, negative_set)

  alias_sets : (q : DomainName) (t : ℕ) → Sets (alias_items z q t)
  alias_sets q t = go (follows_alias t)
    where
      go : (b : Bool) → Sets (cond b (flat_map (λ s. item answer (alias_set z s)) (chain z q t)) [])
      go true =
          each_flat_map (λ (i : Item). IsSetAt i.records)
          (λ _. Unit {0}) (λ s. item answer (alias_set z s)) (chain z q t)
          (λ s _. item_set answer (alias_set z s) (alias_is_set s)) (each_any (chain z q t))
      go false = tt

  extra_sets : (earlier : List Item) (ms : List DomainName) → Sets (extra z earlier ms)
  unfolding extra
  extra_sets earlier [] = tt
  extra_sets earlier (m ∷ ms) =
      grind (arith, one_set, own_records, (extra_sets (earlier ++ (address_sets z earlier m)) ms))

  items_sets : (q : DomainName) (t : ℕ) → Sets (items z q t)
  unfolding items outcome outcome_at
  items_sets q t = grind (arith, main_sets, each_append, alias_sets, extra_sets)

pub items_are_sets : (z : ZoneContents)
    → folded z.origin ≡ z.origin → All (λ (r : ResourceRecord). folded r.owner ≡ r.owner) z.records
    → Passes z → (q : DomainName) (t : ℕ) → All (λ (i : Item). IsSetAt i.records) (items z q t)
items_are_sets z origin low passes q t =
    grind (arith, All-from_recursion, items_sets, recursion_from_All)
