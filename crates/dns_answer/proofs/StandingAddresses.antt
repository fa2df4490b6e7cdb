-- The additional sets of a reply are the addresses of the targets, none of them twice.
use Rattle.dns_answer.proofs.Common.{arith, ◌≡◌, ℕ, Bool, true, false, cond, ◌||◌, ◌&&◌, ◌⊎◌, inl, inr, not, List, [], ◌∷◌, ◌++◌, refl, sym, ap, ap₂, ◌∙◌, Some, and-false, false≢true, false_from_ne_true, and_right, or_parts, flat_map-append, list_any-append, list_any, DomainName, folded, names_equal, same, type_a, type_aaaa, ResourceRecord, ZoneContents, at, rrset, of_type, additional, Item, records_of, ◌==◌, item, has_set, has_any, address_set, address_sets, extra, AllByRecursion, each_weaker, each_typed, each_among, filter_test, item_records, same-is, same-from, addresses_of, target_items, side_items, all_names, at-folded}

abbrev is_at : DomainName → ℕ → ResourceRecord → Bool
is_at n t r = same r.owner n && r.rtype == t

has_set-append : (n : DomainName) (t : ℕ) (xs ys : List Item)
    → has_set n t (xs ++ ys) ≡ (has_set n t xs || has_set n t ys)
has_set-append n t xs ys = grind (arith, flat_map-append, list_any-append, records_of)

-- a test that gives the result b for all records
any-each : (p : ResourceRecord → Bool) (b : Bool) (rs : List ResourceRecord)
    → AllByRecursion (λ r. p r ≡ b) rs → list_any p rs ≡ (b && has_any rs)
any-each p b [] e = sym (and-false b)
any-each p b (r ∷ rs) e = ap₂ (λ x y. x || y) e.0 (any-each p b rs e.1) ∙ go b
  where
    go : (b : Bool) → (b || (b && has_any rs)) ≡ (b && true)
    go true = refl
    go false = refl

-- names that are the same can replace each other: in a list test, in `same`, and as owners
any-same : (n m : DomainName) (ns : List DomainName) → same m n ≡ true
    → list_any (same n) ns ≡ list_any (same m) ns
any-same n m ns e = grind (arith, list_any, names_equal, folded, same-is)

same-turn : (n m : DomainName) (b : Bool) → same m n ≡ b → same n m ≡ b
same-turn n m true e = same-from n m (sym (same-is m n e))
same-turn n m false e = grind (arith, false_from_ne_true, same, false≢true, same-from, same-is)

rrset-same : (z : ZoneContents) (n m : DomainName) (t : ℕ) → same m n ≡ true
    → rrset z m t ≡ rrset z n t
rrset-same z n m t e = grind (arith, of_type, at-folded, at, same-is)

-- the records of a name and a type
abbrev IsAt : DomainName → ℕ → ResourceRecord → Type 0
IsAt m t r = (same r.owner m ≡ true) × (r.rtype ≡ t)

set-owners : (z : ZoneContents) (m : DomainName) (t : ℕ) → AllByRecursion (IsAt m t) (rrset z m t)
set-owners z m t =
    each_typed t (λ (r : ResourceRecord). same r.owner m ≡ true) (at z m)
    (each_among (λ (r : ResourceRecord). same r.owner m ≡ true)
    (at z m) (λ r k. filter_test (λ (s : ResourceRecord). same s.owner m) r z.records k))

abbrev IsAddress : ℕ → Type 0
IsAddress t = (t ≡ type_a) ⊎ (t ≡ type_aaaa)

-- names that are the same have the same addresses
module _ (z : ZoneContents) (n m : DomainName) where
  has_set-set : (t u : ℕ) → has_set n t (item additional (rrset z m u))
      ≡ ((same m n && u == t) && has_any (rrset z m u))
  has_set-set t u = grind (arith, item_records, any-each, each_weaker, same-is, set-owners)

  has_set-addresses : (t : ℕ) → IsAddress t
      → has_set n t (addresses_of z m) ≡ (same m n && has_any (rrset z m t))
  has_set-addresses t is = grind (arith, has_set-append, has_set-set)

-- the reply contains the addresses of the targets in `before`, and no other addresses
record Stood (z : ZoneContents) (t : ℕ) (earlier : List Item) (before : List DomainName)
    : Type 0 where
  are : (n : DomainName) → has_set n t earlier ≡ (list_any (same n) before && has_any (rrset z n t))

module _ (z : ZoneContents) where
  address-one : (t : ℕ) (earlier : List Item) (before : List DomainName) (m : DomainName)
      → Stood z t earlier before → address_set z earlier m t
      ≡ cond (list_any (same m) before) [] (item additional (rrset z m t))
  address-one t earlier before m s = grind arith

  address-both : (earlier : List Item) (before : List DomainName) (m : DomainName)
      → Stood z type_a earlier before → Stood z type_aaaa earlier before
      → address_sets z earlier m ≡ target_items z all_names before (Some m)
  address-both earlier before m a b = grind (arith, address-one)

  -- one more name
  stood-next : (t : ℕ) → IsAddress t → (earlier : List Item) (before : List DomainName)
      (m : DomainName) → Stood z t earlier before
      → Stood z t (earlier ++ target_items z all_names before (Some m)) (before ++ m ∷ [])
  stood-next t is earlier before m s = record {
    are = λ n.
        let a = list_any (same n) before in
        let b = list_any (same m) before in
        let h = has_any (rrset z n t) in
        has_set-append n t earlier (target_items z all_names before (Some m))
        ∙ ap₂ (λ x y. x || y) (s.are n) (shown n (same m n) b refl)
        ∙ final a h (same m n) b (λ e. any-same n m before e)
        ∙ ap (λ e. (a || (e || false)) && h) (sym (same-turn n m (same m n) refl))
        ∙ ap (λ x. x && h) (sym (list_any-append (same n) before (m ∷ [])));
  }
    where
      shown : (n : DomainName) (e b : Bool) → same m n ≡ e → has_set n t
          (cond (not b) (addresses_of z m) []) ≡ (not b && (e && has_any (rrset z n t)))
      shown n e true f = refl
      shown n true false f =
          has_set-addresses z n m t is ∙ ap (λ x. x && has_any (rrset z m t)) f
          ∙ ap has_any (rrset-same z n m t f)
      shown n false false f =
          has_set-addresses z n m t is ∙ ap (λ x. x && has_any (rrset z m t)) f

      final : (a h e b : Bool) → (e ≡ true → a ≡ b)
          → ((a && h) || (not b && (e && h))) ≡ ((a || (e || false)) && h)
      final true true e b alike = refl
      final true false true b alike = and-false (not b)
      final true false false b alike = and-false (not b)
      final false h true true alike = absurd (false≢true (alike refl))
      final false h true false alike = refl
      final false h false b alike = and-false (not b)

  extra-stood : (earlier : List Item) (before ms : List DomainName) → Stood z type_a earlier before
      → Stood z type_aaaa earlier before → extra z earlier ms ≡ side_items z all_names before ms
  unfolding extra side_items
  extra-stood earlier before [] a b = refl
  extra-stood earlier before (m ∷ ms) a b =
      let sets = target_items z all_names before (Some m) in
      ap (λ xs. xs ++ extra z (earlier ++ xs) ms) (address-both earlier before m a b)
      ∙ ap (λ xs. sets ++ xs) (extra-stood (earlier ++ sets) (before ++ m ∷ []) ms
      (stood-next type_a (inl refl) earlier before m a)
      (stood-next type_aaaa (inr refl) earlier before m b))

-- no set contains an address
abbrev pub NotAddress : ResourceRecord → Type 0
NotAddress r = (r.rtype == type_a || r.rtype == type_aaaa) ≡ false

abbrev pub NoAddresses : List Item → Type 0
NoAddresses is = AllByRecursion NotAddress (records_of is)

pub extra-side : (z : ZoneContents) (is : List Item) (ms : List DomainName) → NoAddresses is
    → extra z is ms ≡ side_items z all_names [] ms
extra-side z is ms none =
    extra-stood z is [] ms (first type_a (inl refl)) (first type_aaaa (inr refl))
  where
    other : (t : ℕ) → IsAddress t → (r : ResourceRecord) → NotAddress r → (r.rtype == t) ≡ false
    other t (inl e) r h = ap (λ u. r.rtype == u) e ∙ (or_parts _ _ h).0
    other t (inr e) r h = ap (λ u. r.rtype == u) e ∙ (or_parts _ _ h).1

    first : (t : ℕ) → IsAddress t → Stood z t is []
    first t of_address = record {
      are = λ n.
          any-each (is_at n t) false (records_of is)
          (each_weaker NotAddress (λ r. is_at n t r ≡ false) (records_of is)
          (λ r h. and_right (same r.owner n) (r.rtype == t) (other t of_address r h)) none);
    }

pub extra-none : (z : ZoneContents) (is : List Item) → extra z is [] ≡ []
unfolding extra
extra-none z is = refl
