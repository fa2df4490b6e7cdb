-- Searching the list of checked names by keys.
use Rattle.dns_zone.proofs.Common.{◌≡◌, ℕ, suc, ◌<◌, ◌≤◌, Bool, true, false, ◌&&◌, not, cond, ◌==◌, nat_lt, ◌⊎◌, inl, inr, List, get_or, zero, drop, length-take, [], ◌∷◌, map, length, take, refl, sym, ap, ap₂, ◌∙◌, subst, arith, filter, is_gt, nat_cmp, Ordering, Less, true≢false, not-true, and_parts, false_from_ne_true, cases_lt, nat_list_cmp_total, tied_itself, upto, get_or-take, get_or_default, min-eq_left, slice_cmp, starts_with, IsPartitionedBy, ordering_reverse, Octets, DomainName, folded, same, at_or_below, name_order, ResourceRecord, ZoneContents, at, is_cut, at_or_below_cut, checked_names, octets_equal-decides, name_tie, name_order_total, lower_equal, Lower, AllByRecursion, Among, Rises, each_at, each_filter, filter_each, filter_among, name_key, own_in, owner_of, IsTopmost, is_covered, is_upto, IsChecked, IsLastUpto, owners_once, IsFront, CheckedName, each_among}
use Rattle.dns_zone.proofs.KeyOrder.{key_order}
use Rattle.dns_zone.proofs.NameOrder.{same-is}
use Rattle.dns_zone.proofs.NameTree.{under-order}
use Rattle.dns_zone.proofs.ReportedNames.{owners, among_once, among_checked}
use Rattle.dns_zone.proofs.TopmostCut.{at_cut, covers, covered, uncovered, topmost_fits}
use Rattle.dns_spec.proofs.General.Elements.{each_both, each_get, map_each, mapped_among, among_mapped}
use Rattle.dns_spec.proofs.General.Filters.{filter_none}
use Rattle.dns_spec.proofs.General.Pairs.{Pairs, pairs_of, parted}
use Rattle.dns_spec.proofs.General.Tests.{any_among}

-- if names rise, each is less than all after it
pub rises_pairs : {X : Type 0} (f : X → DomainName) (xs : List X) → Rises name_order (map f xs)
    → Pairs (λ x y. name_order (f x) (f y) ≡ Less) xs
rises_pairs f [] h = tt
rises_pairs f (x ∷ xs) h =
    (map_each f (λ n. name_order (f x) n ≡ Less) xs h.0, rises_pairs f xs h.1)

-- each element up to index i is element i, or is related to it
pub last_at : {X : Type 0} (R : X → X → Type 0) (xs : List X) (i : ℕ) (d : X) → Pairs R xs
    → i < length xs
    → AllByRecursion (λ x. (x ≡ get_or xs i d) ⊎ R x (get_or xs i d)) (take (suc i) xs)
last_at R [] i d h l = tt
last_at R (x ∷ xs) zero d h l = (inl refl, tt)
last_at R (x ∷ xs) (suc i) d h l = grind (arith, each_get, (last_at R xs i d h.1 (omega arith)))

pub itself_upto : (n : DomainName) → is_gt (name_order n n) ≡ false
itself_upto n = ap is_gt (tied_itself name_order_total n)

pub equal_upto : (n m : DomainName) → n ≡ m → is_gt (name_order n m) ≡ false
equal_upto n m e = subst (λ k. is_gt (name_order n k) ≡ false) e (itself_upto n)

-- two names are equal if neither is after the other
pub between_both : (n m : DomainName) → Lower n → Lower m → is_gt (name_order n m) ≡ false
    → is_gt (name_order m n) ≡ false → n ≡ m
between_both n m p q f g = grind (arith, true≢false, name_order_total, lower_equal, name_tie)

pub key_equal : (n m : DomainName) → Lower n → Lower m → name_key n ≡ name_key m → n ≡ m
key_equal n m p q e = grind (arith, lower_equal, name_tie, key_order, tied_itself, nat_list_cmp_total)

module _ (z : ZoneContents) where
  owner_among : (m : DomainName) → Lower m → (r : ResourceRecord) → Among r z.records
      → same r.owner m ≡ true → Among m (owners_once z.records)
  owner_among m low r a e =
      among_once m z.records (subst (λ n. Among n (owners z.records)) (same-is r.owner m e ∙ low)
      (among_mapped (λ (s : ResourceRecord). folded s.owner) r z.records a))

  -- a cut is an owner
  pub cut_among : (c : DomainName) → Lower c → is_cut z c ≡ true → Among c (owners_once z.records)
  cut_among c low h = grind (arith, any_among, and_parts, owner_among)

  pub none_at : (m : DomainName) → Lower m → (Among m (owners_once z.records) → ⊥) → at z m ≡ []
  none_at m low f = grind (arith, filter_none, each_among, false_from_ne_true, owner_among)

  abbrev name : CheckedName → DomainName
  name = owner_of z

  -- a search among names in order
  module _ (names : List CheckedName)
      (each : AllByRecursion (λ c. IsChecked z (owner_of z c) c) names)
      (rise : Rises name_order (map (owner_of z) names)) (m : DomainName) (low : Lower m)
      (key : Octets) (key_is : key ≡ name_key m) where
    key_tells : (c : CheckedName) → IsChecked z (name c) c
        → slice_cmp nat_cmp c.key.now key ≡ name_order (name c) m
    key_tells c h = grind (arith, ap₂, key_order)

    abbrev InOrder : CheckedName → CheckedName → Type 0
    InOrder c d = name_order (name c) (name d) ≡ Less

    pairs : Pairs InOrder names
    pairs = rises_pairs name names rise

    pub upto_parted : IsPartitionedBy (is_upto key) names
    upto_parted =
        parted (is_upto key) names
        (pairs_of (λ c. IsChecked z (name c) c) InOrder
        (λ c d. is_upto key d ≡ true → is_upto key c ≡ true) names
        (λ c d p q l r. ap not (ap is_gt (key_tells c p)
        ∙ upto name_order_total (name c) (name d) m (ap is_gt l)
        (sym (ap is_gt (key_tells d q)) ∙ not-true _ r)))
        each pairs)

    -- k is the number of names that are not after m
    module _ (k : ℕ) (front : IsFront (is_upto key) names k) where
      upto_each : AllByRecursion (λ c. is_gt (name_order (name c) m) ≡ false) (take k names)
      upto_each =
          subst (AllByRecursion (λ c. is_gt (name_order (name c) m) ≡ false)) (sym front.passing)
          (each_both (λ c. IsChecked z (name c) c) (λ c. is_upto key c ≡ true)
          (λ c. is_gt (name_order (name c) m) ≡ false) (filter (is_upto key) names)
          (λ c h e. sym (ap is_gt (key_tells c h)) ∙ not-true _ e)
          (each_filter (λ c. IsChecked z (name c) c) (is_upto key) names each)
          (filter_each (is_upto key) names))

      pub after_each : AllByRecursion (λ c. name_order m (name c) ≡ Less) (drop k names)
      after_each =
          subst (AllByRecursion (λ c. name_order m (name c) ≡ Less)) (sym front.others)
          (each_both (λ c. IsChecked z (name c) c) (λ c. not (is_upto key c) ≡ true)
          (λ c. name_order m (name c) ≡ Less) (filter (λ c. not (is_upto key c)) names)
          (λ c h e. after (name_order (name c) m) (name_order m (name c))
          (name_order_total.antisymm m (name c)) (sym (ap is_gt (key_tells c h)) ∙ twice _ e))
          (each_filter (λ c. IsChecked z (name c) c) (λ c. not (is_upto key c)) names each)
          (filter_each (λ c. not (is_upto key c)) names))
        where
          twice : (b : Bool) → not (not b) ≡ true → b ≡ true
          twice b e = grind arith

          after : (c d : Ordering) → d ≡ ordering_reverse c → is_gt c ≡ true → d ≡ Less
          after c d e f = grind arith

      -- each name that is not after m is among the first k
      pub upto_among : (c : CheckedName) → Among c names → is_gt (name_order (name c) m) ≡ false
          → Among c (take k names)
      upto_among c a e = grind (arith, each_at, filter_among, key_tells)

      -- c is the last of the first k names
      module _ (i : ℕ) (next : k ≡ suc i) (c : CheckedName)
          (is : c ≡ get_or names i c) where
        fits : i < length names
        fits = let bound = front.bound in omega (arith, next, bound)

        pub in_order : AllByRecursion (λ d. (d ≡ c) ⊎ InOrder d c) (take k names)
        in_order =
            subst (λ j. AllByRecursion (λ d. (d ≡ c) ⊎ InOrder d c) (take j names)) (sym next)
            (subst (λ x. AllByRecursion (λ d. (d ≡ x) ⊎ InOrder d x) (take (suc i) names)) (sym is)
            (last_at InOrder names i c pairs fits))

        pub last_checked : IsChecked z (name c) c
        last_checked = grind (arith, each_get, fits)

        pub last_upto : is_gt (name_order (name c) m) ≡ false
        last_upto =
            let size : length (take k names) ≡ k = length-take k names ∙ min-eq_left front.bound in
            subst (λ x. is_gt (name_order (name x) m) ≡ false)
            (get_or-take k names i c (omega (arith, next)) ∙ sym is)
            (each_get (λ d. is_gt (name_order (name d) m) ≡ false) (take k names) i c upto_each
            (omega (arith, size, next)))

        -- a name that is not after m is not after c
        pub upto_last : (d : CheckedName) → Among d names → is_gt (name_order (name d) m) ≡ false
            → is_gt (name_order (name d) (name c)) ≡ false
        upto_last d a e = grind (arith, each_at, in_order, upto_among, equal_upto)

      -- if the names are all checked names
      module _ (all : map (owner_of z) names ≡ checked_names z) where
        pub upto_some : Lower z.origin → at_or_below m z.origin ≡ true → 0 < k
        upto_some low_origin under =
            let (c, b, e) =
            mapped_among name z.origin names (subst (Among z.origin) (sym all)
            (among_checked z z.origin (inl (sym low_origin)))) in
            let there = upto_among c b (ap (λ n. is_gt (name_order n m)) (sym e) ∙ under-order m z.origin under) in
            grind (arith, cases_lt 0 k, there)

        found_last : (i : ℕ) → k ≡ suc i → (c : CheckedName) → c ≡ get_or names i c
            → IsLastUpto z m c
        found_last i next c is = record {
          checked = last_checked i next c is;
          upto = last_upto i next c is;
          last = λ n a e.
              let (d, b, f) = mapped_among name n names (subst (Among n) (sym all) a) in
              ap (λ j. is_gt (name_order j (name c))) f
              ∙ upto_last i next c is d b (ap (λ j. is_gt (name_order j m)) (sym f) ∙ e);
        }

        pub found_there : (i : ℕ)
            → k ≡ suc i → (d : CheckedName) → IsLastUpto z m (get_or names i d)
        found_there i next d =
            let bound = front.bound in
            found_last i next (get_or names i d)
            (get_or_default names i d (get_or names i d) (omega (arith, bound, next)))

  -- the last checked name that is not after m decides which records m has and whether m is at or
  -- below a cut
  module _ (m : DomainName) (low : Lower m) where
    at_cuts : (c : DomainName) → Lower c → is_cut z c ≡ true → Among c (checked_names z)
    at_cuts c d is = among_checked z c (inr (cut_among c d is))

    no_cut : (Among m (checked_names z) → ⊥) → is_cut z m ≡ false
    no_cut f = false_from_ne_true (is_cut z m) (λ e. f (at_cuts m low e))

    none_cut : (b : Bool) → b ≡ false → IsTopmost z m (cond b (length (name_key m)) 0)
        → at_or_below_cut z m ≡ false
    none_cut b e t = grind (arith, at_cut, IsTopmost, name_key)

    module _ (c : CheckedName) (h : IsLastUpto z m c) where
      abbrev last : DomainName
      last = owner_of z c

      pub found_name : c.key.now ≡ name_key m → last ≡ m
      found_name e = key_equal last m h.checked.owner.lower low (sym h.checked.key ∙ e)

      no_owner : (c.key.now ≡ name_key m → ⊥) → Among m (checked_names z) → ⊥
      no_owner f a =
          f (h.checked.key ∙ ap name_key (between_both last m h.checked.owner.lower low h.upto
          (h.last m a (itself_upto m))))

      pub none_there : (c.key.now ≡ name_key m → ⊥) → at z m ≡ []
      none_there f = none_at m low (λ a. no_owner f (among_checked z m (inr a)))

      cuts_upto : (d : DomainName) → Lower d → is_cut z d ≡ true → at_or_below m d ≡ true
          → (d ≡ m) ⊎ (is_gt (name_order d last) ≡ false)
      cuts_upto d e is u = inr (h.last d (at_cuts d e is) (under-order m d u))

      pub covered_cut : (key : Octets) → key ≡ name_key m → (c.key.now ≡ name_key m → ⊥)
          → is_covered c.cut c.key.now key ≡ at_or_below_cut z m
      covered_cut key e f =
          let parts = and_parts (nat_lt 0 c.cut) (starts_with ◌==◌ (name_key m) (take c.cut (name_key last))) in
          grind (
            arith,
            e,
            h.checked.key,
            parts,
            at_cut z m low c.cut,
            none_cut (is_cut z m) (no_cut (no_owner f)),
            covered z last m h.checked.owner.lower low c.cut h.checked.topmost h.upto cuts_upto,
            uncovered z last m h.checked.owner.lower low c.cut h.checked.topmost h.upto cuts_upto,
          )

      pub found_cut : last ≡ m → nat_lt 0 c.cut ≡ at_or_below_cut z m
      found_cut e = grind (arith, at_cut)

      pub found_at : last ≡ m → own_in z.records c ≡ at z m
      found_at e = h.checked.owner.own_is ∙ ap (at z) e

-- a name that is checked is at or below a cut if and only if it has a topmost one
pub checked_cut : (z : ZoneContents) (m : DomainName) (c : CheckedName) → IsChecked z m c
    → nat_lt 0 c.cut ≡ at_or_below_cut z m
checked_cut z m c h = sym (at_cut z m h.owner.lower c.cut h.topmost)

-- the results of looking up a target
pub ruleset found_steps = (
  checked_cut,
  octets_equal-decides,
  found_name,
  found_at,
  found_cut,
  none_there,
  covered_cut,
  topmost_fits,
)
