-- Collecting the names to be checked: the owners of a zone, and the origin.
use Rattle.dns_zone.proofs.Common.{append-nil, ◌≡◌, ℕ, zero, suc, false, ◌⊎◌, inl, inr, List, [], ◌∷◌, ◌++◌, map, take, drop, refl, sym, ap, ◌∙◌, subst, arith, get_or, is_gt, Less, true≢false, tied_itself, Bor, IsPartitionedBy, Octets, DomainName, folded, name_order, ResourceRecord, ZoneContents, name_tie, name_order_total, lower_equal, append_assoc, map_push, AllByRecursion, Among, Rises, each_at, each_weaker, name_key, owner_of, is_upto, IsTopmost, IsChecked, AreChecked, AreOwners, ComesNext, IsOwner, owners_once, AreOrdered, IsFront, CheckedName}
use Rattle.dns_zone.proofs.AtName.{owners_in_order}
use Rattle.dns_zone.proofs.CheckedNames.{itself_upto, equal_upto, key_equal, cut_among, none_at, upto_parted, upto_among, after_each, in_order, last_checked, last_upto}
use Rattle.dns_zone.proofs.NameTree.{under-from, under-order}
use Rattle.dns_zone.proofs.ReportedNames.{once_rise, IsName, names_checked}
use Rattle.dns_zone.proofs.TopmostCut.{topmost_none}
use Rattle.dns_spec.proofs.General.Elements.{each_map, each_push, among_get, map_each, each_put, put_among, among_put, among_back, among_either, mapped_among, among_mapped}

-- in a rising list, the names before a name are less, and the names after it greater
rises_around : (ns ms : List DomainName) (n : DomainName) → Rises name_order (ns ++ n ∷ ms)
    → AllByRecursion (λ m. name_order m n ≡ Less) ns
    × AllByRecursion (λ m. name_order n m ≡ Less) ms
rises_around [] ms n h = (tt, h.0)
rises_around (k ∷ ns) ms n h =
    let rest = rises_around ns ms n h.1 in
    let less = each_at (λ m. name_order k m ≡ Less) n (ns ++ n ∷ ms) h.0
    (among_back n ns (n ∷ ms) (inl refl)) in ((less, rest.0), rest.1)

-- the last name that was added, with its key and its topmost cut; initially the root
pub record LastName (z : ZoneContents) (before after : List DomainName) (key : Octets) (cut : ℕ)
    : Type 0 where
  pub name : DomainName
  pub lower : folded name ≡ name
  pub key_is : key ≡ name_key name
  pub topmost : IsTopmost z name cut
  pub upto : AllByRecursion (λ m. is_gt (name_order m name) ≡ false) before
  pub from : AllByRecursion (λ m. is_gt (name_order name m) ≡ false) after

pub root_first : (z : ZoneContents) (ns : List DomainName) → LastName z [] ns [] 0
root_first z ns = record {
  name = [];
  lower = refl;
  key_is = refl;
  topmost = topmost_none z [] (omega arith);
  upto = tt;
  from = all ns;
}
  where
    all : (ms : List DomainName) → AllByRecursion (λ m. is_gt (name_order [] m) ≡ false) ms
    all [] = tt
    all (m ∷ ms) = grind (arith, under-order, under-from, folded, append-nil, (all ms))

-- one more owner
module _ (z : ZoneContents) (ordered : AreOrdered z.records) (ns ms : List DomainName)
    (n : DomainName) (all : ns ++ n ∷ ms ≡ owners_once z.records) (low : folded n ≡ n) where
  around : AllByRecursion (λ m. name_order m n ≡ Less) ns
      × AllByRecursion (λ m. name_order n m ≡ Less) ms
  around = grind (arith, rises_around, once_rise, owners_in_order)

  pub comes_next : (last key origin : Octets) (cut : ℕ) (own : List ResourceRecord)
      → (h : LastName z ns (n ∷ ms) last cut) → origin ≡ name_key z.origin → folded z.origin
      ≡ z.origin → key ≡ name_key n → IsOwner z n own → ComesNext z h.name n cut origin last key own
  comes_next last key origin cut own h e f g i = record {
    origin_key = e;
    origin_lower = f;
    last_key = h.key_is;
    last_lower = h.lower;
    topmost = h.topmost;
    key_is = g;
    owner = i;
    upto = h.from.0;
    cuts = λ c d is u. grind (
      arith,
      among_either c ns (n ∷ ms),
      all,
      cut_among z c d is,
      each_at (λ m. is_gt (name_order m h.name) ≡ false) c ns h.upto,
      each_at (λ m. name_order n m ≡ Less) c ms around.1,
      under-order n c u,
      name_order_total,
      true≢false,
    );
  }

  pub added_last : (key : Octets) (cut : ℕ) → key ≡ name_key n → IsTopmost z n cut
      → LastName z (ns ++ n ∷ []) ms key cut
  added_last key cut e t = record {
    name = n;
    lower = low;
    key_is = e;
    topmost = t;
    upto = each_push (λ m. is_gt (name_order m n) ≡ false) ns n
        (each_weaker (λ m. name_order m n ≡ Less) (λ m. is_gt (name_order m n) ≡ false) ns
        (λ m q. ap is_gt q) around.0)
        (itself_upto n);
    from = each_weaker (λ m. name_order n m ≡ Less) (λ m. is_gt (name_order n m) ≡ false) ms
        (λ m q. ap is_gt q) around.1;
  }

pub each_added : (z : ZoneContents) (names : List CheckedName) (c : CheckedName) (n : DomainName)
    → AllByRecursion (λ d. IsChecked z (owner_of z d) d) names → owner_of z c ≡ n → IsChecked z n c
    → AllByRecursion (λ d. IsChecked z (owner_of z d) d) (names ++ c ∷ [])
each_added z names c n e f h = grind (arith, each_push)

pub all_added : (z : ZoneContents) (names : List CheckedName) (c : CheckedName) (n : DomainName)
    (ms : List DomainName) → owner_of z c ≡ n
    → map (owner_of z) (names ++ c ∷ []) ++ ms ≡ map (owner_of z) names ++ n ∷ ms
all_added z names c n ms f = grind (arith, map_push, append_assoc)

insert_rises : {X : Type 0} (f : X → DomainName) (xs : List X) (i : ℕ) (x : X) → Rises name_order
    (map f xs) → AllByRecursion (λ y. name_order (f y) (f x) ≡ Less) (take i xs)
    → AllByRecursion (λ y. name_order
    (f x) (f y) ≡ Less) (drop i xs) → Rises name_order (map f (take i xs ++ x ∷ drop i xs))
insert_rises f xs zero x h e g = (each_map (λ n. name_order (f x) n ≡ Less) f xs g, h)
insert_rises f [] (suc i) x h e g = (tt, tt)
insert_rises f (y ∷ ys) (suc i) x h e g = (
  each_map (λ n. name_order (f y) n ≡ Less) f (take i ys ++ x ∷ drop i ys)
      (each_put (λ z. name_order (f y) (f z) ≡ Less) ys i x
      (map_each f (λ n. name_order (f y) n ≡ Less) ys h.0) e.0),
  insert_rises f ys i x h.1 e.1 g,
)

-- the origin
module _ (z : ZoneContents) (low : folded z.origin ≡ z.origin) (ordered : AreOrdered z.records)
    (names : List CheckedName) (are : AreOwners z names) (key : Octets)
    (key_is : key ≡ name_key z.origin) where
  abbrev o : DomainName
  o = z.origin

  rise : Rises name_order (map (owner_of z) names)
  rise = grind (arith, once_rise, owners_in_order)

  pub owners_parted : IsPartitionedBy (is_upto key) names
  owners_parted = upto_parted z names are.each rise o low key key_is

  module _ (k : ℕ) (front : IsFront (is_upto key) names k) where
    -- the origin is itself the last name that is not after it
    pub origin_owns : (i : ℕ) → k ≡ suc i → (c : CheckedName)
        → c ≡ get_or names i c → c.key.now ≡ key → AreChecked z names
    origin_owns i next c is e =
        let h = last_checked z names are.each rise o low key key_is k front i next c is in
        let name = key_equal (owner_of z c) o h.owner.lower low (sym h.key ∙ e ∙ key_is) in
        let bound = front.bound in
        let in_names =
        subst (λ x. Among x names) (sym is) (among_get names i c (omega (arith, bound, next))) in
        record {
          each = are.each;
          all = names_checked z (map (owner_of z) names) rise
              (λ a m. inr (subst (Among a) are.all m))
              (λ a m. go c name in_names a m);
        }
      where
        go : (c : CheckedName) → owner_of z c ≡ o → Among c names → (a : DomainName) → IsName z a
            → Among a (map (owner_of z) names)
        go c e m a (inl f) = grind (arith, among_mapped)
        go c e m a (inr k) = subst (Among a) (sym are.all) k

    abbrev origin_name : Bor Octets → CheckedName
    origin_name key = record { key = key; first = 0; end = 0; cut = 0 }

    -- all names that are not after the origin are before it, so it owns no records
    module _ (before : AllByRecursion (λ c. name_order (owner_of z c) o ≡ Less) (take k names)) where
      none : Among o (owners_once z.records) → ⊥
      none m =
          grind (
            arith,
            mapped_among,
            upto_among,
            rise,
            key_is,
            equal_upto,
            true≢false,
            each_at,
            name_order,
            tied_itself,
            name_order_total,
          )

      pub origin_added : (b : Bor Octets) → b.now ≡ key
          → AreChecked z (take k names ++ origin_name b ∷ drop k names)
      origin_added b e =
          let c = origin_name b in
          let checked : IsChecked z o c = grind (arith, none_at, none, topmost_none) in
          record {
            each = each_put (λ d. IsChecked z (owner_of z d) d) names k c are.each checked;
            all = names_checked z (map (owner_of z) (take k names ++ c ∷ drop k names))
                (insert_rises (owner_of z) names k c rise before
                (after_each z names are.each rise o low key key_is k front))
                (λ a m. grind (arith, put_among (owner_of z) a names k c m, low, are.all))
                (λ a m. among_put (owner_of z) a names k c (grind (arith, m, low, are.all)));
          }

    -- all of the first k names are before the origin, if the last of them is not the origin
    pub others_before : (i : ℕ) → k ≡ suc i → (c : CheckedName) → c ≡ get_or names i c
        → (c.key.now ≡ key → ⊥)
        → AllByRecursion (λ d. name_order (owner_of z d) o ≡ Less) (take k names)
    others_before i next c is f =
        let h = last_checked z names are.each rise o low key key_is k front i next c is in
        let u = last_upto z names are.each rise o low key key_is k front i next c is in
        let less : name_order (owner_of z c) o ≡ Less = grind (arith, h.key, h.owner.lower, low, u, f, key_is, lower_equal (owner_of z c) o, name_tie (owner_of z c) o, true≢false) in
        each_weaker (λ d. (d ≡ c) ⊎ (name_order (owner_of z d) (owner_of z c) ≡ Less))
        (λ d. name_order (owner_of z d) o ≡ Less) (take k names)
        (λ d e. grind (arith, less, name_order_total.trans (owner_of z d) (owner_of z c) o))
        (in_order z names are.each rise o low key key_is k front i next c is)
