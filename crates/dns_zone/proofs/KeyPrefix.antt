-- The key of a name begins with another name's key if and only if the name is at or below the
-- other.
use Rattle.dns_zone.proofs.Common.{◌≡◌, ◌<◌, ◌≤◌, ◌==◌, Bool, true, [], ◌∷◌, ◌++◌, length, take, drop, get_or, map, reverse, refl, sym, ap, ap₂, ◌∙◌, arith, length-append, append-nil, nat_lt, lt-ltb, ltb-true, le-ltb, and_from, and_parts, and_right, flat_map-cons, take-append_seam, to_ascii_lowercase, flat_map, starts_with, Octets, DomainName, folded, at_or_below, below, reverse-append, reverse-reverse, append_assoc, take-append-drop, octets_equal-decides, same_tests, raised, ended, name_key}
use Rattle.dns_zone.proofs.KeyOrder.{low_octet, raised_some, key_flat}
use Rattle.dns_zone.proofs.NameTree.{Under, under-is, under-from}
use Rattle.dns_spec.proofs.General.Elements.{map_reverse}

pub key_append : (n m : DomainName) → name_key (n ++ m) ≡ name_key m ++ name_key n
key_append [] m = sym (append-nil (name_key m))
key_append (l ∷ n) m = grind (arith, append_assoc, (key_append n m))

-- an ended label at the beginning determines the label and what follows it
ended_first : (xs ys us vs : Octets) → map to_ascii_lowercase xs ≡ xs
    → map to_ascii_lowercase ys ≡ ys → ended xs ++ us ≡ ended ys ++ vs → (xs ≡ ys) × (us ≡ vs)
ended_first [] [] us vs p q e = (refl, ap (drop 1) e)
ended_first [] (y ∷ ys) us vs p q e = grind (arith, raised, get_or, raised_some)
ended_first (x ∷ xs) [] us vs p q e = grind (arith, raised, get_or, raised_some)
ended_first (x ∷ xs) (y ∷ ys) us vs p q e =
    let again = ended_first xs ys us vs (ap (drop 1) p) (ap (drop 1) q) (ap (drop 1) e) in
    grind (arith, raised, get_or, low_octet, again)

-- labels from the right
begins : (n m : DomainName) (us : Octets) → folded n ≡ n → folded m ≡ m
    → flat_map ended n ≡ flat_map ended m ++ us → (p : DomainName) × (n ≡ m ++ p)
begins n [] us p q e = (n, refl)
begins [] (k ∷ m) us p q e =
    absurd (none k (flat_map ended m ++ us)
    (e ∙ ap (λ xs. xs ++ us) (flat_map-cons ended k m)
    ∙ append_assoc (ended k) (flat_map ended m) us))
  where
    none : (k vs : Octets) → ◌≡◌ {A = Octets} [] (ended k ++ vs) → ⊥
    none [] vs f = cc
    none (o ∷ k) vs f = cc
begins (l ∷ n) (k ∷ m) us p q e =
    let parts = ended_first l k (flat_map ended n) (flat_map ended m ++ us)
    (ap (λ ls. get_or ls 0 []) p) (ap (λ ls. get_or ls 0 []) q)
    (sym (flat_map-cons ended l n) ∙ e ∙ ap (λ xs. xs ++ us) (flat_map-cons ended k m)
    ∙ append_assoc (ended k) (flat_map ended m) us) in
    let rest = begins n m us (ap (drop 1) p) (ap (drop 1) q) parts.1 in
    (rest.0, ap₂ ◌∷◌ parts.0 rest.1)

module _ (n m : DomainName) (low_n : folded n ≡ n) (low_m : folded m ≡ m) where
  turned : (k : DomainName) → folded k ≡ k → folded (reverse k) ≡ reverse k
  turned k e = map_reverse (map to_ascii_lowercase) k ∙ ap reverse e

  pub under_begins : at_or_below n m ≡ true → (us : Octets) × (name_key n ≡ name_key m ++ us)
  under_begins h = go (under-is n m h)
    where
      go : Under n m → (us : Octets) × (name_key n ≡ name_key m ++ us)
      go (p, e) =
          let whole : n ≡ p ++ m = sym low_n ∙ e ∙ ap (λ x. p ++ x) low_m in
          (name_key p, ap name_key whole ∙ key_append p m)

  under_key : at_or_below n m ≡ true → starts_with ◌==◌ (name_key n) (name_key m) ≡ true
  under_key h = grind (arith, begins, under_begins, octets_equal-decides, take-append_seam)

  key_under : starts_with ◌==◌ (name_key n) (name_key m) ≡ true → at_or_below n m ≡ true
  key_under h =
      let k = length (name_key m) in
      let front : name_key m ≡ take k (name_key n) = grind (arith, octets_equal-decides) in
      let key : name_key n ≡ name_key m ++ drop k (name_key n) = grind (arith, take-append-drop) in
      let found = begins (reverse n) (reverse m) (drop k (name_key n)) (turned n low_n)
      (turned m low_m) (sym (key_flat n) ∙ key
      ∙ ap (λ x. x ++ drop k (name_key n)) (key_flat m)) in
      let whole : n ≡ reverse found.0 ++ m =
      sym (reverse-reverse n) ∙ ap reverse found.1 ∙ reverse-append (reverse m) found.0
      ∙ ap (λ x. reverse found.0 ++ x) (reverse-reverse m) in
      under-from n m (reverse found.0, low_n ∙ whole ∙ ap (λ x. reverse found.0 ++ x) (sym low_m))

  pub starts_under : starts_with ◌==◌ (name_key n) (name_key m) ≡ at_or_below n m
  starts_under = same_tests _ _ key_under under_key

-- the key of a name with labels is not empty
pub some : (ks : DomainName) → 0 < length ks → length (name_key ks) ≡ 0 → ⊥
some [] h e = absurd (omega arith)
some (k ∷ ks) h e = grind (arith, length-append)

-- a name at or below another has more labels if its key is longer
module _ (n m : DomainName) (key other : Octets) (p : folded n ≡ n) (q : folded m ≡ m)
    (e : key ≡ name_key n) (f : other ≡ name_key m) where
  longer : at_or_below n m ≡ true → length other < length key → nat_lt (length m) (length n) ≡ true
  longer h l = go (under-is n m h)
    where
      go : Under n m → nat_lt (length m) (length n) ≡ true
      go ([], g) = grind arith
      go (k ∷ ks, g) = grind (arith, length-append, lt-ltb)

  pub below_longer : (b : Bool) → length other < length key → b ≡ at_or_below n m → b ≡ below n m
  below_longer b l g = grind (arith, and_from, longer, and_right)

  pub below_shorter : length key ≤ length other → nat_lt (length other) (length key) ≡ below n m
  below_shorter l =
      grind (arith, le-ltb, and_parts, under-is, ltb-true, length-append, key_append, some)
