-- Names one label below a name.
use Rattle.dns_zone.proofs.Common.{◌≡◌, ◌+◌, ◌<◌, ◌≤◌, Bool, true, false, nat_lt, if◌then◌else◌, List, [], ◌∷◌, ◌++◌, map, reverse, length, drop, refl, sym, ap, ap₂, ◌∙◌, arith, is_gt, false≢true, and_parts, and_from, leb-true, lt-ltb, ltb-true, ltb-false, cases_lt, nat_list_cmp_total, tied_itself, slice_cmp, to_ascii_lowercase, Octets, DomainName, wire, folded, same, at_or_below, below, label_order, name_order, reverse-append, append_assoc, at_or_below-short, same-length-wire, ending}
use Rattle.dns_zone.proofs.NameOrder.{same-is}
use Rattle.dns_zone.proofs.NameTree.{Under, under-is, under-from, under-trans, below-cons}
use Rattle.dns_spec.proofs.General.Orderings.{first_part}

-- m is one label below n, and `owner` is at or below m
pub record IsChildOf (n owner m : DomainName) : Type 0 where
  pub label : Octets
  pub labels : m ≡ label ∷ n
  pub lower : folded m ≡ m
  pub above : at_or_below owner m ≡ true

pub cons_under : (l : Octets) (m : DomainName) → at_or_below (l ∷ m) m ≡ true
cons_under l m = under-from (l ∷ m) m (map to_ascii_lowercase l ∷ [], refl)

-- a name at or below another and different from it is below it
below_unless_same : (m n : DomainName) → at_or_below m n ≡ true → (same m n ≡ true → ⊥)
    → below m n ≡ true
below_unless_same m n h other = grind (arith, and_from, cases_lt, and_parts, lt-ltb)

longer_below : (m n : DomainName) → at_or_below m n ≡ true → length (wire n) < length (wire m)
    → below m n ≡ true
longer_below m n h l = grind (arith, below_unless_same, same-length-wire)

-- if an owner is below n, its shortest suffix that is longer than n is a child of n
pub child_end : (n owner : DomainName) → below owner n ≡ true → folded owner ≡ owner
    → folded n ≡ n → IsChildOf n owner (ending (length (wire n) + 1) owner)
child_end n [] b low lower = grind arith
child_end n (l ∷ o) b low lower =
    go (nat_lt (length (wire o)) (length (wire n) + 1)) refl
    (λ b. child_end n o b (ap (drop 1) low) lower)
  where
    at : at_or_below o n ≡ true
    at = sym (below-cons l o n) ∙ b

    go : (t : Bool) → nat_lt (length (wire o)) (length (wire n) + 1) ≡ t
        → (below o n ≡ true → IsChildOf n o (ending (length (wire n) + 1) o))
        → IsChildOf n (l ∷ o) (if t then l ∷ o else ending (length (wire n) + 1) o)
    go true e r =
        let short = ltb-true _ _ e in
        let is_same : same o n ≡ true = sym (at_or_below-short o n (omega arith)) ∙ at in
        record {
          label = l;
          labels = grind (arith, same-is);
          lower = low;
          above = under-from (l ∷ o) (l ∷ o) ([], refl);
        }
    go false e r =
        let long = ltb-false _ _ e in
        let h = r (longer_below o n at (omega arith)) in
        record {
          label = h.label;
          labels = h.labels;
          lower = h.lower;
          above = under-trans (l ∷ o) o _ (cons_under l o) h.above;
        }

-- of the names with a given number of labels, an owner is at or below only one
pub one_above : (r a b : DomainName) → at_or_below r a ≡ true → at_or_below r b ≡ true
    → length a ≡ length b → folded a ≡ a → folded b ≡ b → a ≡ b
one_above r a b p q e low low' = grind (arith, same-is, and_parts)

-- owners below different children are in the order of the children's labels
common_front : (zs : List Octets) (xs ys : List Octets)
    → slice_cmp label_order (zs ++ xs) (zs ++ ys) ≡ slice_cmp label_order xs ys
common_front [] xs ys = refl
common_front (z ∷ zs) xs ys = grind (arith, tied_itself, nat_list_cmp_total, common_front zs xs ys)

turned : (r n : DomainName) (k : Octets) → folded n ≡ n → map to_ascii_lowercase k ≡ k → at_or_below
    r (k ∷ n) ≡ true → (xs : List Octets) × (reverse (folded r) ≡ reverse n ++ (k ∷ xs))
turned r n k low lowk h = go (under-is r (k ∷ n) h)
  where
    go : Under r (k ∷ n) → (xs : List Octets) × (reverse (folded r) ≡ reverse n ++ (k ∷ xs))
    go (p, e) =
        let front : reverse (k ∷ n) ≡ reverse n ++ (k ∷ []) = reverse-append (k ∷ []) n in
        let is : folded r ≡ p ++ (k ∷ n) =
        e ∙ ap₂ (λ (a : Octets) (b : DomainName). p ++ (a ∷ b)) lowk low in (
          reverse p,
          ap reverse is ∙ reverse-append p (k ∷ n)
              ∙ ap (λ (xs : List Octets). xs ++ reverse p) front
              ∙ append_assoc (reverse n) (k ∷ []) (reverse p),
        )

pub labels_in_order : (r s n : DomainName) (k l : Octets) → folded n ≡ n → map to_ascii_lowercase k
    ≡ k → map to_ascii_lowercase l ≡ l → at_or_below r (k ∷ n) ≡ true → at_or_below s (l ∷ n) ≡ true
    → is_gt (name_order r s) ≡ false → is_gt (label_order k l) ≡ false
labels_in_order r s n k l low lowk lowl p q h = grind (arith, turned, first_part, ap₂, common_front)

-- a name at or below another and different from it is below it
pub other_below : (m n : DomainName) → at_or_below m n ≡ true → same m n ≡ false → below m n ≡ true
other_below m n h f = below_unless_same m n h (λ whole. false≢true (sym f ∙ whole))

pub under-longer : (r m : DomainName) → at_or_below r m ≡ true → length m ≤ length r
under-longer r m h = grind (arith, leb-true, and_parts)
