-- Octets begin with a name's wire form if and only if `name_of` reads that name.
use Rattle.dns_spec.proofs.Common.{◌≡◌, ℕ, zero, suc, ◌+◌, ◌<◌, ◌↔◌, Bool, true, false, nat_le, [], ◌∷◌, ◌++◌, length, take, drop, Option, None, Some, option_map, refl, sym, ap, ◌∙◌, arith, append_assoc, length-append, take-append-drop, list_all, and_parts, leb-true, none-some, same_Some, cond_some, option_and_then_some, take_at, drop_at, length-take-le, Octets, DomainName, wire, is_label, is_name, with_label, labels_from, name_of, ◌≤◌}
use Rattle.dns_spec.proofs.DomainNames.NameLaws.{IsLabel-is_label, IsName-is_name}

-- fewer than k labels in wire form are read again
pub labels_taken : (k : ℕ) (n : DomainName) (rest : Octets)
    → list_all is_label n ≡ true → length n < k → labels_from k (wire n ++ rest) ≡ Some (n, rest)
unfolding labels_from
labels_taken zero n rest ok few = absurd (omega arith)
labels_taken (suc k) [] rest ok few = refl
labels_taken (suc k) ([] ∷ n) rest ok few = cc
labels_taken (suc k) ((x ∷ l) ∷ n) rest ok few =
    grind (arith, length-append, append_assoc, take_at, drop_at, (labels_taken k n rest))

-- a label takes at least two octets
few_labels : (n : DomainName) → list_all is_label n ≡ true → length n + length n < length (wire n)
few_labels [] ok = omega arith
few_labels (l ∷ n) ok =
    grind (arith, (few_labels n (and_parts (is_label l) (list_all is_label n) ok).1), length-append)

-- a name's wire form is read as that name, and the octets after it
pub name_of-wire : (n : DomainName) (rest : Octets)
    → is_name n ≡ true → name_of (wire n ++ rest) ≡ Some (n, rest)
name_of-wire n rest ok = grind (arith, IsName-is_name, labels_taken, few_labels)

-- the octets are the wire form of the labels that are read from them, followed by the rest
abbrev LabelsRead : ℕ → Octets → Type 0
LabelsRead k os =
    (n : DomainName) (rest : Octets) → labels_from k os ≡ Some (n, rest) → os ≡ wire n ++ rest

labels_read : (k : ℕ) (os : Octets) → LabelsRead k os
unfolding labels_from
labels_read zero os n rest h = absurd (none-some (n, rest) h)
labels_read (suc k) [] n rest h = absurd (none-some (n, rest) h)
labels_read (suc k) (zero ∷ os) n rest h = grind (arith, same_Some)
labels_read (suc k) (suc i ∷ os) n rest h =
    by_room
    (λ m tail e. labels_read k (drop (suc i) os) m tail e) (nat_le (suc i) (length os)) refl h
  where
    l : Octets
    l = take (suc i) os

    with_first : LabelsRead k (drop (suc i) os) → (y : Option (DomainName × Octets))
        → labels_from k (drop (suc i) os) ≡ y → length l ≡ suc i
        → option_map (with_label l) y ≡ Some (n, rest) → suc i ∷ os ≡ wire n ++ rest
    with_first again None e long f = absurd (none-some (n, rest) f)
    with_first again (Some (m, tail)) e long f =
        grind (arith, take-append-drop, append_assoc, same_Some, l)

    by_room : LabelsRead k (drop (suc i) os) → (b : Bool) → nat_le (suc i) (length os) ≡ b → ◌≡◌
        {A = Option (DomainName × Octets)} (elim b [
          | true ↦ option_map (with_label l) (labels_from k
              (drop (suc i) os))
          | false ↦ None
        ]) (Some (n, rest)) → suc i ∷ os ≡ wire n ++ rest
    by_room again true e f = search (with_first, length-take-le, leb-true)
    by_room again false e f = absurd (none-some (n, rest) f)

pub name_read : (os : Octets) (n : DomainName) (rest : Octets)
    → name_of os ≡ Some (n, rest) → (is_name n ≡ true) × (os ≡ wire n ++ rest)
name_read os n rest h = grind (arith, option_and_then_some, cond_some, labels_read)

pub name_of_reads : (octets : Octets) (n : DomainName) (rest : Octets)
    → (name_of octets ≡ Some (n, rest)) ↔ ((octets ≡ wire n ++ rest) × (is_name n ≡ true))
name_of_reads octets n rest = grind (arith, name_read, name_of-wire)

-- octets that begin with the wire form of a name determine the name and the octets after it
pub wire_fronts_agree : (n m : DomainName) (rest tail : Octets) → list_all is_label n ≡ true
    → list_all is_label m ≡ true → wire n ++ rest ≡ wire m ++ tail → (n ≡ m) × (rest ≡ tail)
wire_fronts_agree [] [] rest tail p q e = (refl, ap (drop 1) e)
wire_fronts_agree [] (k ∷ m) rest tail p q e = grind (arith, IsLabel-is_label, and_parts)
wire_fronts_agree (l ∷ n) [] rest tail p q e = grind (arith, IsLabel-is_label, and_parts)
wire_fronts_agree (l ∷ n) (k ∷ m) rest tail p q e =
    let as_long : length l ≡ length k = cc in
    let after : l ++ (wire n ++ rest) ≡ k ++ (wire m ++ tail) = grind (arith, append_assoc) in
    let first : l ≡ k = sym (take_at l (wire n ++ rest) _ as_long)
    ∙ ap (take (length k)) after ∙ take_at k (wire m ++ tail) _ refl in
    let others : wire n ++ rest ≡ wire m ++ tail =
    sym (drop_at l (wire n ++ rest) _ as_long)
    ∙ ap (drop (length k)) after ∙ drop_at k (wire m ++ tail) _ refl in
    let agree = wire_fronts_agree n m rest tail (and_parts (is_label l) (list_all is_label n) p).1
    (and_parts (is_label k) (list_all is_label m) q).1 others in grind arith

-- a wire form has at least the root's octet
pub wire_some : (n : DomainName) → 0 < length (wire n)
wire_some [] = omega arith
wire_some (l ∷ n) = omega arith

-- the wire form of a suffix ends the wire form of the name
pub wire_split : (front s : DomainName) → (x : Octets) × (wire (front ++ s) ≡ x ++ wire s)
wire_split [] s = ([], refl)
wire_split (l ∷ front) s =
    let r = wire_split front s in (
      length l ∷ (l ++ r.0),
      ap (λ z. length l ∷ (l ++ z)) r.1
          ∙ ap (λ z. length l ∷ z) (sym (append_assoc l r.0 (wire s))),
    )

pub longer_wire : (g s : DomainName) → length (wire s) ≤ length (wire (g ++ s))
longer_wire [] s = omega arith
longer_wire (l ∷ g) s = let h = longer_wire g s in omega (arith, h, length-append l (wire (g ++ s)))

-- the octets of labels, without the root's
abbrev pub label_octets : DomainName → Octets
label_octets [] = []
label_octets (l ∷ n) = length l ∷ (l ++ label_octets n)

pub wire_front : (f t : DomainName) → wire (f ++ t) ≡ label_octets f ++ wire t
wire_front [] t = refl
wire_front (l ∷ f) t = grind (arith, append_assoc, (wire_front f t))
