-- The offsets of the labels of a name, one label after the other.
use Rattle.dns_zone.proofs.Common.{◌≡◌, ℕ, ◌+◌, ◌<◌, List, ◌∷◌, refl, sym, ap, ◌∙◌, Octets, DomainName, length, drop, length-drop, get_or, set, subst, arith, drop_more, drop-drop, get_or-set_same, get_or-set_other, IsName-is_name, labels_of, IsWireForm, BeginsWithLabel-IsWireForm, labels_of-zero, BeginsAt, AreStarts}
use Rattle.dns_zone.proofs.WrittenKeys.{some as some-octet}

-- the first label begins at offset 0
pub begins-first : (octets : Octets) → IsWireForm octets → BeginsAt octets 0 0
begins-first octets form = record { inside = some-octet octets form; form = form; labels = refl }

-- what follows the first k + 1 labels
pub after_label : (k : ℕ) (n m : DomainName) (l : Octets) → drop k n ≡ l ∷ m → drop (k + 1) n ≡ m
after_label k n m l e = sym (drop-drop 1 k n) ∙ ap (drop 1) e

-- the next label begins after the length octet and the octets of the label at p
pub begins-next : (octets : Octets) (k p : ℕ) → BeginsAt octets k p → k < length (labels_of octets)
    → BeginsAt octets (k + 1) (p + (1 + get_or octets p 0))
begins-next octets k p here more =
    let x = get_or octets p 0 in
    let ys = drop (p + 1) octets in
    let front = drop_more octets p 0 here.inside in
    let some : x ≡ 0 → ⊥ = λ none.
    let root = ap length (sym here.labels ∙ labels_of-zero _ ys x here.form front none) in
    absurd (omega (arith, root, length-drop k (labels_of octets), more)) in
    let first = BeginsWithLabel-IsWireForm _ x ys here.form front some in
    let place : drop x ys ≡ drop (p + (1 + x)) octets = grind (arith, drop-drop) in
    let form = subst IsWireForm place first.rest in
    record {
      inside = omega (arith, some-octet _ form, length-drop (p + (1 + x)) octets);
      form = form;
      labels = grind (arith, after_label);
    }

-- the offset of one more label is stored
pub starts-more : (octets : Octets) (k p : ℕ) (starts : List ℕ) → k < length starts
    → AreStarts octets k starts → BeginsAt octets k p → AreStarts octets (k + 1) (set starts k p)
starts-more octets k p starts room known here =
    grind (arith, get_or-set_other, get_or-set_same)

-- the next offset fits in an octet, because a name has at most 255 octets
pub next-fits : (octets : Octets) (k p : ℕ) → IsWireForm octets → BeginsAt octets k p
    → k < length (labels_of octets) → p + (1 + get_or octets p 0) < 255
next-fits octets k p form here more =
    let next = begins-next octets k p here more in
    let few = (IsName-is_name (labels_of octets) form.is_name).fits in
    omega (arith, next.inside, few, ap length form.wire_is)
