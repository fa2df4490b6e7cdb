-- The key of a name, from the key of its parent.
use Rattle.dns_zone.proofs.Common.{◌≡◌, ℕ, zero, suc, ◌+◌, ◌<◌, [], ◌∷◌, ◌++◌, length, take, drop, get_or, refl, sym, ap, ◌∙◌, arith, length-append, length-map, take_all, Octets, DomainName, wire, labels_of, IsWireForm, ended, ending, name_key, BeginAlike}
use Rattle.dns_zone.proofs.KeyOrder.{key_length}
use Rattle.dns_spec.proofs.DomainNames.WireNames.{wire_some}

-- the length of a wire form
pub size : (xs : Octets) → IsWireForm xs → length xs ≡ length (wire (labels_of xs))
size xs w = ap length (sym w.wire_is)

pub some : (xs : Octets) → IsWireForm xs → 0 < length xs
some xs w = omega (arith, size xs w, wire_some (labels_of xs))

-- the key of a wire form has one octet less
pub key_size : (xs : Octets) → IsWireForm xs → length xs ≡ length (name_key (labels_of xs)) + 1
key_size xs w = size xs w ∙ sym (key_length (labels_of xs))

-- a name's wire form is the first label's length, that label, and the parent's wire form
pub long : (octets rest label : Octets) → IsWireForm octets → IsWireForm rest
    → labels_of octets ≡ label ∷ labels_of rest → length octets ≡ length label + 1 + length rest
long octets rest label form after first =
    grind (arith, name_key, length-append, length-map, key_size)

none : (n : ℕ) → ◌≡◌ {A = Octets} (take n []) []
none zero = refl
none (suc n) = refl

-- what begins alike still does if one list is cut short
pub alike_front : (xs ys : Octets) (n : ℕ) → BeginAlike xs ys → BeginAlike (take n xs) ys
alike_front xs ys zero h = none (length ys)
alike_front [] ys (suc n) h = h
alike_front (x ∷ xs) [] (suc n) h = refl
alike_front (x ∷ xs) (y ∷ ys) (suc n) h = grind (arith, get_or, alike_front xs ys n (ap (drop 1) h))

alike_shorter : (xs ys us : Octets) → BeginAlike xs (ys ++ us) → BeginAlike xs ys
alike_shorter xs [] us h = sym (none (length xs))
alike_shorter [] (y ∷ ys) us h = refl
alike_shorter (x ∷ xs) (y ∷ ys) us h = grind (arith, get_or, alike_shorter xs ys us (ap (drop 1) h))

pub alike_whole : (xs ys : Octets) → length xs ≡ length ys → BeginAlike xs ys → xs ≡ ys
alike_whole xs ys e h = grind (arith, take_all)

pub alike_itself : (xs : Octets) (n : ℕ) → BeginAlike xs (take n xs)
alike_itself xs zero = sym (none (length xs))
alike_itself [] (suc n) = refl
alike_itself (x ∷ xs) (suc n) = grind (arith, (alike_itself xs n))

-- the key of a name begins with the keys of its suffixes
pub alike_ending : (least : ℕ) (n : DomainName) (key : Octets) → BeginAlike key (name_key n)
    → BeginAlike key (name_key (ending least n))
alike_ending least [] key h = h
alike_ending least (l ∷ n) key h =
    let shorter = alike_ending least n key (alike_shorter key (name_key n) (ended l) h) in
    grind (arith, ending)

-- a key that is known is whole
pub known_whole : (octets key : Octets) (n : DomainName) → IsWireForm octets → labels_of octets ≡ n
    → length octets ≡ length key + 1 → BeginAlike key (name_key n)
    → key ≡ name_key (labels_of octets)
known_whole octets key n form is room alike = grind (arith, key_size, alike_whole, name_key)
