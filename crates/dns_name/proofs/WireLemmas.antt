-- The wire form and the labels in it determine each other.
use Rattle.dns_name.proofs.Common.{Bool, map, ◌↔◌, ◌≡◌, ℕ, zero, suc, ◌-◌, ◌≤◌, true, [], ◌∷◌, ◌++◌, length, take, drop, refl, sym, ◌∙◌, ap, arith, length-append, and_parts, list_all, to_ascii_lowercase, folded, same, octets_equal, names_equal, Octets, DomainName, wire, is_label, is_name, take_at, drop_at, append_assoc, append-nil, nil_from_length, same_tests, same-wire, wire-injective, octets_equal-decides, names_equal-decides, map-lowercase-wire, IsLabel-is_label, IsName-is_name, is_name-tail, labels_up_to, labels_of, IsWireForm, at_or_below, at_or_below-short}
use Rattle.dns_spec.proofs.DomainNames.WireNames.{wire_front, label_octets}

labels_up_to-wire : (n : DomainName) (most : ℕ)
    → list_all is_label n ≡ true → length (wire n) ≤ most → labels_up_to most (wire n) ≡ n
labels_up_to-wire [] zero ok fits = absurd (omega arith)
labels_up_to-wire [] (suc most) ok fits = refl
labels_up_to-wire ([] ∷ n) most ok fits = cc
labels_up_to-wire ((x ∷ l) ∷ n) zero ok fits = absurd (omega arith)
labels_up_to-wire ((x ∷ l) ∷ n) (suc most) ok fits =
    let parts = and_parts (is_label (x ∷ l)) _ ok in
    let shorter : length (wire n) ≤ most = omega (arith, length-append l (wire n)) in
    rw (
      take_at (x ∷ l) (wire n) (length (x ∷ l)) refl,
      drop_at (x ∷ l) (wire n) (length (x ∷ l)) refl,
    )
    (ap (λ m. (x ∷ l) ∷ m) (labels_up_to-wire n most parts.1 shorter))

-- octets that are a name's wire form give its labels
pub labels_of_spelled : (xs : Octets) (n : DomainName)
    → xs ≡ wire n → is_name n ≡ true → labels_of xs ≡ n
unfolding labels_of
labels_of_spelled xs n e ok = grind (arith, labels_up_to-wire)

-- and such octets satisfy `IsWireForm`
pub IsWireForm-wire : (xs : Octets) (n : DomainName)
    → xs ≡ wire n → is_name n ≡ true → IsWireForm xs
IsWireForm-wire xs n e ok = grind (arith, labels_of_spelled)

-- octets xs are a first label's length x, followed by ys: the label's octets and another wire form
pub record BeginsWithLabel (xs : Octets) (x : ℕ) (ys : Octets) : Type 0 where
  pub fits : x ≤ length ys
  pub label : is_label (take x ys) ≡ true
  pub rest : IsWireForm (drop x ys)
  pub labels : labels_of xs ≡ take x ys ∷ labels_of (drop x ys)

label_first : (l : Octets) (n : DomainName) (xs : Octets) (x : ℕ) (ys : Octets) → wire (l ∷ n) ≡ xs
    → length l ≡ x → l ++ wire n ≡ ys → is_name (l ∷ n) ≡ true → BeginsWithLabel xs x ys
label_first l n xs x ys w e f ok =
    let is_l : is_label l ≡ true =
    (and_parts (is_label l) _ (IsName-is_name (l ∷ n) ok).labels).0 in
    let front : take x ys ≡ l = ap (take x) (sym f) ∙ take_at l (wire n) x e in
    let back : drop x ys ≡ wire n = ap (drop x) (sym f) ∙ drop_at l (wire n) x e in
    let spelled : labels_of xs ≡ l ∷ n = labels_of_spelled xs (l ∷ n) (sym w) ok in
    let others : labels_of (drop x ys) ≡ n =
    labels_of_spelled (drop x ys) n back (is_name-tail l n ok) in
    record {
      fits = omega (arith, ap length f, length-append l (wire n));
      label = ap is_label front ∙ is_l;
      rest = IsWireForm-wire (drop x ys) n back (is_name-tail l n ok);
      labels = cc;
    }

first_by_cases : (n : DomainName) (xs : Octets) (x : ℕ) (ys : Octets)
    → wire n ≡ xs → xs ≡ x ∷ ys → is_name n ≡ true → (x ≡ 0 → ⊥) → BeginsWithLabel xs x ys
first_by_cases [] xs x ys w e ok some = absurd (some cc)
first_by_cases (l ∷ n) xs x ys w e ok some = label_first l n xs x ys w (cc) (cc) ok

pub BeginsWithLabel-IsWireForm : (xs : Octets) (x : ℕ) (ys : Octets)
    → IsWireForm xs → xs ≡ x ∷ ys → (x ≡ 0 → ⊥) → BeginsWithLabel xs x ys
BeginsWithLabel-IsWireForm xs x ys form e some =
    first_by_cases _ xs x ys form.wire_is e form.is_name some

none_by_cases : (n : DomainName) (xs ys : Octets) (x : ℕ)
    → wire n ≡ xs → xs ≡ x ∷ ys → x ≡ 0 → is_name n ≡ true → n ≡ []
none_by_cases [] xs ys x w e f ok = refl
none_by_cases (l ∷ n) xs ys x w e f ok = grind (arith, IsLabel-is_label, and_parts, IsName-is_name)

-- octets that begin with 0 spell the root
pub labels_of-zero : (xs ys : Octets) (x : ℕ)
    → IsWireForm xs → xs ≡ x ∷ ys → x ≡ 0 → labels_of xs ≡ []
labels_of-zero xs ys x form e f = none_by_cases _ xs ys x form.wire_is e f form.is_name

empty_by_cases : (n : DomainName) → wire n ≡ [] → ⊥
empty_by_cases [] e = cc
empty_by_cases (l ∷ n) e = cc

-- a wire form has at least one octet
pub IsWireForm-nil : (xs : Octets) → IsWireForm xs → length xs ≡ 0 → ⊥
IsWireForm-nil xs form e = empty_by_cases _ (form.wire_is ∙ nil_from_length xs e)

wire-front : (n : DomainName) → wire n ≡ label_octets n ++ 0 ∷ []
wire-front [] = refl
wire-front (l ∷ n) = grind (arith, append_assoc, (wire-front n))

front-push : (n : DomainName) (l : Octets)
    → label_octets (n ++ l ∷ []) ≡ label_octets n ++ length l ∷ l
front-push [] l = ap (λ xs. length l ∷ xs) (append-nil l)
front-push (k ∷ n) l = grind (arith, append_assoc, (front-push n l))

front_taken : (n : DomainName) → take (length (wire n) - 1) (wire n) ≡ label_octets n
front_taken n = grind (arith, wire-front, length-append, take_at)

-- one more label is added next to the root: what is before the root's length stays
pub wire-push : (n : DomainName) (l xs : Octets) → xs ≡ take (length (wire n) - 1) (wire n)
    → ((xs ++ length l ∷ []) ++ l) ++ 0 ∷ [] ≡ wire (n ++ l ∷ [])
wire-push n l xs e = grind (arith, front_taken, append_assoc, front-push, wire-front)

-- octets determine whether the names that they spell are the same
pub same_from_octets : (b : Bool) (xs ys : Octets) (n m : DomainName)
    → xs ≡ wire n → ys ≡ wire m → is_name n ≡ true → is_name m ≡ true
    → ((b ≡ true) ↔ (map to_ascii_lowercase xs ≡ map to_ascii_lowercase ys)) → b ≡ same n m
same_from_octets b xs ys n m e f p q test = grind (arith, same-wire, same_tests)

-- octets determine whether the names that they spell are equal, octet by octet
pub names_equal_from_octets : (b : Bool) (xs ys : Octets) (n m : DomainName) → xs ≡ wire n → ys
    ≡ wire m → is_name n ≡ true → is_name m ≡ true → b ≡ octets_equal xs ys → b ≡ names_equal n m
names_equal_from_octets b xs ys n m e f p q test =
    grind (arith, octets_equal-decides, names_equal-decides, same_tests, wire-injective)

-- a wire form in lower case is the wire form of the folded name
pub map-lowercase-octets : (xs : Octets) (n : DomainName)
    → IsWireForm xs → labels_of xs ≡ n → map to_ascii_lowercase xs ≡ wire (folded n)
map-lowercase-octets xs n form e = grind (arith, map-lowercase-wire, IsName-is_name)

-- the labels of another name are added next to the root: what is before the root's length stays
pub wire-append : (n m : DomainName) (xs : Octets)
    → xs ≡ take (length (wire n) - 1) (wire n) → xs ++ wire m ≡ wire (n ++ m)
wire-append n m xs e = ap (λ ys. ys ++ wire m) (e ∙ front_taken n) ∙ sym (wire_front n m)

-- a name that is no longer than `a` is at or below `a` if and only if the two are the same
pub no_longer_decides : (xs ys : Octets) (a : DomainName) → IsWireForm xs
    → ys ≡ wire a → length xs ≤ length ys → at_or_below (labels_of xs) a ≡ same (labels_of xs) a
no_longer_decides xs ys a form f short =
    at_or_below-short (labels_of xs) a (omega (arith, ap length form.wire_is, ap length f))
