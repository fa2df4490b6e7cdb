-- The order of names, whose labels are compared from the right, computed label by label from the
-- left.
use Rattle.dns_name.proofs.Common.{◌≡◌, ℕ, zero, suc, ◌+◌, ◌-◌, ◌≤◌, ◌⊎◌, min, inl, inr, [], ◌∷◌, ◌++◌, length, take, drop, reverse, Option, Ordering, Equal, refl, sym, ◌∙◌, ap, arith, cases_order, slice_cmp, Octets, DomainName, last_labels, label_order, reverse-append, length-reverse, length-take, length-drop, take-append-drop, YieldsFirst, ordering_then, nat_cmp}
use Rattle.dns_spec.proofs.General.Orderings.{then_equal, less_by, cmp_self, slice_cmp-append, slice_cmp-reverse-cons, by_length}

drop-one : (k : ℕ) (n : DomainName) → drop 1 (drop k n) ≡ drop (suc k) n
drop-one zero n = refl
drop-one (suc k) [] = refl
drop-one (suc k) (l ∷ n) = drop-one k n

-- one more label is skipped
pub drop-next : (s t n : DomainName) (r : Option Octets) (k : ℕ)
    → s ≡ drop k n → YieldsFirst (λ x. x) s r t → t ≡ drop (k + 1) n
drop-next s t n r k e h = grind (arith, drop-one)

-- if one name has only k labels, the last k labels of both names decide the order, or, if they are
-- equal, the number of labels
pub order_of_last : (n m : DomainName) (k : ℕ)
    → k ≤ length n → k ≤ length m → (length n ≡ k) ⊎ (length m ≡ k)
    → ordering_then (slice_cmp label_order (reverse (last_labels k n)) (reverse (last_labels k m)))
    (nat_cmp (length n) (length m)) ≡ slice_cmp label_order (reverse n) (reverse m)
order_of_last n m k p q shorter =
    let i : ℕ = length n - k in
    let j : ℕ = length m - k in
    let left : reverse n ≡ reverse (drop i n) ++ reverse (take i n) =
    ap reverse (sym (take-append-drop i n)) ∙ reverse-append (take i n) (drop i n) in
    let right : reverse m ≡ reverse (drop j m) ++ reverse (take j m) =
    ap reverse (sym (take-append-drop j m)) ∙ reverse-append (take j m) (drop j m) in
    let as_long : length (reverse (drop i n)) ≡ length (reverse (drop j m)) = omega (
      arith,
      length-reverse (drop i n),
      length-reverse (drop j m),
      length-drop i n,
      length-drop j m,
    ) in
    let first : length (reverse (take i n)) ≡ i =
    omega (arith, length-reverse (take i n), length-take i n) in
    let second : length (reverse (take j m)) ≡ j =
    omega (arith, length-reverse (take j m), length-take j m) in
    let empty : (length (reverse (take i n)) ≡ 0) ⊎ (length (reverse (take j m)) ≡ 0) =
    elim shorter [ inl e ↦ inl (omega (arith, first)) | inr e ↦ inr (omega (arith, second)) ] in
    let front : slice_cmp label_order (reverse (take i n)) (reverse (take j m)) ≡ nat_cmp (length n)
    (length m) = by_length label_order (reverse (take i n)) (reverse (take j m)) empty
    ∙ ap (λ x. nat_cmp x (length (reverse (take j m)))) first ∙ ap (nat_cmp i) second
    ∙ less_by (length n) (length m) k p q (cases_order (length n) (length m))
    in
    sym (rw (left, right) (slice_cmp-append label_order _ _ _ _ as_long ∙ ap
    (ordering_then (slice_cmp label_order (reverse (drop i n)) (reverse (drop j m)))) front))

-- one more label of both names: unless these labels are equal, they decide instead of the labels so
-- far, since they are further right
pub order_next : (n n' m m' : DomainName) (l k : Octets) (order next : Ordering)
    → n ≡ l ∷ n' → m ≡ k ∷ m' → length n ≡ length m → next ≡ ordering_then (label_order l k) order
    → (length n' ≡ length m') × (ordering_then (slice_cmp label_order (reverse n') (reverse m'))
    next ≡ ordering_then (slice_cmp label_order (reverse n) (reverse m)) order)
order_next n n' m m' l k order next e f long g = grind (arith, slice_cmp-reverse-cons)

pub order_is : (n m left right : DomainName) (k a b : ℕ) (longer result : Ordering) → a ≡ length n
    → b ≡ length m → k ≡ min a b → left ≡ last_labels k n → right ≡ last_labels k m → longer
    ≡ nat_cmp a b → result ≡ ordering_then (slice_cmp label_order (reverse left) (reverse right))
    longer → result ≡ slice_cmp label_order (reverse n) (reverse m)
order_is n m left right k a b longer result p q shared e f g h =
    grind (arith, cases_order, order_of_last)

-- if the remaining labels are the same, the labels so far decide the order
pub order_stays : (n m : DomainName) (order : Ordering)
    → n ≡ m → ordering_then (slice_cmp label_order (reverse n) (reverse m)) order ≡ order
order_stays n m order e = grind (arith, cmp_self)

-- the first labels decide the order of names with the same parent
pub order_of_first : (n n' m m' : DomainName) (l k : Octets) (result : Ordering)
    → n ≡ l ∷ n' → m ≡ k ∷ m'
    → n' ≡ m' → result ≡ label_order l k → result ≡ slice_cmp label_order (reverse n) (reverse m)
order_of_first n n' m m' l k result e f same g =
    let after : ordering_then (slice_cmp label_order (reverse n') (reverse m'))
    (ordering_then (label_order l k) Equal) ≡ ordering_then (label_order l k) Equal =
    order_stays n' m' (ordering_then (label_order l k) Equal) same
    in
    let all = slice_cmp-reverse-cons label_order l k n' m' Equal (ap length same) in
    g ∙ sym (then_equal (label_order l k)) ∙ sym after ∙ all
    ∙ then_equal (slice_cmp label_order (reverse (l ∷ n')) (reverse (k ∷ m'))) ∙ rw (e, f) refl
