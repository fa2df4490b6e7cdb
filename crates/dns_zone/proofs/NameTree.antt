-- In canonical order, the names at or below a name are adjacent and follow it directly.
use Rattle.dns_zone.proofs.Common.{◌≡◌, suc, ◌+◌, ◌-◌, ◌<◌, ◌≤◌, Bool, true, false, nat_lt, nat_le, ◌⊎◌, inl, inr, List, [], ◌∷◌, ◌++◌, map, reverse, length, take, drop, refl, sym, ap, ap₂, ◌∙◌, arith, length-append, is_eq, is_gt, nat_cmp, Ordering, Less, Equal, Greater, false≢true, true≢false, and_parts, and_from, or_cases, or_right, le-leb, leb-true, lt-ltb, false_from_ne_true, ltb-true, end_rest, nat_list_cmp_total, tied_itself, slice_cmp, lists_ties, ordering_then, to_ascii_lowercase, Octets, DomainName, folded, same, last_labels, at_or_below, below, label_order, name_order, reverse-reverse, reverse-append, take-append-drop, drop-map, length-map, append_assoc, octets_equal-decides, same_tests, same-length, at_or_below-cons, nat_ties}
use Rattle.dns_zone.proofs.NameOrder.{same-is, same-from}

-- n ends with the labels of a
abbrev pub Under : DomainName → DomainName → Type 0
Under n a = (p : DomainName) × (folded n ≡ p ++ folded a)

pub under-is : (n a : DomainName) → at_or_below n a ≡ true → Under n a
under-is n a h =
    let k = length n - length a in
    let parts = and_parts (nat_le (length a) (length n)) (same (last_labels (length a) n) a) h in (
      take k (folded n),
      sym (take-append-drop k (folded n))
          ∙ ap (λ x. take k (folded n) ++ x)
          (drop-map (map to_ascii_lowercase) k n ∙ same-is (drop k n) a parts.1),
    )

pub under-from : (n a : DomainName) → Under n a → at_or_below n a ≡ true
under-from n a (p, e) =
    let k = length n - length a in
    let len_n : length (folded n) ≡ length n = length-map n (map to_ascii_lowercase) in
    let len_a : length (folded a) ≡ length a = length-map a (map to_ascii_lowercase) in
    let both : length (folded n) ≡ length p + length (folded a) = grind (arith, length-append) in
    let fits : length a ≤ length n = omega arith in
    let rest : drop (length (folded n) - length (folded a)) (folded n) ≡ folded a =
    end_rest (folded n) (folded a) p e in
    let at : length (folded n) - length (folded a) ≡ k = omega arith in
    and_from _ _ (le-leb _ _ fits)
    (same-from (drop k n) a
    (sym (drop-map (map to_ascii_lowercase) k n) ∙ ap (λ i. drop i (folded n)) (sym at) ∙ rest))

pub under-trans : (n m a : DomainName) → at_or_below n m ≡ true → at_or_below m a ≡ true
    → at_or_below n a ≡ true
under-trans n m a h k = under-from n a (joined (under-is n m h) (under-is m a k))
  where
    joined : Under n m → Under m a → Under n a
    joined (p, e) (q, f) = (p ++ q, e ∙ ap (λ x. p ++ x) f ∙ sym (append_assoc p q (folded a)))

-- the case of a name does not matter
pub same-under : (n m a : DomainName) → same n m ≡ true → at_or_below n a ≡ at_or_below m a
same-under n m a h = grind (arith, same-is, same_tests, under-from, under-is)

pub itself-under : (n m : DomainName) → same n m ≡ true → at_or_below n m ≡ true
itself-under n m h = under-from n m ([], same-is n m h)

-- adding a label at the front makes a name below the names that it was at or below
pub below-cons : (l : Octets) (n a : DomainName) → below (l ∷ n) a ≡ at_or_below n a
below-cons l n a = go (at_or_below n a) refl
  where
    go : (b : Bool) → at_or_below n a ≡ b → below (l ∷ n) a ≡ b
    go true e = grind (arith, leb-true, and_parts, and_from, lt-ltb, at_or_below-cons, or_right)
    go false e = false_from_ne_true (below (l ∷ n) a) (λ h.
        let parts = and_parts (nat_lt (length a) (suc (length n))) (at_or_below (l ∷ n) a) h in
        let shorter = ltb-true _ _ parts.0 in
        by_cases shorter
        (or_cases (same (l ∷ n) a) (at_or_below n a) (sym (at_or_below-cons l n a) ∙ parts.1)))
      where
        by_cases : length a < suc (length n) → (same (l ∷ n) a ≡ true) ⊎ (at_or_below n a ≡ true)
            → ⊥
        by_cases s (inl k) =
            let level : suc (length n) ≡ length a = same-length (l ∷ n) a k in omega arith
        by_cases s (inr k) = false≢true (sym e ∙ k)

-- labels that compare as equal are equal
pub label-tie : (x y : Octets) → label_order x y ≡ Equal → x ≡ y
label-tie x y e = (octets_equal-decides x y).0 (lists_ties nat_cmp nat_ties x y ∙ ap is_eq e)

-- a list is not after a list that begins with it
not_after_longer : (xs zs : List Octets) → is_gt (slice_cmp label_order xs (xs ++ zs)) ≡ false
not_after_longer [] [] = refl
not_after_longer [] (z ∷ zs) = refl
not_after_longer (x ∷ xs) zs =
    grind (arith, tied_itself, nat_list_cmp_total, (not_after_longer xs zs))

-- a list between xs and a list that begins with xs begins with xs
list_between : (xs ys zs : List Octets) → is_gt (slice_cmp label_order xs ys) ≡ false
    → is_gt (slice_cmp label_order ys (xs ++ zs)) ≡ false → (ws : List Octets) × (ys ≡ xs ++ ws)
list_between [] ys zs p q = (ys, refl)
list_between (x ∷ xs) [] zs p q = absurd (true≢false p)
list_between (x ∷ xs) (y ∷ ys) zs p q = go (label_order x y) refl p q (list_between xs ys zs)
  where
    go : (c : Ordering) → label_order x y ≡ c
        → is_gt (ordering_then c (slice_cmp label_order xs ys)) ≡ false → is_gt
        (ordering_then (label_order y x) (slice_cmp label_order ys (xs ++ zs))) ≡ false → (is_gt
        (slice_cmp label_order xs ys) ≡ false → is_gt (slice_cmp label_order ys (xs ++ zs)) ≡ false
        → (ws : List Octets) × (ys ≡ xs ++ ws)) → (ws : List Octets) × (y ∷ ys ≡ x ∷ (xs ++ ws))
    go Less e a b f =
        grind (arith, label_order, nat_list_cmp_total, true≢false, ordering_then, slice_cmp)
    go Greater e a b f = absurd (true≢false a)
    go Equal e a b f =
        grind (arith, label_order, nat_list_cmp_total, ordering_then, slice_cmp, ap₂, label-tie)

turned_end : (n a p : DomainName) → folded n ≡ p ++ folded a
    → reverse (folded n) ≡ reverse (folded a) ++ reverse p
turned_end n a p e = ap reverse e ∙ reverse-append p (folded a)

-- a name is not after the names at or below it
pub under-order : (n a : DomainName) → at_or_below n a ≡ true → is_gt (name_order a n) ≡ false
under-order n a h = go (under-is n a h)
  where
    go : Under n a → is_gt (name_order a n) ≡ false
    go (p, e) =
        ap (λ ks. is_gt (slice_cmp label_order (reverse (folded a)) ks)) (turned_end n a p e)
        ∙ not_after_longer (reverse (folded a)) (reverse p)

-- if m is at or below a, a name between a and m is at or below a
pub between : (a b m : DomainName) → is_gt (name_order a b) ≡ false → is_gt (name_order b m) ≡ false
    → at_or_below m a ≡ true → at_or_below b a ≡ true
between a b m p q h = go (under-is m a h)
  where
    go : Under m a → at_or_below b a ≡ true
    go (r, e) =
        let found = list_between (reverse (folded a)) (reverse (folded b)) (reverse r) p
        (sym (ap (λ ks. is_gt (slice_cmp label_order (reverse (folded b)) ks)) (turned_end m a r e))
        ∙ q)
        in
        under-from b a (
          reverse found.0,
          sym (reverse-reverse (folded b)) ∙ ap reverse found.1
              ∙ reverse-append (reverse (folded a)) found.0
              ∙ ap (λ x. reverse found.0 ++ x) (reverse-reverse (folded a)),
        )
