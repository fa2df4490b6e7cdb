-- The shortest suffix of a name that has at least a given number of octets.
use Rattle.dns_zone.proofs.Common.{◌≡◌, ℕ, suc, ◌+◌, ◌-◌, ◌<◌, ◌≤◌, Bool, true, false, nat_lt, ◌||◌, if◌then◌else◌, [], ◌∷◌, length, drop, get_or, refl, sym, ap, ap₂, ◌∙◌, arith, length-append, length-drop, false_from_ne_true, ltb-true, ltb-false, lt-ltb, or-false, drop_at, drop-drop, get_or-drop, Octets, DomainName, wire, is_name, folded, same, at_or_below, names_equal, at_or_below-cons, at_or_below-short, at_or_below-long, at_or_below-length-wire, is_name-tail, ending}
use Rattle.dns_spec.proofs.DomainNames.WireNames.{wire_some}

-- An invariant of skipping the labels of a name n, whose octets are xs: from index k on, xs is the
-- wire form of a suffix of n, and the shortest suffix that is sought is the same for both.
pub record GoesOn (least : ℕ) (n : DomainName) (xs : Octets) (k : ℕ) : Type 0 where
  pub rest : DomainName
  pub octets : drop k xs ≡ wire rest
  pub fits : k ≤ length xs
  pub name : is_name rest ≡ true
  pub end : ending least rest ≡ ending least n

module _ (least : ℕ) (n : DomainName) (xs : Octets) (k : ℕ) (h : GoesOn least n xs k) where
  -- the length of the next label
  abbrev x : ℕ
  x = get_or xs k 0

  size : length xs ≡ k + length (wire h.rest)
  size = let f = h.fits in omega (arith, ap length h.octets, length-drop k xs)

  first : get_or (wire h.rest) 0 0 ≡ x
  first = grind (arith, get_or-drop)

  pub inside : k < length xs
  inside = omega (arith, size, wire_some h.rest)

  pub next_end : 0 < least → k + 1 + x ≤ length xs - least → GoesOn least n xs (k + 1 + x)
  next_end some fits = go h.rest h.octets size first h.name h.end
    where
      go : (m : DomainName) → drop k xs ≡ wire m → length xs ≡ k + length (wire m)
          → get_or (wire m) 0 0 ≡ x → is_name m ≡ true → ending least m ≡ ending least n
          → GoesOn least n xs (k + 1 + x)
      go [] w s f ok e = absurd (omega arith)
      go (l ∷ m) w s f ok e =
          let long : length xs ≡ k + 1 + x + length (wire m) = grind (arith, length-append) in
          let at : k + 1 + x ≡ k + suc (length l) = omega arith in
          record {
            rest = m;
            octets =
                ap (λ i. drop i xs) at ∙ sym (drop-drop (suc (length l)) k xs)
                ∙ ap (drop (suc (length l))) w ∙ drop_at l (wire m) _ refl;
            fits = omega arith;
            name = is_name-tail l m ok;
            end = grind arith;
          }

  pub last_end : length xs - least < k + 1 + x → h.rest ≡ ending least n
  last_end past = go h.rest size first h.end
    where
      go : (m : DomainName) → length xs ≡ k + length (wire m) → get_or (wire m) 0 0 ≡ x
          → ending least m ≡ ending least n → m ≡ ending least n
      go [] s f e = e
      go (l ∷ m) s f e = grind (arith, length-append, lt-ltb)

-- for names in lower case, n is at or below m if and only if the shortest suffix of n with at least
-- as many octets as m is m
pub end_is : (n m : DomainName) → folded n ≡ n → folded m ≡ m
    → names_equal (ending (length (wire m)) n) m ≡ at_or_below n m
end_is [] m low lower = sym (at_or_below-short [] m (wire_some m) ∙ ap (names_equal []) lower)
end_is (l ∷ n) m low lower =
    go (nat_lt (length (wire n)) (length (wire m))) refl (end_is n m (ap (drop 1) low) lower)
  where
    go : (t : Bool) → nat_lt (length (wire n)) (length (wire m)) ≡ t
        → names_equal (ending (length (wire m)) n) m ≡ at_or_below n m
        → names_equal (if t then l ∷ n else ending (length (wire m)) n) m ≡ at_or_below (l ∷ n) m
    go true e r =
        let short : length (wire n) < length (wire m) = ltb-true _ _ e in
        let other : at_or_below n m ≡ false =
        false_from_ne_true _ (λ at. absurd (omega (arith, at_or_below-length-wire n m at))) in
        sym (at_or_below-cons l n m ∙ ap (λ t. same (l ∷ n) m || t) other
        ∙ or-false (same (l ∷ n) m) ∙ ap₂ names_equal low lower)
    go false e r = grind (arith, ltb-false, at_or_below-long, length-append)
