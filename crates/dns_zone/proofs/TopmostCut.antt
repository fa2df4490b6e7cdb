-- The topmost cut that a name is at or below, found by comparing keys.
use Rattle.dns_zone.proofs.Common.{◌≡◌, ℕ, ◌+◌, ◌<◌, ◌≤◌, Bool, true, false, ◌&&◌, cond, ◌==◌, nat_lt, ◌⊎◌, inl, inr, [], ◌∷◌, length, take, drop, map, refl, sym, ap, ◌∙◌, arith, is_gt, length-append, length-take, take-append-le, min-eq_left, take-append_seam, starts_with, DomainName, folded, same, at_or_below, below, name_order, type_ns, ZoneContents, owns, is_cut, false≢true, and_parts, and_from, and_right, or_cases, or_left, or_right, cases_lt, lt-ltb, le-ltb, ltb-true, leb-true, at_or_below_cut, below_cut, octets_equal-decides, same_tests, at_or_below-cons, raised, ended, name_key, IsCutAbove, IsTopmost}
use Rattle.dns_zone.proofs.KeyPrefix.{under_begins, starts_under, some}
use Rattle.dns_zone.proofs.NameOrder.{same-is, same-from}
use Rattle.dns_zone.proofs.NameTree.{under-is, itself-under, between}

itself : (n : DomainName) → at_or_below n n ≡ true
itself n = itself-under n n (same-from n n refl)

one_name : (n m : DomainName) → folded n ≡ n → folded m ≡ m → same n m ≡ true → n ≡ m
one_name n m p q h = sym p ∙ same-is n m h ∙ q

-- the key of a name at or below another is at least as long
no_shorter : (n m : DomainName) → folded n ≡ n → folded m ≡ m → at_or_below n m ≡ true
    → length (name_key m) ≤ length (name_key n)
no_shorter n m p q h = grind (arith, under_begins, length-append)

module _ (z : ZoneContents) where
  -- a cut that a name is at or below
  abbrev HasCut : DomainName → Type 0
  HasCut n =
      (c : DomainName) × (folded c ≡ c) × (is_cut z c ≡ true) × (at_or_below n c ≡ true)

  cut_found : (n : DomainName) → folded n ≡ n → at_or_below_cut z n ≡ true → HasCut n
  cut_found [] low h = grind (arith, is_cut, z, or_cases, false≢true, itself)
  cut_found (l ∷ n) low h =
      go (or_cases (is_cut z (l ∷ n)) (at_or_below_cut z n) h) (cut_found n (ap (drop 1) low))
    where
      go : (is_cut z (l ∷ n) ≡ true) ⊎ (at_or_below_cut z n ≡ true)
          → (at_or_below_cut z n ≡ true → HasCut n) → HasCut (l ∷ n)
      go (inl e) f = (l ∷ n, low, e, itself (l ∷ n))
      go (inr e) f =
          let (c, d, is, u) = f e in
          (c, d, is, at_or_below-cons l n c ∙ or_right (same (l ∷ n) c) (at_or_below n c) u)

  above_cut : (n c : DomainName) → folded n ≡ n → folded c ≡ c → is_cut z c ≡ true
      → at_or_below n c ≡ true → at_or_below_cut z n ≡ true
  above_cut [] c low d is u = grind (arith, or_left, under-is)
  above_cut (l ∷ n) c low d is u =
      let either = or_cases (same (l ∷ n) c) (at_or_below n c) (sym (at_or_below-cons l n c) ∙ u) in
      let above = above_cut n c (ap (drop 1) low) d is in
      let here = one_name (l ∷ n) c low d in
      grind (arith, or_left, or_right, (either), (above), (here))

  -- k is at most the length of n's key, and is 0 if and only if n is at or below no cut
  module _ (n : DomainName) (low : folded n ≡ n) (k : ℕ) (t : IsTopmost z n k) where
    pub topmost_fits : k ≤ length (name_key n)
    topmost_fits = grind (arith, cases_lt, no_shorter)

    pub at_cut : at_or_below_cut z n ≡ nat_lt 0 k
    at_cut = grind (arith, same_tests, cut_found, lt-ltb, ltb-true, above_cut)

  pub below_topmost : (n : DomainName) → folded n ≡ n → (k : ℕ) → IsTopmost z n k
      → below_cut z n ≡ (nat_lt 0 k && nat_lt k (length (name_key n)))
  below_topmost [] low k t = sym (and_right (nat_lt 0 k) (nat_lt k 0) (le-ltb k 0 (omega arith)))
  below_topmost (l ∷ n) low k t = same_tests _ _ from back
    where
      own : length (name_key (l ∷ n)) ≡ length (name_key n) + length (ended l)
      own = length-append (name_key n) (ended l)

      end : length (ended l) ≡ length (map raised l) + 1
      end = length-append (map raised l) (0 ∷ [])

      from : at_or_below_cut z n ≡ true
          → (nat_lt 0 k && nat_lt k (length (name_key (l ∷ n)))) ≡ true
      from h =
          let (c, d, is, u) = cut_found n (ap (drop 1) low) h in
          let under = at_or_below-cons l n c ∙ or_right (same (l ∷ n) c) (at_or_below n c) u in
          let least = t.least c d is under in
          let short = no_shorter n c (ap (drop 1) low) d u in
          and_from _ _ (lt-ltb 0 k least.0)
          (lt-ltb k (length (name_key (l ∷ n))) (omega (arith, least.1, short, own, end)))

      back : (nat_lt 0 k && nat_lt k (length (name_key (l ∷ n)))) ≡ true
          → at_or_below_cut z n ≡ true
      back h =
          let parts = and_parts (nat_lt 0 k) (nat_lt k (length (name_key (l ∷ n)))) h in
          let cut = t.some (ltb-true 0 k parts.0) in
          go cut (ltb-true k (length (name_key (l ∷ n))) parts.1)
          (or_cases (same (l ∷ n) cut.cut) (at_or_below n cut.cut)
          (sym (at_or_below-cons l n cut.cut) ∙ cut.above))
        where
          go : (cut : IsCutAbove z (l ∷ n) k) → k < length (name_key (l ∷ n)) → (same
              (l ∷ n) cut.cut ≡ true) ⊎ (at_or_below n cut.cut ≡ true) → at_or_below_cut z n ≡ true
          go cut s (inl e) =
              let size : length (name_key (l ∷ n)) ≡ length (name_key cut.cut) =
              ap (λ m. length (name_key m)) (one_name (l ∷ n) cut.cut low cut.lower e) in
              let octets = cut.octets in
              absurd (omega (arith, s, size, octets))
          go cut s (inr e) = above_cut n cut.cut (ap (drop 1) low) cut.lower cut.is_cut e

  -- a name with no more labels than the origin is at or below no cut
  pub topmost_none : (n : DomainName) → length n ≤ length z.origin → IsTopmost z n 0
  topmost_none n short = grind (arith, some, and_parts, ltb-true, leb-true)

  -- a name that is at or below no cut, except possibly itself
  pub alone : (n : DomainName) → folded n ≡ n → ((c : DomainName) → folded c ≡ c → is_cut z c ≡ true
      → at_or_below n c ≡ true → c ≡ n) → IsTopmost z n (cond (is_cut z n) (length (name_key n)) 0)
  alone n low only = go (is_cut z n) refl
    where
      go : (b : Bool) → is_cut z n ≡ b → IsTopmost z n (cond b (length (name_key n)) 0)
      go true e =
          let parts = and_parts (below n z.origin) (owns z n type_ns) e in
          let long = (and_parts (nat_lt (length z.origin) (length n)) _ parts.0).0 in
          record {
            some = λ h. record {
              cut = n;
              lower = low;
              is_cut = e;
              above = itself n;
              octets = refl;
            };
            least = grind (arith, cases_lt, some);
          }
      go false e = record {
        some = λ h. absurd (omega (arith, h));
        least = grind arith;
      }

  -- o is not after n, and each cut that n is at or below is n itself or not after o.
  module _ (o n : DomainName) (low_o : folded o ≡ o) (low_n : folded n ≡ n) (k : ℕ)
      (t : IsTopmost z o k) (upto : is_gt (name_order o n) ≡ false)
      (cuts : (c : DomainName) → folded c ≡ c → is_cut z c ≡ true → at_or_below n c ≡ true
      → (c ≡ n) ⊎ (is_gt (name_order c o) ≡ false)) where
    abbrev pub covers : Bool
    covers = nat_lt 0 k && starts_with ◌==◌ (name_key n) (take k (name_key o))

    -- if n is at or below the topmost cut of o, this is the topmost cut of n
    pub covered : covers ≡ true → IsTopmost z n k
    covered h =
        let parts = and_parts (nat_lt 0 k) _ h in
        let some = ltb-true 0 k parts.0 in
        let cut = t.some some in
        let begins = under_begins o cut.cut low_o cut.lower cut.above in
        let front : take k (name_key o) ≡ name_key cut.cut = grind (arith, take-append_seam) in
        let under : at_or_below n cut.cut ≡ true = grind (arith, starts_under) in
        let octets = cut.octets in
        let short = no_shorter n cut.cut low_n cut.lower under in
        record {
          some = λ l. record {
            cut = cut.cut;
            lower = cut.lower;
            is_cut = cut.is_cut;
            above = under;
            octets = cut.octets;
          };
          least = λ c d is u. grind (arith, cuts c d is u, t.least c d is, between c o n, some, octets, short);
        }

    -- otherwise n is at or below no cut, except possibly itself
    pub uncovered : covers ≡ false → IsTopmost z n (cond (is_cut z n) (length (name_key n)) 0)
    uncovered h = alone n low_n (λ c d is u. go c d is u (cuts c d is u))
      where
        go : (c : DomainName) → folded c ≡ c → is_cut z c ≡ true → at_or_below n c ≡ true
            → (c ≡ n) ⊎ (is_gt (name_order c o) ≡ false) → c ≡ n
        go c d is u (inl e) = e
        go c d is u (inr p) =
            let under = between c o n p upto u in
            let least = t.least c d is under in
            let more = least.1 in
            let own = under_begins n c low_n d u in
            let other = under_begins o c low_o d under in
            let front : take k (name_key o) ≡ take k (name_key n) = grind (arith, take-append-le) in
            let short = no_shorter o c low_o d under in
            let size : length (take k (name_key o)) ≡ k = grind (arith, length-take, min-eq_left) in
            let starts = (octets_equal-decides (take k (name_key o))
            (take (length (take k (name_key o))) (name_key n))).1
            (front ∙ ap (λ i. take i (name_key n)) (sym size)) in
            absurd (false≢true (sym h ∙ and_from _ _ (lt-ltb 0 k least.0) starts))
