-- A name that shares a suffix with an earlier name is read back. A suffix of it that no earlier
-- name has begins at the place that `place_of` gives for later names.
use Rattle.dns_spec.proofs.Common.{◌≡◌, ℕ, ◌+◌, ◌-◌, ◌/◌, ◌%◌, ◌<◌, ◌≤◌, Bool, true, false, cond, nat_le, ◌⊎◌, inl, inr, List, [], ◌∷◌, ◌++◌, length, take, drop, Option, None, Some, refl, sym, ap, ap₂, ◌∙◌, subst, arith, append_assoc, length-append, take-append-drop, drop_at, and_parts, and_from, le-leb, leb-true, none-some, same_Some, cond_some, list_all, Octets, DomainName, wire, is_label, is_name, names_equal, last_labels, RunAt, ends, goes_on, jumps, reach, pointer, Placed, has_suffix, suffix_place, place_of, reached, shared_place, shared_octets, octets_by, name_at}
use Rattle.dns_spec.proofs.Messages.Places.{Stands, stands_front, stands_rest, stands_after, stands_within, stands_get, stands_take, label_parts}
use Rattle.dns_spec.proofs.Messages.NameReading.{name_computed}
use Rattle.dns_spec.proofs.DomainNames.NameLaws.{names_equal-decides}

-- s is a suffix of n
pub record Suffix (n s : DomainName) : Type 0 where
  pub front : DomainName
  pub whole : n ≡ front ++ s

pub suffix_from : (n s : DomainName) → has_suffix n s ≡ true → Suffix n s
suffix_from n s h =
    let p = and_parts (nat_le (length s) (length n)) (names_equal (last_labels (length s) n) s) h in
    let k = length n - length s in
    record {
      front = take k n;
      whole = grind (arith, take-append-drop, names_equal-decides, p);
    }

pub suffix_to : (n s : DomainName) → Suffix n s → has_suffix n s ≡ true
suffix_to n s h = grind (arith, length-append, drop_at, and_from, le-leb, names_equal-decides)

pub suffix_again : (m n s : DomainName) → Suffix m n → Suffix n s → Suffix m s
suffix_again m n s h g = record {
  front = h.front ++ g.front;
  whole = h.whole ∙ ap (λ x. h.front ++ x) g.whole ∙ sym (append_assoc h.front g.front s);
}

-- if no earlier name ends with s, no earlier name ends with a name that ends with s
pub place_again : (ms : List Placed) (n s : DomainName)
    → Suffix n s → place_of ms s ≡ None → place_of ms n ≡ None
place_again [] n s h e = refl
place_again (m ∷ ms) n s h e = go (has_suffix m.0 s) refl e (place_again ms n s h)
  where
    other : (t : Bool) → has_suffix m.0 n ≡ t → has_suffix m.0 s ≡ false
        → place_of ms n ≡ None → cond t (Some (suffix_place m n)) (place_of ms n) ≡ None
    other true p q f = grind (arith, suffix_to, suffix_again, suffix_from)
    other false p q f = f

    go : (t : Bool) → has_suffix m.0 s ≡ t → cond t (Some (suffix_place m s)) (place_of ms s) ≡ None
        → (place_of ms s ≡ None → place_of ms n ≡ None)
        → cond (has_suffix m.0 n) (Some (suffix_place m n)) (place_of ms n) ≡ None
    go true p q f = absurd (none-some (suffix_place m s) (sym q))
    go false p q f = other (has_suffix m.0 n) refl p (f q)

-- the place of a suffix among earlier names and one more name: in that last name only if no earlier
-- name has the suffix
pub place_pushed : (ms : List Placed) (m : Placed) (s : DomainName) (p : ℕ)
    → place_of (ms ++ m ∷ []) s ≡ Some p → (place_of ms s ≡ Some p)
    ⊎ ((place_of ms s ≡ None) × (has_suffix m.0 s ≡ true) × (suffix_place m s ≡ p))
place_pushed [] m s p e = grind (arith, inr, same_Some, none-some)
place_pushed (k ∷ ms) m s p e = grind (arith, inl, (place_pushed ms m s p))

-- a shared place is the place of the suffix, and a pointer reaches it
pub shared_is : (ms : List Placed) (s : DomainName) (p : ℕ)
    → shared_place ms s ≡ Some p → (place_of ms s ≡ Some p) × (p < reach)
shared_is ms s p e = grind (arith, none-some, cond_some, leb-true)

pub shared_to : (ms : List Placed) (s : DomainName) (p : ℕ)
    → place_of ms s ≡ Some p → p < reach → shared_place ms s ≡ Some p
shared_to ms s p e low = grind (arith, le-leb)

pub shared_none : (ms : List Placed) (s : DomainName)
    → place_of ms s ≡ None → shared_place ms s ≡ None
shared_none ms s e = ap reached e

-- the two octets of a pointer give its place
pub pointer_octets : (p : ℕ) → p < reach → pointer p ≡ (192 + p / 256) ∷ p % 256 ∷ []
pointer_octets p h = ap₂ (λ x y. x ∷ y ∷ []) (omega arith) (omega arith)

-- What is known about earlier names: at the place of a suffix, the octets spell that suffix.
pub record Found (b : Octets) (bound : ℕ) (s : DomainName) (p : ℕ) : Type 0 where
  pub header : 12 ≤ p
  pub earlier : p < bound
  pub end : ℕ
  pub spelled : RunAt b p p s end

abbrev pub Known : Octets → ℕ → List Placed → Type 0
Known b bound ms = (l : Octets) (n : DomainName) (p : ℕ)
    → shared_place ms (l ∷ n) ≡ Some p → Found b bound (l ∷ n) p

pub known_later : (b : Octets) (bound bound' : ℕ) (ms : List Placed)
    → bound ≤ bound' → Known b bound ms → Known b bound' ms
known_later b bound bound' ms h k l n p e =
    let f = k l n p e in
    record {
      header = f.header;
      earlier = let g = f.earlier in omega (arith, g);
      end = f.end;
      spelled = f.spelled;
    }

-- how a name is laid out: with its first label, as a pointer, or as the root
pub shared_whole : (ms : List Placed) (l : Octets) (n : DomainName) → shared_place ms (l ∷ n) ≡ None
    → shared_octets ms (l ∷ n) ≡ length l ∷ (l ++ shared_octets ms n)
unfolding octets_by
shared_whole ms l n e = grind arith

pub shared_pointed : (ms : List Placed) (l : Octets) (n : DomainName) (p : ℕ)
    → shared_place ms (l ∷ n) ≡ Some p → shared_octets ms (l ∷ n) ≡ pointer p
unfolding octets_by
shared_pointed ms l n p e = grind arith

pub shared_root : (ms : List Placed) → shared_octets ms [] ≡ 0 ∷ []
unfolding octets_by
shared_root ms = refl

-- at least one octet is laid out for a name
pub shared_some : (ms : List Placed) (n : DomainName) → 0 < length (shared_octets ms n)
shared_some ms [] = let e = ap length (shared_root ms) in omega (arith, e)
shared_some ms (l ∷ n) = go (shared_place ms (l ∷ n)) refl
  where
    go : (y : Option ℕ) → shared_place ms (l ∷ n) ≡ y → 0 < length (shared_octets ms (l ∷ n))
    go None e = let w = ap length (shared_whole ms l n e) in omega (arith, w)
    go (Some k) e = let w = ap length (shared_pointed ms l n k e) in omega (arith, w)

-- the name is read from the octets laid out for it
module _ (b : Octets) (bound : ℕ) (ms : List Placed) (known : Known b bound ms) where
  run_shared : (n : DomainName) (s i : ℕ) → bound ≤ s → list_all is_label n ≡ true
      → Stands b i (shared_octets ms n) → RunAt b s i n (i + length (shared_octets ms n))
  run_shared [] s i h name at =
      subst (λ x. RunAt b s i [] (i + length x))
      (sym (shared_root ms)) (ends i (stands_get 0 [] (subst (Stands b i) (shared_root ms) at)))
  run_shared (l ∷ n) s i h name at =
      go (shared_place ms (l ∷ n)) refl (λ j next. run_shared n s j h p.1 next)
    where
      p : (is_label l ≡ true) × (list_all is_label n ≡ true)
      p = and_parts (is_label l) (list_all is_label n) name

      rest : Octets
      rest = shared_octets ms n

      go : (y : Option ℕ) → shared_place ms (l ∷ n) ≡ y → ((j : ℕ)
          → Stands b j (shared_octets ms n) → RunAt b s j n (j + length (shared_octets ms n)))
          → RunAt b s i (l ∷ n) (i + length (shared_octets ms (l ∷ n)))
      go None e again =
          let w = shared_whole ms l n e in
          let here : Stands b i (length l ∷ (l ++ shared_octets ms n)) = subst (Stands b i) w at in
          let tail : Stands b (i + 1) (l ++ shared_octets ms n) =
          stands_after 1 (length l ∷ []) (l ++ shared_octets ms n) refl here in
          let front : Stands b (i + 1) l = stands_front l (shared_octets ms n) tail in
          let q = label_parts l p.0 in
          let end : i + 1 + length l + length (shared_octets ms n) ≡ i + length (shared_octets ms
          (l ∷ n)) = omega (arith, ap length w, length-append l (shared_octets ms n)) in
          subst (RunAt b s i (l ∷ n)) end
          (goes_on i (length l) l n (i + 1 + length l + length (shared_octets ms n))
          (stands_get (length l) (l ++ shared_octets ms n) here) q.0 q.1
          (stands_within l front) (sym (stands_take l front))
          (again (i + 1 + length l) (stands_rest l (shared_octets ms n) tail)))
      go (Some k) e again =
          let f = known l n k e in
          let w = shared_pointed ms l n k e ∙ pointer_octets k (shared_is ms (l ∷ n) k e).1 in
          let here : Stands b i ((192 + k / 256) ∷ k % 256 ∷ []) = subst (Stands b i) w at in
          let second : Stands b (i + 1) (k % 256 ∷ []) =
          stands_after 1 ((192 + k / 256) ∷ []) (k % 256 ∷ []) refl here in
          let before = f.earlier in
          subst (λ x. RunAt b s i (l ∷ n) (i + length x)) (sym w)
          (jumps i (192 + k / 256) (k % 256) k (l ∷ n) f.end
          (stands_get (192 + k / 256) (k % 256 ∷ []) here) (omega arith) (stands_get
          (k % 256) [] second) (omega arith) f.header (omega (arith, before)) f.spelled)

  -- a suffix that no earlier name has is at its place in the name
  record Standing (n : DomainName) (i : ℕ) (s : DomainName) : Type 0 where
    short : length (wire s) ≤ length (wire n)
    inside : length (wire n) - length (wire s) < length (shared_octets ms n)
    stands : Stands b (i + (length (wire n) - length (wire s))) (shared_octets ms s)

  standing : (n : DomainName) (i : ℕ) (l : Octets) (t : DomainName) (front : DomainName)
      → n ≡ front ++ (l ∷ t)
      → place_of ms (l ∷ t) ≡ None → Stands b i (shared_octets ms n) → Standing n i (l ∷ t)
  standing n i l t [] e none at = grind (arith, shared_some, Stands)
  standing [] i l t (x ∷ front) e none at = absurd (let z = ap length e in omega (arith, z))
  standing (k ∷ n) i l t (x ∷ front) e none at =
      let tail : n ≡ front ++ (l ∷ t) = ap (λ (y : DomainName). drop 1 y) e in
      let out = place_again ms (k ∷ n) (l ∷ t) (record { front = x ∷ front; whole = e }) none in
      let w = shared_whole ms k n (shared_none ms (k ∷ n) out) in
      let here : Stands b i (length k ∷ (k ++ shared_octets ms n)) = subst (Stands b i) w at in
      let next : Stands b (i + 1 + length k) (shared_octets ms n) = stands_rest k (shared_octets
      ms n) (stands_after 1 (length k ∷ []) (k ++ shared_octets ms n) refl here) in
      let r = standing n (i + 1 + length k) l t front tail none next in
      let short = r.short in
      let inside = r.inside in
      let longer : length (wire (k ∷ n)) ≡ 1 + length k + length (wire n) =
      omega (arith, length-append k (wire n)) in
      let place : i + 1 + length k + (length (wire n) - length (wire (l ∷ t)))
      ≡ i + (length (wire (k ∷ n)) - length (wire (l ∷ t))) = omega (arith, longer, short) in
      record {
        short = omega (arith, longer, short);
        inside = grind (arith, length-append);
        stands = subst (λ y. Stands b y (shared_octets ms (l ∷ t))) place r.stands;
      }

  labels_after : (front s : DomainName)
      → list_all is_label (front ++ s) ≡ true → list_all is_label s ≡ true
  labels_after [] s h = h
  labels_after (k ∷ front) s h =
      labels_after front s (and_parts (is_label k) (list_all is_label (front ++ s)) h).1

  -- the name that was laid out becomes an earlier name
  pub known_more : (n : DomainName) (i : ℕ)
      → bound ≤ i → 12 ≤ i → list_all is_label n ≡ true → Stands b i (shared_octets ms n)
      → Known b (i + length (shared_octets ms n)) (ms ++ (n, i) ∷ [])
  known_more n i after header name at l t p e = let here = shared_is
      (ms ++ (n, i) ∷ []) (l ∷ t) p e in go (place_pushed ms (n, i) (l ∷ t) p here.0) here.1
    where
      go : (place_of ms (l ∷ t) ≡ Some p) ⊎ ((place_of ms (l ∷ t) ≡ None)
          × (has_suffix n (l ∷ t) ≡ true) × (suffix_place (n, i) (l ∷ t) ≡ p))
          → p < reach → Found b (i + length (shared_octets ms n)) (l ∷ t) p
      go (inl f) low = known_later b bound (i + length (shared_octets ms n)) ms
          (omega arith) known l t p (shared_to ms (l ∷ t) p f low)
      go (inr f) low =
          let s = suffix_from n (l ∷ t) f.1 in
          let r = standing n i l t s.front s.whole f.0 at in
          let inside = r.inside in
          let labels =
          labels_after s.front (l ∷ t) (subst (λ x. list_all is_label x ≡ true) s.whole name) in
          let j : ℕ = i + (length (wire n) - length (wire (l ∷ t))) in
          subst (Found b (i + length (shared_octets ms n)) (l ∷ t)) f.2
          (record {
            header = omega arith;
            earlier = omega (arith, inside);
            end = j + length (shared_octets ms (l ∷ t));
            spelled = run_shared (l ∷ t) j j (omega arith) labels r.stands;
          })

  pub name_shared : (n : DomainName) (i : ℕ) → bound ≤ i → is_name n ≡ true
      → Stands b i (shared_octets ms n) → name_at b i ≡ Some (n, i + length (shared_octets ms n))
  name_shared n i after name at = name_computed b i n (i + length (shared_octets ms n))
      (run_shared n i i after (and_parts (list_all is_label n) _ name).0 at, name)

-- without earlier names nothing is shared
pub nothing_known : (b : Octets) (bound : ℕ) → Known b bound []
nothing_known b bound l n p e = absurd (none-some p e)

pub shared_alone : (n : DomainName) → shared_octets [] n ≡ wire n
shared_alone [] = shared_root []
shared_alone (l ∷ n) = shared_whole [] l n refl ∙ ap (λ x. length l ∷ (l ++ x)) (shared_alone n)
