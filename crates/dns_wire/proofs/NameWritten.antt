-- Once a name is laid out, it is one more earlier name: the message spells its suffixes, and their
-- offsets are kept.
use Rattle.dns_wire.proofs.Common.{◌≡◌, ℕ, zero, suc, ◌+◌, ◌-◌, ◌<◌, ◌≤◌, true, cond, nat_le, ◌⊎◌, inl, inr, List, [], ◌∷◌, ◌++◌, length, take, drop, replicate, slice_get, Option, None, Some, refl, sym, ap, ◌∙◌, subst, arith, append_assoc, append-nil, length-append, length-take-le, and_parts, leb-true, none-some, take-append-add, list_all, Octets, DomainName, wire, is_name, is_label, RunAt, ends, goes_on, jumps, Placed, has_suffix, suffix_place, place_of, shared_place, shared_octets, is_name-tail, Stands, begins_inside, suffix_from, suffix_to, place_again, place_pushed, shared_is, shared_to, shared_none, shared_whole, shared_pointed, shared_root, AfterLabel, Known, known_more, Kept, IsKept, front_size, pointed_offset, end_octets, new_offsets, Answers, Holds}
use Rattle.dns_wire.proofs.SuffixLemmas.{Left, next_label, front-as, front-root, pointed-as, pointed-root, kept-more}
use Rattle.dns_spec.proofs.General.Places.{get_more, take_within}
use Rattle.dns_spec.proofs.Layouts.SharedNames.{shared_some}

-- a name is laid out as its front and its end
pub shared_cut : (ms : List Placed) (n : DomainName)
    → shared_octets ms n ≡ take (front_size ms n) (wire n) ++ end_octets (pointed_offset ms n)
shared_cut ms [] = grind (arith, shared_root, wire, end_octets, front-root, pointed-root)
shared_cut ms (l ∷ n) = go (shared_place ms (l ∷ n)) refl (shared_cut ms n)
  where
    go : (x : Option ℕ) → shared_place ms (l ∷ n) ≡ x → shared_octets ms n ≡ take
        (front_size ms n) (wire n) ++ end_octets (pointed_offset ms n) → shared_octets ms (l ∷ n)
        ≡ take (front_size ms (l ∷ n)) (wire (l ∷ n)) ++ end_octets (pointed_offset ms (l ∷ n))
    go None e h =
        let more : take (1 + length l + front_size ms n) (wire (l ∷ n))
        ≡ length l ∷ (l ++ take (front_size ms n) (wire n)) =
        ap (λ k. take k (wire (l ∷ n))) (let z : 1 + length l + front_size ms n
        ≡ suc (length l + front_size ms n) = omega arith in z)
        ∙ ap (λ z. length l ∷ z) (take-append-add l (wire n) (front_size ms n)) in
        rw (shared_whole ms l n e, front-as ms l n e, pointed-as ms l n e, h, more, append_assoc)
        refl
    go (Some p) e h =
        rw (shared_pointed ms l n p e, front-as ms l n e, pointed-as ms l n e) refl

front_within : (ms : List Placed) (n : DomainName) → front_size ms n ≤ length (wire n)
unfolding front_size
front_within ms [] = omega (arith, front-root ms)
front_within ms (l ∷ n) = grind (arith, front_size, (front_within ms n), length-append)

-- the number of octets of a name's layout
length-shared : (ms : List Placed) (n : DomainName) → length (shared_octets ms n)
    ≡ front_size ms n + length (end_octets (pointed_offset ms n))
length-shared ms n = grind (arith, shared_cut, length-append, length-take-le, front_within)

-- the layout of a name with a label has at least two octets
at_least_two : (ms : List Placed) (l : Octets) (t : DomainName) (x : Option ℕ)
    → shared_place ms (l ∷ t) ≡ x → 2 ≤ length (shared_octets ms (l ∷ t))
at_least_two ms l t None e = grind (arith, shared_some, shared_whole, length-append)
at_least_two ms l t (Some p) e = omega (arith, ap length (shared_pointed ms l t p e))

-- a name does not fit if the labels before one that is left to compare leave no room for two octets
pub left_past : {head : Octets → ℕ} {b : Octets} {ks : List Kept} {name rest after : Octets}
    {k room : ℕ} → Left head b ks name rest → AfterLabel rest k after
    → room < length name - length rest + 2 → (ms : List Placed) (n : DomainName)
    → Holds head ms b ks → name ≡ wire n → is_name n ≡ true → room < length (shared_octets ms n)
left_past {name = name} {rest} left a past ms n holds e ok =
    let x = left.all ms n holds e ok in
    let f = next_label x.left x.spelled x.is_name a in
    let two = at_least_two ms f.label f.labels (shared_place ms (f.label ∷ f.labels)) refl in
    grind (arith, length-shared)

run_more : {b : Octets} {s i e : ℕ} {n : DomainName} (x : Octets)
    → RunAt b s i n e → RunAt (b ++ x) s i n e
run_more {b} x (ends i at) = ends i (get_more b x i 0 at)
run_more {b} x (goes_on i k l n e at some short within is rest) =
    goes_on i k l n e (get_more b x i k at) some short (omega (arith, within, length-append b x))
    (is ∙ sym (take_within b x (i + 1) k within)) (run_more x rest)
run_more {b} x (jumps i o o' p n e at high at' is from before rest) =
    jumps i o o' p n e
    (get_more b x i o at) high (get_more b x (i + 1) o' at') is from before (run_more x rest)

-- an offset that is kept is kept in a longer list too
pub kept_left : (ks more : List Kept) (p h : ℕ) → IsKept ks p h → IsKept (ks ++ more) p h
kept_left ks more p h kept = (kept.0, get_more ks more kept.0 _ kept.1)

pub kept_right : (ks more : List Kept) (p h : ℕ) → IsKept more p h → IsKept (ks ++ more) p h
kept_right [] more p h kept = kept
kept_right (y ∷ ks) more p h kept = let r = kept_right ks more p h kept in (suc r.0, r.1)

pub kept_split : (ks more : List Kept) (p h : ℕ)
    → IsKept (ks ++ more) p h → IsKept ks p h ⊎ IsKept more p h
kept_split [] more p h kept = inr kept
kept_split (y ∷ ks) more p h (zero, at) = inl (zero, at)
kept_split (y ∷ ks) more p h (suc k, at) = elim (kept_split ks more p h (k, at)) [
  | inl a ↦ inl (suc a.0, a.1)
  | inr b ↦ inr b
]

-- the offset of each suffix that no earlier name has is kept, if a pointer reaches it
pub kept_complete : (head : Octets → ℕ) (ms : List Placed) (n front : DomainName)
    (l : Octets) (t : DomainName) (i p : ℕ) → n ≡ front ++ l ∷ t → place_of ms (l ∷ t) ≡ None
    → length (wire (l ∷ t)) ≤ length (wire n) → i + (length (wire n) - length (wire (l ∷ t))) ≡ p
    → p < 16384 → IsKept (new_offsets head ms n i) p (head (wire (l ∷ t)))
kept_complete head ms n [] l t i p e none short at low =
    grind (arith, kept-more, shared_none, slice_get)
kept_complete head ms [] (x ∷ front) l t i p e none short at low = grind arith
kept_complete head ms (k ∷ n) (x ∷ front) l t i p e none short at low =
    let tail : n ≡ front ++ l ∷ t = ap (λ (y : DomainName). drop 1 y) e in
    let out = shared_none ms
    (k ∷ n) (place_again ms (k ∷ n) (l ∷ t) (record { front = x ∷ front; whole = e }) none) in
    let inside : length (wire (l ∷ t)) ≤ length (wire n) =
    (begins_inside ms n front l t tail none).0 in
    let next : i + 1 + length k + (length (wire n) - length (wire (l ∷ t))) ≡ p =
    omega (arith, at, inside, length-append k (wire n)) in
    let r = kept_complete head ms n front l t (i + 1 + length k) p tail none inside next low in
    let more = kept-more head ms k n i out (omega (arith, at, low)) in
    (suc r.0, ap (λ x. slice_get x (suc r.0)) more ∙ r.1)

-- and each offset that is kept is the offset of a suffix that was not shared
pub record NewSuffix (ms : List Placed) (n : DomainName) (i p : ℕ) : Type 0 where
  pub label : Octets
  pub labels : DomainName
  pub front : DomainName
  pub whole : n ≡ front ++ label ∷ labels
  pub unshared : shared_place ms (label ∷ labels) ≡ None
  pub distance : ℕ
  pub offset : p ≡ i + distance
  pub wire_length : length (wire n) ≡ distance + length (wire (label ∷ labels))
  pub low : p < 16384

pub kept_sound : (head : Octets → ℕ) (ms : List Placed) (n : DomainName) (i p h : ℕ)
    → IsKept (new_offsets head ms n i) p h → NewSuffix ms n i p
unfolding new_offsets
kept_sound head ms [] i p h (k, at) = absurd (none-some _ at)
kept_sound head ms (l ∷ n) i p h (zero, at) = record {
  label = l;
  labels = n;
  front = [];
  whole = refl;
  unshared = grind (arith, new_offsets);
  distance = 0;
  offset = grind (arith, new_offsets);
  wire_length = omega arith;
  low = grind (arith, new_offsets, leb-true);
}
kept_sound head ms (l ∷ n) i p h (suc k, at) =
    let after : slice_get (new_offsets head ms n (i + 1 + length l)) k
    ≡ Some (record { offset = p; number = h }) = grind (arith, new_offsets) in
    let s = kept_sound head ms n (i + 1 + length l) p h (k, after) in
    record {
      label = s.label;
      labels = s.labels;
      front = l ∷ s.front;
      whole = ap (λ x. l ∷ x) s.whole;
      unshared = s.unshared;
      distance = 1 + length l + s.distance;
      offset = omega (arith, s.offset);
      wire_length = omega (arith, s.wire_length, length-append l (wire n));
      low = s.low;
    }

-- the offset of a suffix does not change if more names follow
pub place_left : (ms more : List Placed) (s : DomainName) (p : ℕ)
    → place_of ms s ≡ Some p → place_of (ms ++ more) s ≡ Some p
place_left [] more s p e = absurd (none-some p e)
place_left (k ∷ ms) more s p e = grind (arith, (place_left ms more s p))

pub place_new : (ms : List Placed) (m : Placed) (s : DomainName) → place_of ms s ≡ None
    → has_suffix m.0 s ≡ true → place_of (ms ++ m ∷ []) s ≡ Some (suffix_place m s)
place_new [] m s e is = ap (λ t. cond t (Some (suffix_place m s)) None) is
place_new (k ∷ ms) m s e is = grind (arith, (place_new ms m s), none-some)

pub is_name-suffix : (front s : DomainName) → is_name (front ++ s) ≡ true → is_name s ≡ true
is_name-suffix [] s h = h
is_name-suffix (k ∷ front) s h = is_name-suffix front s (is_name-tail k (front ++ s) h)

module _ (head : Octets → ℕ) (ms : List Placed) (b : Octets)
    (ks : List Kept) (holds : Holds head ms b ks) (n : DomainName) (ok : is_name n ≡ true) where
  answers_more : Answers head (ms ++ (n, length b) ∷ []) (ks ++ new_offsets head ms n (length b))
  answers_more = record { complete = complete; sound = sound }
    where
      complete : (l : Octets) (t : DomainName) (p : ℕ) → shared_place (ms ++ (n, length b) ∷ [])
          (l ∷ t) ≡ Some p → IsKept (ks ++ new_offsets head ms n (length b)) p (head (wire (l ∷ t)))
      complete l t p e = let here = shared_is (ms ++ (n, length b) ∷ []) (l ∷ t) p e in
          elim (place_pushed ms (n, length b) (l ∷ t) p here.0) [
            | inl f ↦ kept_left ks (new_offsets head ms n (length b)) p (head (wire (l ∷ t)))
                (holds.answers.complete l t p (shared_to ms (l ∷ t) p f here.1))
            | inr f ↦
                let s = suffix_from n (l ∷ t) f.1 in
                let short = (begins_inside ms n s.front l t s.whole f.0).0 in
                kept_right ks (new_offsets head ms n (length b)) p (head (wire (l ∷ t)))
                (kept_complete head ms n s.front l t (length b) p s.whole f.0 short f.2 here.1)
          ]

      sound : (p h : ℕ)
          → IsKept (ks ++ new_offsets head ms n (length b)) p h → (l : Octets) × (t : DomainName)
          × (shared_place (ms ++ (n, length b) ∷ []) (l ∷ t) ≡ Some p) × (is_name (l ∷ t) ≡ true)
      sound p h kept = go (kept_split ks (new_offsets head ms n (length b)) p h kept)
        where
          go : IsKept ks p h ⊎ IsKept (new_offsets head ms n (length b)) p h → (l : Octets)
              × (t : DomainName) × (shared_place (ms ++ (n, length b) ∷ []) (l ∷ t) ≡ Some p)
              × (is_name (l ∷ t) ≡ true)
          go (inl old) =
              let s = holds.answers.sound p h old in
              let is = shared_is ms (s.0 ∷ s.1) p s.2 in (
                s.0,
                s.1,
                shared_to (ms ++ (n, length b) ∷ [])
                    (s.0 ∷ s.1) p (place_left ms ((n, length b) ∷ []) (s.0 ∷ s.1) p is.0) is.1,
                s.3,
              )
          go (inr new) =
              let s = kept_sound head ms n (length b) p h new in
              let suffix : DomainName = s.label ∷ s.labels in
              let has = suffix_to n suffix (record { front = s.front; whole = s.whole }) in
              let offset = s.offset in
              let low = s.low in
              let before = holds.before s.label s.labels in
              let at : suffix_place (n, length b) suffix ≡ p =
              omega (arith, offset, s.wire_length) in
              let none : place_of ms suffix ≡ None =
              grind (arith, before, (shared_to ms suffix), s.unshared, offset) in
              let pushed = place_new ms (n, length b) suffix none has ∙ ap Some at in (
                s.label,
                s.labels,
                shared_to (ms ++ (n, length b) ∷ []) suffix p pushed low,
                is_name-suffix s.front suffix (subst (λ x. is_name x ≡ true) s.whole ok),
              )

  pub holds_name : Holds head
      (ms ++ (n, length b) ∷ []) (b ++ shared_octets ms n) (ks ++ new_offsets head ms n (length b))
  holds_name = record {
    spelled = spelled;
    before = before;
    after_header =
        let h = holds.after_header in omega (arith, h, length-append b w);
    answers = answers_more;
  }
    where
      w : Octets
      w = shared_octets ms n

      known : Known (b ++ shared_octets ms n) (length b) ms
      known l t p e =
          let s = holds.spelled l t p e in
          record {
            header = s.0;
            earlier = s.1;
            end = s.2;
            spelled = run_more (shared_octets ms n) s.3;
          }

      stands : Stands (b ++ shared_octets ms n) (length b) (shared_octets ms n)
      stands = record {
        before = b;
        after = [];
        whole = ap (λ z. b ++ z) (sym (append-nil (shared_octets ms n)));
        place = refl;
      }

      spelled : (l : Octets) (t : DomainName) (p : ℕ) → shared_place (ms ++ (n, length b) ∷ [])
          (l ∷ t) ≡ Some p → (12 ≤ p) × (p < length (b ++ shared_octets ms n))
          × (e : ℕ) × RunAt (b ++ shared_octets ms n) p p (l ∷ t) e
      spelled l t p e =
          let labels = (and_parts (list_all is_label n) (nat_le (length (wire n)) 255) ok).0 in
          let f = known_more (b ++ shared_octets ms n) (length b) ms known n
          (length b) (omega arith) holds.after_header labels stands l t p e in
          let earlier = f.earlier in
          (f.header, omega (arith, earlier, length-append b (shared_octets ms n)), f.end, f.spelled)

      before : (l : Octets) (t : DomainName) (p : ℕ) → place_of
          (ms ++ (n, length b) ∷ []) (l ∷ t) ≡ Some p → p < length (b ++ shared_octets ms n)
      before l t p e =
          elim (place_pushed ms (n, length b) (l ∷ t) p e) [
            | inl f ↦
                let old = holds.before l t p f in
                omega (arith, old, length-append b (shared_octets ms n))
            | inr f ↦
                let s = suffix_from n (l ∷ t) f.1 in
                let inside = (begins_inside ms n s.front l t s.whole f.0).1 in
                omega (arith, inside, f.2, length-append b (shared_octets ms n))
          ]

-- appending octets that are not a name changes nothing
pub holds_octets : {head : Octets → ℕ} {ms : List Placed} {b : Octets} {ks : List Kept} (x : Octets)
    → Holds head ms b ks → Holds head ms (b ++ x) ks
holds_octets {b = b} x holds = grind (arith, length-append, run_more)

-- before the first name nothing is shared
pub holds_nothing : (head : Octets → ℕ) → Holds head [] (replicate 12 0) []
holds_nothing head = grind (arith, none-some)
