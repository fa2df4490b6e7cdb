-- The size of the unbounded layout is its length, and the least that sharing allows.
use Rattle.dns_spec.proofs.Common.{◌≡◌, ℕ, ◌+◌, ◌≤◌, true, List, [], ◌∷◌, ◌++◌, map, length, Option, None, Some, is_some, refl, ap, ap₂, sym, ◌∙◌, arith, false≢true, length-append, map-append, list_any, Octets, DomainName, Part, octets, name, ResourceRecord, Header, MessageQuestion, Item, pointer, Placed, Lookup, has_suffix, place_of, parts_of, Laid, Sharing, IsLawful, octets_by, data_by, record_by, records_by, unbounded_layout, unbounded_size}
use Rattle.dns_spec.proofs.Layouts.LayoutSize.{length-record_tail}

-- a suffix has a place if and only if an earlier name has it
pub placed : (ms : List Placed) (s : DomainName)
    → is_some (place_of ms s) ≡ list_any (λ (m : Placed). has_suffix m.0 s) ms
placed [] s = refl
placed (m ∷ ms) s = grind (arith, (placed ms s))

-- earlier names without their places
abbrev unplaced : List Placed → List DomainName
unplaced = map (λ (m : Placed). m.0)

unplaced-push : (ms : List Placed) (n : DomainName) (p : ℕ)
    → unplaced (ms ++ (n, p) ∷ []) ≡ unplaced ms ++ n ∷ []
unplaced-push ms n p = map-append (λ (m : Placed). m.0) ms ((n, p) ∷ [])

pub length-unbounded_layout : (h : Header) (q : Option MessageQuestion) (items : List Item)
    → length (unbounded_layout h q items) ≡ unbounded_size q items
unfolding unbounded_layout unbounded_size
length-unbounded_layout h q items = grind (arith, length-append)

-- a suffix that an earlier name has is found among the same names at other places
found_again : (ms ks : List Placed) (s : DomainName) → unplaced ms ≡ unplaced ks
    → list_any (λ (m : Placed). has_suffix m.0 s) ks ≡ true → is_some (place_of ms s) ≡ true
found_again ms ks s e h = placed ms s ∙ named ms ∙ ap (list_any (λ x. has_suffix x s)) e
    ∙ sym (named ks) ∙ h
  where
    named : (ns : List Placed) → list_any (λ (m : Placed). has_suffix m.0 s) ns
        ≡ list_any (λ x. has_suffix x s) (unplaced ns)
    named [] = refl
    named (m ∷ ns) = grind (arith, (named ns))

name_some : (find : Lookup) (ms : List Placed) (n : DomainName) → 1 ≤ length (octets_by find ms n)
unfolding octets_by
name_some find ms [] = omega arith
name_some find ms (l ∷ n) = go (find ms (l ∷ n))
  where
    go : (x : Option ℕ) → 1 ≤ length (elim x as (λ _. Octets)
        [ None ↦ length l ∷ (l ++ octets_by find ms n) | Some p ↦ pointer p ])
    go None = omega arith
    go (Some p) = omega arith

module _ (find : Lookup) (lawful : IsLawful find) where
  -- no lawful choice makes a name shorter than sharing the longest suffix
  name_least : (ms ks : List Placed) (n : DomainName) → unplaced ms ≡ unplaced ks
      → length (octets_by place_of ms n) ≤ length (octets_by find ks n)
  unfolding octets_by
  name_least ms ks [] e = omega arith
  name_least ms ks (l ∷ n) e =
      go (place_of ms (l ∷ n)) (find ks (l ∷ n)) refl refl (name_least ms ks n e)
    where
      go : (x y : Option ℕ) → place_of ms (l ∷ n) ≡ x → find ks (l ∷ n) ≡ y
          → length (octets_by place_of ms n) ≤ length (octets_by find ks n)
          → length (elim x as (λ _. Octets)
          [ None ↦ length l ∷ (l ++ octets_by place_of ms n) | Some p ↦ pointer p ])
          ≤ length (elim y as (λ _. Octets)
          [ None ↦ length l ∷ (l ++ octets_by find ks n) | Some p ↦ pointer p ])
      go (Some p) (Some o) f g h = omega arith
      go (Some p) None f g h = grind (arith, length-append, name_some)
      go None None f g h = grind (arith, length-append)
      go None (Some o) f g h = absurd (false≢true
          (sym (ap is_some f) ∙ found_again ms ks (l ∷ n) e (lawful ks (l ∷ n) o g)))

  -- data laid out in two ways has the same names, and the first is not longer
  record DataLeast (a b : Laid) : Type 0 where
    same : unplaced a.names ≡ unplaced b.names
    least : length a.written ≤ length b.written

  data_least : (ms ks : List Placed) (p o : ℕ) (ps : List Part) → unplaced ms ≡ unplaced ks
      → DataLeast (data_by place_of ms p ps) (data_by find ks o ps)
  unfolding data_by
  data_least ms ks p o [] e = record { same = refl; least = omega arith }
  data_least ms ks p o (octets x ∷ ps) e =
      let rest = data_least ms ks (p + length x) (o + length x) ps e in
      record { same = rest.same; least = grind (arith, length-append, rest) }
  data_least ms ks p o (name n ∷ ps) e =
      let w = octets_by place_of ms n in
      let v = octets_by find ks n in
      let more = unplaced-push ms n p ∙ ap (λ z. z ++ n ∷ []) e ∙ sym (unplaced-push ks n o) in
      let rest = data_least (ms ++ (n, p) ∷ []) (ks ++ (n, o) ∷ [])
      (p + length w) (o + length v) ps more in record {
        same = ap (λ z. n ∷ z) rest.same;
        least = grind (arith, length-append, rest, name_least);
      }

  records_least : (ms ks : List Placed) (p o : ℕ) (rs : List ResourceRecord)
      → unplaced ms ≡ unplaced ks
      → length (records_by place_of ms p rs) ≤ length (records_by find ks o rs)
  unfolding records_by
  records_least ms ks p o [] e = omega arith
  records_least ms ks p o (r ∷ rs) e =
      let w = octets_by place_of ms r.owner in
      let v = octets_by find ks r.owner in
      let l = record_by place_of ms p r in
      let k = record_by find ks o r in
      let more = unplaced-push ms r.owner p ∙ ap (λ z. z ++ r.owner ∷ []) e
      ∙ sym (unplaced-push ks r.owner o) in
      let inside = data_least (ms ++ (r.owner, p) ∷ []) (ks ++ (r.owner, o) ∷ [])
      (p + length w + 10) (o + length v + 10) (parts_of r) more in
      let later = map-append (λ (m : Placed). m.0) ms l.names
      ∙ ap₂ (λ y z. y ++ r.owner ∷ z) e inside.same
      ∙ sym (map-append (λ (m : Placed). m.0) ks k.names) in
      let rest = records_least (ms ++ l.names) (ks ++ k.names)
      (p + length l.written) (o + length k.written) rs later in
      grind (arith, length-append, length-record_tail, inside, rest, name_least)

pub unbounded_size_least : (q : Option MessageQuestion) (items : List Item) (z : ℕ)
    → Sharing q items z → unbounded_size q items ≤ z
unfolding unbounded_size
unbounded_size_least q items z s = grind (arith, records_least)
