-- Up to 16,384 octets the layout is the unbounded one: a pointer reaches all its places.
use Rattle.dns_spec.proofs.Common.{◌≡◌, ℕ, ◌+◌, ◌-◌, ◌<◌, ◌≤◌, true, ◌⊎◌, inl, inr, List, [], ◌∷◌, ◌++◌, length, drop, Option, None, Some, refl, sym, ap, ◌∙◌, subst, arith, append_assoc, append-nil, length-append, Octets, DomainName, wire, Part, octets, name, ResourceRecord, Header, MessageQuestion, reach, Item, Placed, Lookup, shared_place, has_suffix, suffix_place, place_of, shared_octets, Laid, laid_front, data_laid, record_laid, parts_of, record_tail, records_octets, layout, size, octets_by, data_by, record_by, records_by, unbounded_layout, unbounded_size}
use Rattle.dns_spec.proofs.Layouts.LayoutSize.{length-layout, length-record_tail}
use Rattle.dns_spec.proofs.Layouts.UnboundedSize.{length-unbounded_layout}
use Rattle.dns_spec.proofs.Layouts.SharedNames.{suffix_from, place_again, place_pushed, shared_none, shared_whole, shared_some}

-- a pointer reaches all places of earlier names
abbrev Low : List Placed → Type 0
Low ms = (l : Octets) (n : DomainName) (p : ℕ) → place_of ms (l ∷ n) ≡ Some p → p < reach

same_octets : (ms : List Placed)
    → Low ms → (n : DomainName) → shared_octets ms n ≡ octets_by place_of ms n
unfolding octets_by
same_octets ms low [] = refl
same_octets ms low (l ∷ n) = grind (arith, (same_octets ms low n))

-- a suffix that no earlier name has begins among the octets laid out for the name
pub begins_inside : (ms : List Placed) (n front : DomainName) (l : Octets) (t : DomainName)
    → n ≡ front ++ l ∷ t → place_of ms (l ∷ t) ≡ None → (length (wire (l ∷ t)) ≤ length (wire n))
    × (length (wire n) - length (wire (l ∷ t)) < length (shared_octets ms n))
begins_inside ms n [] l t e none = grind (arith, shared_some)
begins_inside ms [] (x ∷ front) l t e none = absurd (let z = ap length e in omega (arith, z))
begins_inside ms (k ∷ n) (x ∷ front) l t e none =
    let r = begins_inside ms n front l t (ap (λ (y : DomainName). drop 1 y) e) none in
    let out = shared_none ms
    (k ∷ n) (place_again ms (k ∷ n) (l ∷ t) (record { front = x ∷ front; whole = e }) none) in
    let longer : length (wire (k ∷ n)) ≡ 1 + length k + length (wire n) =
    omega (arith, length-append k (wire n)) in
    let short = r.0 in
    let inside = r.1 in grind (arith, shared_whole, length-append, octets_by)

low_more : (ms : List Placed) → Low ms
    → (n : DomainName) (i : ℕ) → i + length (shared_octets ms n) ≤ reach → Low (ms ++ (n, i) ∷ [])
low_more ms low n i room l t p e = go (place_pushed ms (n, i) (l ∷ t) p e)
  where
    go : (place_of ms (l ∷ t) ≡ Some p) ⊎ ((place_of ms (l ∷ t) ≡ None)
        × (has_suffix n (l ∷ t) ≡ true) × (suffix_place (n, i) (l ∷ t) ≡ p)) → p < reach
    go (inl f) = low l t p f
    go (inr f) =
        let s = suffix_from n (l ∷ t) f.1 in
        let inside = (begins_inside ms n s.front l t s.whole f.0).1 in
        let at = f.2 in
        omega (arith, inside, at, room)

-- x or y, from place p on, ends within reach
abbrev Ends : ℕ → Octets → Octets → Type 0
Ends p x y = (p + length x ≤ reach) ⊎ (p + length y ≤ reach)

-- if octets and the octets after them end within reach, so do the first alone; and the octets after
-- them, from their own place on
ends_front : (p : ℕ) (w x y : Octets) → Ends p (w ++ x) (w ++ y) → p + length w ≤ reach
ends_front p w x y h = grind (arith, length-append)

ends_rest : (p k : ℕ) (w x y : Octets) → p + length w ≡ k → Ends p (w ++ x) (w ++ y) → Ends k x y
ends_rest p k w x y h h1 = grind (arith, length-append)

record SameData (ms : List Placed) (a b : Laid) : Type 0 where
  same : a ≡ b
  low : Low (ms ++ a.names)

-- both layouts of data are the same; if so, they are also the same with a part in front
abbrev Again : List Part → Type 0
Again ps = (ms : List Placed) (p : ℕ) → Low ms → Ends p (data_laid ms p ps).written
    (data_by place_of ms p ps).written → SameData ms (data_laid ms p ps) (data_by place_of ms p ps)

same_name : (ms : List Placed) (p : ℕ) (n : DomainName) (ps : List Part) → Low ms → Again ps
    → Ends p (data_laid ms p (name n ∷ ps)).written (data_by place_of ms p (name n ∷ ps)).written
    → SameData ms (data_laid ms p (name n ∷ ps)) (data_by place_of ms p (name n ∷ ps))
unfolding data_by
same_name ms p n ps low again = subst Same (same_octets ms low n) same
  where
    Named : Lookup → Octets → Laid
    Named find x =
        laid_front x ((n, p) ∷ []) (data_by find (ms ++ (n, p) ∷ []) (p + length x) ps)

    Same : Octets → Type 0
    Same x =
        let own = Named shared_place (shared_octets ms n) in
        Ends p own.written (Named place_of x).written → SameData ms own (Named place_of x)

    same : Same (shared_octets ms n)
    same ends =
        let o = shared_octets ms n in
        let earlier = ms ++ (n, p) ∷ [] in
        let next : ℕ = p + length o in
        let later = data_laid earlier next ps in
        let others = data_by place_of earlier next ps in
        let r = again earlier next (low_more ms low n p (ends_front p o later.written
        others.written ends)) (ends_rest p next o later.written others.written refl ends) in
        record {
          same = ap (laid_front o ((n, p) ∷ [])) r.same;
          low = subst Low (append_assoc ms ((n, p) ∷ []) later.names) r.low;
        }

same_data : (ps : List Part) → Again ps
unfolding data_by
same_data [] ms p low ends = record { same = refl; low = subst Low (sym (append-nil ms)) low }
same_data (octets o ∷ ps) ms p low ends =
    let next : ℕ = p + length o in
    let r = same_data ps ms next low (ends_rest p next o
    (data_laid ms next ps).written (data_by place_of ms next ps).written refl ends) in
    record { same = ap (laid_front o []) r.same; low = r.low }
same_data (name n ∷ ps) ms p low ends = same_name ms p n ps low (same_data ps) ends

-- both layouts of a record are the same
same_record : (ms : List Placed) (p : ℕ) (r : ResourceRecord)
    → Low ms → Ends p (record_laid ms p r).written (record_by place_of ms p r).written
    → SameData ms (record_laid ms p r) (record_by place_of ms p r)
same_record ms p r low = subst Same (same_octets ms low r.owner) same
  where
    Laying : Lookup → Octets → Laid
    Laying find o =
        let d = data_by find (ms ++ (r.owner, p) ∷ []) (p + length o + 10) (parts_of r) in
        record { written = o ++ record_tail r d.written; names = (r.owner, p) ∷ d.names }

    Same : Octets → Type 0
    Same x =
        let own = Laying shared_place (shared_octets ms r.owner) in
        Ends p own.written (Laying place_of x).written → SameData ms own (Laying place_of x)

    same : Same (shared_octets ms r.owner)
    same ends =
        let o = shared_octets ms r.owner in
        let earlier = ms ++ (r.owner, p) ∷ [] in
        let next : ℕ = p + length o + 10 in
        let d = data_laid earlier next (parts_of r) in
        let e = data_by place_of earlier next (parts_of r) in
        let front = ends_front p o (record_tail r d.written) (record_tail r e.written) ends in
        let tail : Ends (p + length o) (record_tail r d.written) (record_tail r e.written) =
        ends_rest p
        (p + length o) o (record_tail r d.written) (record_tail r e.written) refl ends in
        let s = same_data (parts_of r) earlier next
        (low_more ms low r.owner p front) (after d.written e.written tail) in
        record {
          same = ap (λ (z : Laid).
              record { written = o ++ record_tail r z.written; names = (r.owner, p) ∷ z.names })
              s.same;
          low = subst Low (append_assoc ms ((r.owner, p) ∷ []) d.names) s.low;
        }
      where
        after : (x y : Octets) → Ends (p + length (shared_octets ms r.owner)) (record_tail r x)
            (record_tail r y) → Ends (p + length (shared_octets ms r.owner) + 10) x y
        after x y (inl h) = inl (omega (arith, h, length-record_tail r x))
        after x y (inr h) = inr (omega (arith, h, length-record_tail r y))

same_records : (ms : List Placed) (p : ℕ) (rs : List ResourceRecord)
    → Low ms → Ends p (records_octets ms p rs) (records_by place_of ms p rs)
    → records_octets ms p rs ≡ records_by place_of ms p rs
unfolding records_by
same_records ms p [] low ends = refl
same_records ms p (r ∷ rs) low ends =
    let a = record_laid ms p r in
    let b = record_by place_of ms p r in
    let s = same_record ms p r low (front ends) in
    let rest : Laid → Octets = λ l. records_by place_of (ms ++ l.names) (p + length l.written) rs in
    let again : Ends p (a.written ++ records_octets (ms ++ a.names) (p + length a.written) rs)
    (a.written ++ rest a) = grind (arith, ends) in
    let later = same_records (ms ++ a.names)
    (p + length a.written) rs s.low (ends_rest p (p + length a.written) a.written
    (records_octets (ms ++ a.names) (p + length a.written) rs) (rest a) refl again) in cc later
  where
    front : Ends p (records_octets ms p (r ∷ rs)) (records_by place_of ms p (r ∷ rs))
        → Ends p (record_laid ms p r).written (record_by place_of ms p r).written
    front ends = grind (arith, length-append, records_by)

pub same_layout : (h : Header) (q : Option MessageQuestion) (items : List Item) → (size q items
    ≤ reach) ⊎ (unbounded_size q items ≤ reach) → layout h q items ≡ unbounded_layout h q items
unfolding layout unbounded_layout
same_layout h q items short = go (ends short)
  where
    go : Ends 0 (layout h q items) (unbounded_layout h q items)
        → layout h q items ≡ unbounded_layout h q items
    go e = grind (arith, length-append, ends_front, same_records, ends_rest)

    ends : (size q items ≤ reach) ⊎ (unbounded_size q items ≤ reach)
        → Ends 0 (layout h q items) (unbounded_layout h q items)
    ends (inl s) = inl (omega (arith, s, length-layout h q items))
    ends (inr s) = inr (omega (arith, s, length-unbounded_layout h q items))

pub same_size : (q : Option MessageQuestion) (items : List Item) → (size q items ≤ reach)
    ⊎ (unbounded_size q items ≤ reach) → size q items ≡ unbounded_size q items
same_size q items short =
    let h : Header = record { id = 0; flags = 0 } in
    sym (length-layout h q items)
    ∙ ap length (same_layout h q items short) ∙ length-unbounded_layout h q items
