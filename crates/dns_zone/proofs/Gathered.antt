-- Moving records to the indexes of their sort keys.
use Rattle.dns_zone.proofs.Common.{◌≡◌, ℕ, ◌+◌, ◌<◌, ◌≤◌, ◌⊎◌, inl, inr, List, length, take, map, get_or, sym, ap, ◌∙◌, arith, length-map, length-take, get_or-map, get_or-take, min-eq_left, refl, All, cond, eqb, eq-eqb, ne_eqb, SwappedAt, ResourceRecord, AreApart, no_record, placed, SortKey}
use Rattle.dns_zone.proofs.SortKeyOrder.{either}
use Rattle.dns_zone.specs.SortKeyForm.{no_sort_key}
use Rattle.std.proofs.lemmas.List.{ext_get_or}

-- the index in the sort key at index i
abbrev pub at_of : List SortKey → ℕ → ℕ
at_of ps i = (get_or ps i no_sort_key).at

-- where the search from an index ends, if it ends among the indexes that are not yet filled
pub record IsEnd (ps : List SortKey) (to : ℕ) (end : ℕ → ℕ) : Type 0 where
  pub stop : (i : ℕ) → to ≤ i → end i ≡ i
  pub next : (i : ℕ) → i < to → to ≤ end i → (i < at_of ps i) × (end (at_of ps i) ≡ end i)

-- the search for the record of the sort key at `to` comes by `from`
abbrev pub Follows : List SortKey → ℕ → ℕ → Type 0
Follows ps to from =
    (end : ℕ → ℕ) → IsEnd ps to end → to ≤ end (at_of ps to) → end from ≡ end (at_of ps to)

-- the record that was at index j is at index i, which is not yet filled
pub record IsAt (old now : List ResourceRecord) (to j i : ℕ) : Type 0 where
  pub from : to ≤ i
  pub inside : i < length old
  pub is : (r : ResourceRecord) → get_or now i r ≡ get_or old j r

-- The records `now` are the records `old`, moved, so that the first `to` are at the indexes of their
-- sort keys. `first` are the sort keys before that, and `ps` the sort keys now. The search for a
-- later record ends where it is.
pub record IsGathered (old now : List ResourceRecord) (first ps : List SortKey) (to : ℕ)
    : Type 0 where
  pub end : ℕ → ℕ
  pub ends : IsEnd ps to end
  pub size : length now ≡ length old
  pub count : length ps ≡ length first
  pub later : (i : ℕ) → to ≤ i → at_of ps i ≡ at_of first i
  pub done : (i : ℕ) (r : ResourceRecord) → i < to → get_or now i r ≡ get_or old (at_of first i) r
  pub others : (k : ℕ) → to ≤ k → k < length first
      → IsAt old now to (at_of first k) (end (at_of first k))
  pub apart : (k m : ℕ) → to ≤ k → k < length first → to ≤ m → m < length first
      → end (at_of first k) ≡ end (at_of first m) → k ≡ m

pub none_gathered : (old : List ResourceRecord) (ps : List SortKey) → AreApart ps
    → All (λ (p : SortKey). p.at < length old) ps → IsGathered old old ps ps 0
none_gathered old ps apart within = record {
  end = λ i. i;
  ends = record { stop = λ i l. refl; next = λ i l m. absurd (omega (arith, l)) };
  size = refl;
  count = refl;
  later = λ i l. refl;
  done = λ i r l. absurd (omega (arith, l));
  others = λ k l inside. record {
    from = omega arith;
    inside = within k no_sort_key inside;
    is = λ r. refl;
  };
  apart = λ k m l k_in g m_in e. apart k m no_sort_key k_in m_in e;
}

module _ (old now : List ResourceRecord) (first ps : List SortKey) (to from : ℕ)
    (h : IsGathered old now first ps to) (inside : to < length first) (f : Follows ps to from) where
  first_at : IsAt old now to (at_of first to) (h.end (at_of first to))
  first_at = h.others to (omega arith) inside

  leads : h.end from ≡ h.end (at_of first to)
  leads = grind (arith, h.later to, first_at, f h.end h.ends)

  pub follows_on : from < to → from < at_of ps from
  follows_on low = grind (arith, leads, first_at, h.ends.next from)

  pub found : to ≤ from → IsAt old now to (at_of first to) from
  found e = grind (arith, leads, first_at, h.ends.stop from)

-- One more sort key: the record at `from` and the one at `to` are swapped, and the sort key has the index
-- `from`.
module _ (old now next : List ResourceRecord) (first ps next_ps : List SortKey) (to from : ℕ)
    (h : IsGathered old now first ps to) (inside : to < length first) (f : Follows ps to from)
    (ended : to ≤ from) (swapped : SwappedAt now next to from) (size : length next ≡ length now)
    (put : at_of next_ps to ≡ from) (count : length next_ps ≡ length ps)
    (others : (i : ℕ) → (i ≡ to → ⊥) → get_or next_ps i no_sort_key ≡ get_or ps i no_sort_key) where
  here : IsAt old now to (at_of first to) from
  here = found old now first ps to from h inside f ended

  is : h.end (at_of first to) ≡ from
  is = grind (arith, leads old now first ps to from h inside f, h.ends.stop from)

  -- a search that ended at `to` ends at `from` now
  end : ℕ → ℕ
  end i = cond (eqb (h.end i) to) from (h.end i)

  moved : (i : ℕ) → h.end i ≡ to → end i ≡ from
  unfolding end
  moved i e = ap (λ b. cond b from (h.end i)) (eq-eqb (h.end i) to e)

  kept : (i : ℕ) → (h.end i ≡ to → ⊥) → end i ≡ h.end i
  unfolding end
  kept i n = ap (λ b. cond b from (h.end i)) (ne_eqb (h.end i) to n)

  same_at : (i : ℕ) → (i ≡ to → ⊥) → at_of next_ps i ≡ at_of ps i
  same_at i n = ap (λ (p : SortKey). p.at) (others i n)

  stop : (i : ℕ) → to + 1 ≤ i → end i ≡ i
  stop i l = grind (arith, h.ends.stop i, kept i)

  on : (i : ℕ) → i < to + 1 → to + 1 ≤ end i
      → (i < at_of next_ps i) × (end (at_of next_ps i) ≡ end i)
  on i l m =
      grind (
        arith,
        either i to,
        either (h.end i) to,
        h.ends.next i,
        h.ends.stop to,
        stop from,
        put,
        same_at,
        moved,
        kept,
      )

  at_now : (k : ℕ) → to + 1 ≤ k → k < length first
      → IsAt old next (to + 1) (at_of first k) (end (at_of first k))
  at_now k l k_in = go (either (h.end (at_of first k)) to)
    where
      at : IsAt old now to (at_of first k) (h.end (at_of first k))
      at = h.others k (omega (arith, l)) k_in

      not_from : h.end (at_of first k) ≡ from → ⊥
      not_from e = grind (arith, h.apart k to, is)

      go : (h.end (at_of first k) ≡ to) ⊎ (h.end (at_of first k) ≡ to → ⊥)
          → IsAt old next (to + 1) (at_of first k) (end (at_of first k))
      go (inl e) = rw (moved (at_of first k) e) (record {
        from = let a = here.from in omega (arith, a, e, not_from);
        inside = here.inside;
        is = λ r. swapped.1 r ∙ ap (λ i. get_or now i r) (sym e) ∙ at.is r;
      })
      go (inr n) = rw (kept (at_of first k) n) (record {
        from = let a = at.from in omega (arith, a, n);
        inside = at.inside;
        is = λ r. swapped.2 (h.end (at_of first k)) r n not_from ∙ at.is r;
      })

  pub one_more : IsGathered old next first next_ps (to + 1)
  one_more = record {
    end = end;
    ends = record { stop = stop; next = on };
    size = size ∙ h.size;
    count = count ∙ h.count;
    later = λ i l. same_at i (λ e. omega (arith, e, l)) ∙ h.later i (omega (arith, l));
    done = λ i r l. done i r l (either i to);
    others = at_now;
    apart = apart;
  }
    where
      done : (i : ℕ) (r : ResourceRecord) → i < to + 1 → (i ≡ to) ⊎ (i ≡ to → ⊥)
          → get_or next i r ≡ get_or old (at_of first i) r
      done i r l (inl e) = grind (arith, swapped.0 r, here.is r)
      done i r l (inr n) = grind (arith, swapped.2 i r n, h.done i r, here.from)

      apart : (k m : ℕ) → to + 1 ≤ k → k < length first → to + 1 ≤ m → m < length first
          → end (at_of first k) ≡ end (at_of first m) → k ≡ m
      apart k m l k_in g m_in e =
          grind (arith, either, moved, kept, h.apart k m, h.apart k to, h.apart m to, is)

-- at the end, the first records are those at the sort keys
pub all_gathered : (old now : List ResourceRecord) (first ps : List SortKey)
    → IsGathered old now first ps (length first) → length first ≤ length old
    → take (length first) now ≡ map (placed old no_record) first
all_gathered old now first ps h fewer =
    let size = h.size in
    let count : length (take (length first) now) ≡ length first =
    length-take (length first) now ∙ min-eq_left (omega (arith, size, fewer)) in
    ext_get_or no_record _ _ (count ∙ sym (length-map first (placed old no_record)))
    (λ i l. each i (omega (arith, l, count)))
  where
    each : (i : ℕ) → i < length first → get_or (take (length first) now) i no_record
        ≡ get_or (map (placed old no_record) first) i no_record
    each i l =
        grind (arith, get_or-take) ∙ h.done i no_record l
        ∙ sym (get_or-map (placed old no_record) first i no_sort_key no_record l)
