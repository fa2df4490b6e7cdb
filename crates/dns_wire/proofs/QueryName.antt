-- Where the name of a question ends: the labels in the datagram before an offset are the first
-- labels of the name.
use Rattle.dns_wire.proofs.Common.{◌≡◌, ℕ, suc, ◌+◌, ◌-◌, ◌<◌, ◌≤◌, [], ◌∷◌, ◌++◌, length, take, drop, get_or, refl, sym, ◌∙◌, ap, subst, arith, None, Some, length-append, length-take, length-drop, take-add, drop-cons, eq-eqb, Octets, DomainName, wire, MessageQuestion, name_at, field16, question_at, append_assoc, append-nil, drop-drop, is_name-push, LabelAt, NameEnds}
use Rattle.dns_wire.proofs.Runs.{IsReading, reading_begins, reading_ends, reading_stops, reading_label, label_too_long, label_stands, run_inside, there_is, no_label, no_pointer}

-- the labels before an offset are the first labels of the name, and their octets are those from the
-- header to the offset
pub record ReadTo (d : Octets) (at : ℕ) : Type 0 where
  pub labels : DomainName
  pub reading : IsReading d 12 labels 12 at None
  pub octets : (m : DomainName) → wire (labels ++ m) ≡ take (at - 12) (drop 12 d) ++ wire m
  pub from : 12 ≤ at

pub read_nothing : (d : Octets) → ReadTo d 12
read_nothing d = record {
  labels = [];
  reading = reading_begins d 12;
  octets = λ m. refl;
  from = omega arith;
}

-- the octets at an offset after the header
octets_at : (d : Octets) (at : ℕ)
    → 12 ≤ at → at < length d → drop (at - 12) (drop 12 d) ≡ get_or d at 0 ∷ drop (suc at) d
octets_at d at from inside = grind (arith, drop-drop, drop-cons)

module _ (d : Octets) (at : ℕ) (r : ReadTo d at) where
  pub ends_missing : length d ≤ at → name_at d 12 ≡ None
  ends_missing past =
      reading_stops r.reading (λ n e run. let i = run_inside run in omega (arith, past, i))

  module _ (inside : at < length d) where
    pub ends_here : get_or d at 0 ≡ 0 → NameEnds d (at + 1)
    ends_here zero =
        let size : at + 1 - 12 ≡ at - 12 + 1 = omega (arith, r.from) in
        let first : take 1 (drop (at - 12) (drop 12 d)) ≡ 0 ∷ [] =
        ap (take 1) (octets_at d at r.from inside) ∙ ap (λ o. o ∷ []) zero in
        record {
          name = r.labels;
          read = reading_ends r.reading (there_is d at 0 inside zero);
          octets =
              ap (λ n. take n (drop 12 d)) size ∙ take-add (at - 12) 1 (drop 12 d)
              ∙ ap (λ os. take (at - 12) (drop 12 d) ++ os) first
              ∙ sym (r.octets []) ∙ ap wire (append-nil r.labels);
          is_name = r.reading.is_name;
          some = omega (arith, r.from);
          inside = omega (arith, inside);
        }

    module _ (k : ℕ) (here : get_or d at 0 ≡ k) (some : k ≡ 0 → ⊥) where
      pub ends_high : 64 ≤ k → name_at d 12 ≡ None
      ends_high high = reading_stops r.reading (no_pointer d at k inside here high)

      module _ (low : k < 64) where
        pub ends_past : length d < at + 1 + k → name_at d 12 ≡ None
        ends_past past =
            reading_stops r.reading (no_label d 12 at k inside here (omega (arith, some)) low
            (omega (arith, past, length-drop (at + 1) d)))

        -- a whole label is here
        module _ (whole : at + 1 + k ≤ length d) where
          abbrev label : Octets
          label = take k (drop (at + 1) d)

          label_length : length label ≡ k
          label_length = simp (length-take, length-drop) (omega (arith, whole))

          there : LabelAt d at label
          there = label_stands d label at k inside here (omega (arith, some)) low
              (omega (arith, whole, length-drop (at + 1) d)) refl

          next_octets :
              take (at + 1 + k - 12) (drop 12 d) ≡ take (at - 12) (drop 12 d) ++ (k ∷ label)
          next_octets =
              let size : at + 1 + k - 12 ≡ at - 12 + suc k = omega (arith, r.from) in
              let next : suc at ≡ at + 1 = omega arith in
              ap (λ n. take n (drop 12 d)) size ∙ take-add (at - 12) (suc k) (drop 12 d)
              ∙ ap (λ os. take (at - 12) (drop 12 d) ++ take (suc k) os) (octets_at d at r.from
              inside) ∙ ap (λ o. take (at - 12) (drop 12 d) ++ (o ∷ take k (drop (suc at) d)))
              here ∙ ap (λ n. take (at - 12) (drop 12 d) ++ (k ∷ take k (drop n d))) next

          labels_length : length (wire (r.labels ++ label ∷ [])) ≡ at + 1 + k - 12 + 1
          labels_length = grind (arith, length-append, length-take, length-drop)

          pub ends_long : 266 < at + 1 + k → name_at d 12 ≡ None
          ends_long long =
              label_too_long label r.reading there (omega (arith, long, r.from, labels_length))

          pub read_label : at + 1 + k ≤ 266 → ReadTo d (at + 1 + k)
          read_label short =
              let next : at + (1 + length label) ≡ at + 1 + k = omega (arith, label_length) in
              record {
                labels = r.labels ++ label ∷ [];
                reading = subst (λ i. IsReading d 12 (r.labels ++ label ∷ []) 12 i None) next
                    (reading_label label r.reading there
                    (grind (arith, is_name-push, labels_length)));
                octets = grind (arith, append_assoc, next_octets, label_length);
                from = omega (arith, r.from);
              }

-- the question with the name n, whose type and class are in the four octets from offset e on
abbrev pub question_then : Octets → DomainName → ℕ → MessageQuestion
question_then d n e = record { qname = n; qtype = field16 d e; qclass = field16 d (e + 2) }

pub question_here : (d : Octets) (n : DomainName) (e : ℕ)
    → name_at d 12 ≡ Some (n, e) → length d ≡ e + 4 → question_at d ≡ Some (question_then d n e)
unfolding question_at
question_here d n e read whole = grind (arith, eq-eqb)
