-- The layout, in which names share suffixes, spells its message.
use Rattle.dns_spec.proofs.Common.{message_question_at, ◌≡◌, ℕ, ◌+◌, ◌^◌, ◌<◌, ◌≤◌, Bool, true, false, cond, nat_le, List, [], ◌∷◌, ◌++◌, map, length, Option, None, Some, All, IfSome, is_some, unwrap_or, refl, sym, ap, ◌∙◌, subst, arith, append_assoc, append-nil, length-append, add-zero, zero-add, and_parts, false≢true, none-some, same_Some, length-map, map-append, list_all, option_to_list, Octets, wire, is_label, ResourceRecord, Header, MessageQuestion, Spells, size, class_in, Field, domain, fields_of, compresses, Part, octets, field_front, cut, valid, parts, laid_parts, octets16, octets32, answer, authority, additional, Item, records_of, in_section, Placed, shared_octets, data_laid, data_by, parts_of, record_tail, records_octets, records_by, question_octets, asked_octets, asked_placed, reply_header, layout, Section, message_record, message_of, IsWritable, IsAskable, HasRoom, AllByRecursion, recursion_from_All, record_laid, data_at, fields_at, several, message_record_at, joined, part_octets, eq-eqb, name}
use Rattle.dns_spec.proofs.Messages.Places.{Stands, stands_front, stands_rest, stands_after, stands_all, stands_within, number_at, stands_own}
use Rattle.dns_spec.proofs.DataWords.WrittenData.{cut_into, name_part, data_written, octets_field, field_again, field_whole}
use Rattle.dns_spec.proofs.DataWords.LoweredData.{cut_whole}
use Rattle.dns_spec.proofs.Messages.Sections.{field_own, fields_more, name_field, several_more, several_split, record_read, message_read, data_read}
use Rattle.dns_spec.proofs.Layouts.MessageParts.{records_by_section, section_with, header_at, one_question, asked_at_12, length-question_octets}
use Rattle.dns_spec.proofs.Layouts.LayoutSize.{length-layout, length-record_tail}
use Rattle.dns_spec.proofs.Layouts.SharedNames.{Known, known_later, known_more, name_shared, nothing_known, shared_alone}

-- the octets that are laid out for data
abbrev data_octets : List Placed → ℕ → List Part → Octets
data_octets ms p ps = (data_laid ms p ps).written

abbrev data_names : List Placed → ℕ → List Part → List Placed
data_names ms p ps = (data_laid ms p ps).names

-- no octets are laid out for parts without octets
no_octets : (ys : List Part) → joined ys ≡ []
    → (ms : List Placed) (i : ℕ) → data_octets ms i ys ≡ []
unfolding data_by
no_octets [] none ms i = refl
no_octets (octets [] ∷ ys) none ms i = no_octets ys none ms (i + 0)
no_octets (octets (o ∷ os) ∷ ys) none ms i = absurd (omega (arith, ap length none))
no_octets (name [] ∷ ys) none ms i = absurd (omega (arith, ap length none))
no_octets (name (l ∷ n) ∷ ys) none ms i = absurd (omega (arith, ap length none))

module _ (b : Octets) (room : length b < 2 ^ 16) where
  -- data laid out from place i on is read there, and its names become earlier names
  record Laid
      (ps : List Field) (os : Octets) (ms : List Placed) (i : ℕ) (xs : List Part) : Type 0 where
    fields : fields_at b ps i (i + length (data_octets ms i xs)) ≡ Some os
    known : Known b (i + length (data_octets ms i xs)) (ms ++ data_names ms i xs)

  abbrev Lays : List Field → Octets → List Part → Type 0
  Lays ps os xs = (ms : List Placed) (i : ℕ)
      → Known b i ms → 12 ≤ i → Stands b i (data_octets ms i xs) → Laid ps os ms i xs

  nil_lays : (os : Octets) (xs : List Part) → cut [] os ≡ Some xs → Lays [] os xs
  unfolding cut data_by fields_at
  nil_lays [] xs e ms i known header at =
      subst (Laid [] [] ms i) (same_Some [] xs e) (record {
        fields = grind (arith, eq-eqb, add-zero);
        known = subst (λ z. Known b z (ms ++ []))
            (sym (add-zero i)) (subst (Known b i) (sym (append-nil ms)) known);
      })
  nil_lays (o ∷ os) xs e ms i known header at = absurd (none-some xs e)

  -- a field in front of others
  field_lays : (p : Field) (ps : List Field) (os rest : Octets) (part : Part) (ys : List Part)
      → field_front p os ≡ Some (part, rest)
      → Lays ps rest ys → cut ps rest ≡ Some ys → Lays (p ∷ ps) os (part ∷ ys)
  unfolding data_by
  field_lays domain ps os rest part ys front lays more ms i known header =
      let m = name_part os rest part front in
      let n = m.0 in
      let w = shared_octets ms n in
      subst (λ x. Stands b i (data_octets ms i (x ∷ ys)) → Laid (domain ∷ ps) os ms i (x ∷ ys)) m.1
      (λ at.
      let earlier = ms ++ (n, i) ∷ [] in
      let next = i + length w in
      let later = data_octets earlier next ys in
      let here : Stands b i w = stands_front w later at in
      let labels = (and_parts (list_all is_label n) (nat_le (length (wire n)) 255) m.2).0 in
      let known' : Known b next earlier =
      known_more b i ms known n i (omega arith) header labels here in
      let r : Laid ps rest earlier next ys =
      lays earlier next known' (omega arith) (stands_rest w later at) in
      let end : next + length later ≡ i + length (w ++ later) =
      omega (arith, length-append w later) in
      record {
        fields = fields_more b domain ps i next (i + length (w ++ later)) (wire n) rest
            (name_field b n i next (i + length (w ++ later))
            (name_shared b i ms known n i (omega arith) m.2 here) (omega (arith, end)))
            (subst (λ e. fields_at b ps next e ≡ Some rest) end r.fields)
            ∙ ap Some (sym m.3);
        known = subst (Known b (i + length (w ++ later)))
            (append_assoc ms ((n, i) ∷ []) (data_names earlier next ys))
            (subst (λ e. Known b e (earlier ++ data_names earlier next ys)) end r.known);
      })
  field_lays p ps os rest part ys front lays more ms i known header =
      let o = part_octets part in
      let next = i + length o in
      let later = data_octets ms next ys in
      let none : rest ≡ [] → later ≡ [] = grind (arith, no_octets, cut_whole) in
      subst (λ x. Stands b i (data_octets ms i (x ∷ ys)) → Laid (p ∷ ps) os ms i (x ∷ ys))
      (octets_field p os rest part (grind arith) front) (λ at.
      let r = lays ms next (known_later b i next ms (omega arith) known)
      (omega arith) (stands_rest o later at) in
      let end : next + length later ≡ i + length (o ++ later) =
      omega (arith, length-append o later) in
      record {
        fields = fields_more b p ps i next (i + length (o ++ later)) o rest
            (field_own b p i (i + length (o ++ later)) (o ++ later) later part (grind arith)
            (stands_own (o ++ later) at) (field_again p os part rest later front none)
            ∙ ap (λ j. Some (o, j)) (omega (arith, end)))
            (subst (λ e. fields_at b ps next e ≡ Some rest) end r.fields)
            ∙ ap Some (sym (field_whole p os part rest front));
        known = subst (λ z. Known b z (ms ++ data_names ms next ys)) end r.known;
      })

  data_lays : (ps : List Field) (os : Octets) (xs : List Part) → cut ps os ≡ Some xs → Lays ps os xs
  data_lays [] os xs h = nil_lays os xs h
  data_lays (p ∷ ps) os xs h =
      let c = cut_into p ps os xs h in
      subst (Lays (p ∷ ps) os) c.whole (field_lays p ps os c.rest c.part c.others c.front
      (data_lays ps c.rest c.others c.more) c.more)

  -- the data of a record is read, and its names become earlier names
  record DataLaid (t : ℕ) (d : Octets) (ms : List Placed) (i : ℕ) (xs : List Part) : Type 0 where
    rdata : data_at b t class_in i (i + length (data_octets ms i xs)) ≡ Some d
    known : Known b (i + length (data_octets ms i xs)) (ms ++ data_names ms i xs)

  whole_laid : (t : ℕ) (d : Octets) (ms : List Placed) (i : ℕ) → valid t d ≡ true → Known b i ms
      → Stands b i (data_octets ms i (octets d ∷ [])) → DataLaid t d ms i (octets d ∷ [])
  unfolding data_by
  whole_laid t d ms i ok known at =
      let none = append-nil d in
      record {
        rdata = grind (arith, data_written);
        known = subst (Known b (i + length (d ++ [])))
            (sym (append-nil ms)) (known_later b i (i + length (d ++ [])) ms (omega arith) known);
      }

  data_laid_at : (t : ℕ) (d : Octets) (ms : List Placed) (i : ℕ) → valid t d ≡ true → Known b i ms
      → 12 ≤ i → Stands b i (data_octets ms i (laid_parts t d)) → DataLaid t d ms i (laid_parts t d)
  data_laid_at t d ms i ok known header =
      by_type (compresses t) (by_cut (cut (fields_of t) d) refl some)
    where
      some : is_some (cut (fields_of t) d) ≡ true
      some = (and_parts (nat_le (length d) 65535) (is_some (cut (fields_of t) d)) ok).1

      by_cut : (y : Option (List Part)) → cut (fields_of t) d ≡ y
          → is_some y ≡ true → Stands b i (data_octets ms i (unwrap_or y (octets d ∷ [])))
          → DataLaid t d ms i (unwrap_or y (octets d ∷ []))
      by_cut None e s at = absurd (false≢true s)
      by_cut (Some xs) e s at =
          let r = data_lays (fields_of t) d xs e ms i known header at in
          record {
            rdata = data_read b t class_in i (i + length (data_octets ms i xs)) d (omega arith)
                (stands_within (data_octets ms i xs) at) r.fields;
            known = r.known;
          }

      by_type : (c : Bool) → (Stands b i (data_octets ms i (parts t d)) → DataLaid t d ms i
          (parts t d)) → Stands b i (data_octets ms i (cond c (parts t d) (octets d ∷ [])))
          → DataLaid t d ms i (cond c (parts t d) (octets d ∷ []))
      by_type true f at = f at
      by_type false f at = whole_laid t d ms i ok known at

  -- records laid out from place i on are read there
  records_laid : (rs : List ResourceRecord) (ms : List Placed) (i : ℕ)
      → Known b i ms → 12 ≤ i → AllByRecursion IsWritable rs → Stands b i (records_octets ms i rs)
      → several (message_record_at b) (length (map message_record rs)) i
      ≡ Some (map message_record rs, i + length (records_octets ms i rs))
  unfolding records_by several
  records_laid [] ms i known header w at = ap (λ e. Some ([], e)) (sym (add-zero i))
  records_laid (r ∷ rs) ms i known header w_ok at =
      let n = shared_octets ms r.owner in
      let j : ℕ = i + length n in
      let after : ℕ = i + length n + 10 in
      let earlier = ms ++ (r.owner, i) ∷ [] in
      let d = data_octets earlier after (parts_of r) in
      let w = n ++ record_tail r d in
      let later = ms ++ (r.owner, i) ∷ data_names earlier after (parts_of r) in
      let rest = records_octets later (i + length w) rs in
      let t = octets16 r.rtype in
      let c = octets16 class_in in
      let l = octets32 r.ttl in
      let k = octets16 (length d) in
      let front : Stands b i (n ++ record_tail r d) = stands_front w rest at in
      let own : Stands b i n = stands_front n (record_tail r d) front in
      let tail : Stands b j (t ++ c ++ l ++ k ++ d) = stands_rest n (record_tail r d) front in
      let upto_length : Stands b j (t ++ c ++ l ++ k) = stands_front (t ++ c ++ l ++ k) d tail in
      let upto_ttl : Stands b j (t ++ c ++ l) = stands_front (t ++ c ++ l) k upto_length in
      let upto_class : Stands b j (t ++ c) = stands_front (t ++ c) l upto_ttl in
      let data_stands : Stands b after d = stands_after 10 (t ++ c ++ l ++ k) d refl tail in
      let short = stands_within d data_stands in
      let labels = (and_parts
      (list_all is_label r.owner) (nat_le (length (wire r.owner)) 255) w_ok.0.owner).0 in
      let known' : Known b after earlier = known_later b j after earlier
      (omega arith) (known_more b i ms known r.owner i (omega arith) header labels own) in
      let laid = data_laid_at r.rtype r.rdata earlier after w_ok.0.rdata known'
      (omega arith) data_stands in
      let tail_len : length (record_tail r d) ≡ 10 + length d =
      length-append (t ++ c ++ l ++ k) d in
      let next : i + length w ≡ after + length d = grind (arith, length-append) in
      let known_next : Known b (i + length w) later =
      subst (λ e. Known b e later) (sym next) (subst (Known b (after + length d)) (append_assoc ms
      ((r.owner, i) ∷ []) (data_names earlier after (parts_of r))) laid.known) in
      let end : i + length w + length rest ≡ i + length (w ++ rest) =
      omega (arith, length-append w rest) in
      let others = records_laid rs later
      (i + length w) known_next (omega (arith, next)) w_ok.1 (stands_rest w rest at) in
      several_more (message_record_at b) (length (map message_record rs)) i (i + length w)
      (i + length (w ++ rest)) (message_record r) (map message_record rs)
      (record_read b i j (length d) (message_record r)
      (name_shared b i ms known r.owner i (omega arith) w_ok.0.owner own) (omega (arith, short))
      (number_at 2 r.rtype w_ok.0.rtype (stands_front t c upto_class))
      (number_at 2 class_in (omega arith) (stands_after 2 t c refl upto_class))
      (number_at 4 r.ttl w_ok.0.ttl (stands_after 4 (t ++ c) l refl upto_ttl))
      (number_at 2 (length d)
      (omega (arith, short, room)) (stands_after 8 (t ++ c ++ l) k refl upto_length)) laid.rdata
      ∙ ap (λ e. Some (message_record r, e)) (sym next))
      (others ∙ ap (λ e. Some (map message_record rs, e)) end)

-- the name of the question is an earlier name of the records
asked_known : (b : Octets) (q : Option MessageQuestion) → IfSome q IsAskable
    → Stands b 12 (asked_octets q) → Known b (12 + length (asked_octets q)) (asked_placed q)
asked_known b None ok at = nothing_known b 12
asked_known b (Some q) ok at =
    let from : ℕ = 12 + length (question_octets q) in
    let spelled : Stands b 12 (wire q.qname) = grind (arith, stands_front) in
    let alone : Stands b 12 (shared_octets [] q.qname) =
    subst (Stands b 12) (sym (shared_alone q.qname)) spelled in
    let labels =
    (and_parts (list_all is_label q.qname) (nat_le (length (wire q.qname)) 255) ok.qname).0 in
    let first : Known b (12 + length (shared_octets [] q.qname)) ((q.qname, 12) ∷ []) =
    known_more b 12 [] (nothing_known b 12) q.qname 12 (omega arith) (omega arith) labels alone in
    known_later b (12 + length (shared_octets [] q.qname)) from ((q.qname, 12) ∷ [])
    (omega (arith, ap length (shared_alone q.qname), length-question_octets q)) first

-- The counts of the records fit their fields, as they always do in a message of at most 65,535
-- octets.
record HasCounts (items : List Item) : Type 0 where
  answers : length (in_section answer items) < 2 ^ 16
  authorities : length (in_section authority items) < 2 ^ 16
  additionals : length (in_section additional items) < 2 ^ 16

spells_where : (b : Octets) (h : Header) (q : Option MessageQuestion) (items : List Item)
    → length b < 2 ^ 16 → HasRoom h q items → HasCounts items
    → AllByRecursion IsWritable (records_of items)
    → b ≡ reply_header h q items ++ asked_octets q ++ records_octets (asked_placed q)
    (12 + length (asked_octets q)) (records_of items) → Spells b (message_of h q items)
spells_where b h q items room ok counts writable whole =
    let A = in_section answer items in
    let B = in_section authority items in
    let C = in_section additional items in
    let rh = reply_header h q items in
    let qo = asked_octets q in
    let from : ℕ = 12 + length qo in
    let rest = records_octets (asked_placed q) from (records_of items) in
    let all : Stands b 0 (rh ++ qo ++ rest) = subst (Stands b 0) whole (stands_all b) in
    let front : Stands b 0 (rh ++ qo) = stands_front (rh ++ qo) rest all in
    let at = header_at h (length (option_to_list q)) (length A) (length B) (length C) ok.id ok.flags
    (one_question q) counts.answers counts.authorities counts.additionals
    (stands_front rh qo front) in
    let question : Stands b 12 qo = stands_after 12 rh qo refl front in
    let asked = asked_at_12 q ok.question question in
    let known = asked_known b q ok.question question in
    let head_len : length (rh ++ qo) ≡ from = length-append rh qo in
    let after : Stands b from rest = subst
    (λ x. Stands b x rest) (zero-add from) (stands_after from (rh ++ qo) rest head_len all) in
    let end : from + length rest ≡ length b = grind (arith, length-append) in
    let read : several (message_record_at b) (length (map message_record (records_of items))) from
    ≡ Some (map message_record (records_of items), length b) =
    records_laid b room (records_of items) (asked_placed q) from known (omega arith) writable after
    ∙ ap (λ e. Some (map message_record (records_of items), e)) end in
    let split : map message_record (records_of items)
    ≡ map message_record A ++ (map message_record B ++ map message_record C) =
    ap (map message_record) (records_by_section items ok.in_order) ∙ map-append message_record A
    (B ++ C) ∙ ap (λ x. map message_record A ++ x) (map-append message_record B C) in
    let s = several_split (message_record_at b) (map message_record A)
    (map message_record B ++ map message_record C) from (length b) (subst (λ x. several
    (message_record_at b) (length x) from ≡ Some (x, length b)) split read) in
    let t = several_split (message_record_at b) (map message_record B) (map message_record C) s.0
    (length b) s.2 in
    message_read b (message_of h q items) from s.0 t.0 (omega (arith, end)) at.0
    (ap (λ k. several (message_question_at b) k 12) at.1 ∙ asked)
    (counted A from s.0 at.2 s.1) (counted B s.0 t.0 at.3 t.1)
    (counted C t.0 (length b) at.4 t.2)
  where
    counted : {k : ℕ} (rs : List ResourceRecord) (i e : ℕ) → k ≡ length rs
        → several (message_record_at b) (length (map message_record rs)) i
        ≡ Some (map message_record rs, e)
        → several (message_record_at b) k i ≡ Some (map message_record rs, e)
    counted rs i e is read = grind (arith, length-map)

-- there are no more records than octets
section_bound : (s : Section) (is : List Item) → length (in_section s is) ≤ length (records_of is)
section_bound s [] = omega arith
section_bound s (i ∷ is) = grind (arith, section_with, length-append, (section_bound s is))

shared_bound : (ms : List Placed) (p : ℕ) (rs : List ResourceRecord)
    → length rs ≤ length (records_octets ms p rs)
unfolding records_by
shared_bound ms p [] = omega arith
shared_bound ms p (r ∷ rs) =
    let w = shared_octets ms r.owner in
    let d = data_laid (ms ++ (r.owner, p) ∷ []) (p + length w + 10) (parts_of r) in
    let l = record_laid ms p r in
    let rest = records_octets (ms ++ l.names) (p + length l.written) rs in
    omega (
      arith,
      shared_bound (ms ++ l.names) (p + length l.written) rs,
      length-append l.written rest,
      length-append w (record_tail r d.written),
      length-record_tail r d.written,
    )

few_counts : (q : Option MessageQuestion) (is : List Item) → size q is < 2 ^ 16 → HasCounts is
unfolding size
few_counts q is short = grind (arith, shared_bound, section_bound)

-- The layout spells its message.
pub layout_spells : (h : Header) (q : Option MessageQuestion) (items : List Item)
    → HasRoom h q items → All IsWritable (records_of items)
    → size q items ≤ 65535 → Spells (layout h q items) (message_of h q items)
unfolding layout
layout_spells h q items ok writable short =
    let b = layout h q items in
    spells_where b h q items (omega (arith, length-layout h q items, short)) ok (few_counts q items
    (omega (arith, short))) (recursion_from_All IsWritable (records_of items) writable) refl
