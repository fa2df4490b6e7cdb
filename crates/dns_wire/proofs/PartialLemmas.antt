-- One more set in a message being written: it is put if the layout with it fits.
use Rattle.dns_wire.proofs.Common.{◌≡◌, ◌↔◌, ℕ, ◌+◌, ◌≤◌, ◌^◌, Bool, true, false, cond, List, [], ◌∷◌, ◌++◌, length, drop, replicate, Option, None, refl, sym, ap, ◌∙◌, subst, subst₂, arith, All, IfSome, Some, append_assoc, append-nil, length-append, ◌<◌, lt_of_not-le, false≢true, Octets, DomainName, wire, RecordSet, records_at, Header, MessageQuestion, Spells, size, Sharing, IsWritable, IsAskable, sections_in_order, length-map, length-drop, flat_map-append, Item, Laid, laid_front, records_of, in_section, is_section, asked_octets, asked_placed, octets16, question_octets, layout, header_octets, message_of, shared_alone, layout_spells, past_limit, length-layout, Section, asked_offsets, new_offsets, Holds, records_laid, suffix_number, PartialMessage, partial_of, known_offsets, HasNames, IsPartial, empty_message, Writes, with_counted, counts_of, item_of, names_so_far, Counts}
use Rattle.dns_spec.specs.Layout as Layout
use Rattle.dns_wire.proofs.AskedLemmas.{asked_nothing, asked_whole}
use Rattle.dns_wire.proofs.NameWritten.{holds_nothing, holds_octets, holds_name}
use Rattle.dns_wire.proofs.RecordsWritten.{octets_of_records, records_none, records_split}

records_pushed : (items : List Item) (i : Item)
    → records_of (items ++ i ∷ []) ≡ records_of items ++ i.records
records_pushed items i = grind (arith, flat_map-append, records_of, append-nil)

section_pushed : (s : Layout.Section) (items : List Item) (i : Item) → length (in_section s (items
    ++ i ∷ [])) ≡ length (in_section s items) + cond (is_section s i.section) (length i.records) 0
section_pushed s [] i = grind (arith, length-append)
section_pushed s (x ∷ items) i = grind (arith, (section_pushed s items i), length-append)

module _ (head : Octets → ℕ) (q : Option MessageQuestion)
    (items : List Item) (d : PartialMessage) (partial : IsPartial head q items d) where
  next_place : length d.octets ≡ 12 + length (asked_octets q) + length
      (records_laid (records_of items) (asked_placed q) (12 + length (asked_octets q))).written
  next_place = grind (arith, length-append)

  whole : (i : Item) → records_laid (records_of (items ++ i ∷ [])) (asked_placed q) (12 + length
      (asked_octets q)) ≡ laid_front (records_laid (records_of items) (asked_placed q) (12 + length
      (asked_octets q))).written (records_laid (records_of items) (asked_placed q) (12 + length
      (asked_octets q))).names (records_laid i.records (names_so_far q items) (length d.octets))
  whole i = grind (arith, records_pushed, records_split, next_place)

  pub draft_size : (i : Item) → size q (items ++ i ∷ []) ≡ length
      (d.octets ++ (records_laid i.records (names_so_far q items) (length d.octets)).written)
  unfolding size
  draft_size i =
      let ms = asked_placed q in
      let p : ℕ = 12 + length (asked_octets q) in
      let l = (records_laid (records_of items) ms p).written in
      let more = (records_laid i.records (names_so_far q items) (length d.octets)).written in
      let rs = records_of (items ++ i ∷ []) in
      let written = ap length (sym (octets_of_records ms p rs))
      ∙ ap (λ (x : Laid). length x.written) (whole i) in
      omega (arith, written, next_place, length-append l more, length-append d.octets more)

-- A set was put if and only if the layout with it is within the limit.
pub put_fits : {head head' : Octets → ℕ} {t : Bool} {d d' : PartialMessage} (q : Option MessageQuestion)
    (items : List Item) (section : Section) (owner : DomainName) (ttl : ℕ) (set : RecordSet)
    → Writes head head' d d' (records_laid (records_at owner ttl set)) t → IsPartial head q items d
    → (t ≡ true) ↔ (size q (items ++ item_of section owner ttl set ∷ []) ≤ d.limit)
put_fits {head} {d = d} q items section owner ttl set w partial =
    let exactly = (w.written (names_so_far q items) partial.holds tt).exactly in
    let size_is = draft_size head q items d partial (item_of section owner ttl set) in (
      λ so. let room = exactly.0 so in omega (arith, room, size_is),
      λ fits. exactly.1 (omega (arith, fits, size_is)),
    )

counts_pushed : (q : Option MessageQuestion) (items : List Item) (section : Section)
    (owner : DomainName) (ttl : ℕ) (set : RecordSet) → with_counted (counts_of q items) section
    (length set.rdata) ≡ counts_of q (items ++ item_of section owner ttl set ∷ [])
counts_pushed q items section owner ttl set = grind (arith, section_pushed, length-map)

-- a message with the octets and the counts of a set that was put has one more set
pub put_in : {head head' : Octets → ℕ} {d d' : PartialMessage} {n : Counts} (q : Option MessageQuestion)
    (items : List Item) (section : Section) (owner : DomainName) (ttl : ℕ) (set : RecordSet)
    → Writes head head' d d' (records_laid (records_at owner ttl set)) true
    → n ≡ with_counted d'.counts section (length set.rdata) → IsPartial head q items d
    → IsPartial head q (items ++ item_of section owner ttl set ∷ []) (record d' { counts = n })
put_in {head} {d = d} {d'} q items section owner ttl set w counts partial =
    let before = names_so_far q items in
    let more = records_laid (records_at owner ttl set) before (length d.octets) in
    let done = w.written before partial.holds tt in
    let l = records_laid (records_of items) (asked_placed q) (12 + length (asked_octets q)) in
    let all = whole head q items d partial (item_of section owner ttl set) in
    let front = replicate 12 0 ++ asked_octets q in
    record {
      written = done.written ∙ ap (λ z. z ++ more.written) partial.written ∙ append_assoc
          front l.written more.written ∙ ap (λ (x : Laid). front ++ x.written) (sym all);
      holds =
          subst₂ (λ x b. Holds (suffix_number head) x b (known_offsets (suffix_number head) d'))
          (append_assoc (asked_placed q) l.names more.names
          ∙ ap (λ (x : Laid). asked_placed q ++ x.names) (sym all)) (sym done.written)
          (done.stands d.octets refl partial.holds);
      counts = counts ∙ ap (λ n. with_counted n section (length set.rdata))
          (w.grows.counts ∙ partial.counts) ∙ counts_pushed q items section owner ttl set;
      askable = partial.askable;
    }

-- a message without sets
draft_begins : (head : Octets → ℕ) (q : Option MessageQuestion) (d : PartialMessage)
    → d.octets ≡ replicate 12 0 ++ asked_octets q → HasNames d head (asked_placed q)
    → d.counts ≡ counts_of q [] → IfSome q IsAskable → IsPartial head q [] d
draft_begins head q d octets holds counts askable = grind (arith, records_none, append-nil)

-- an empty message
pub nothing_begins : (head : Octets → ℕ) (limit : ℕ) → IsPartial head None [] (empty_message limit)
nothing_begins head limit =
    let number = suffix_number head in
    draft_begins head None (empty_message limit) refl (subst (Holds number [] (replicate 12 0))
    (sym (append-nil (asked_offsets number (replicate 12 0) 12)
    ∙ asked_nothing number (replicate 12 0))) (holds_nothing number)) refl tt

-- a message with only a question
abbrev pub asked_message : ℕ → MessageQuestion → PartialMessage
asked_message limit q = partial_of limit (replicate 12 0 ++ question_octets q) (12 + length
    (wire q.qname)) [] (record { questions = 1; answers = 0; authorities = 0; additionals = 0 })

pub question_whole : (q : MessageQuestion) → replicate 12 0 ++ question_octets q
    ≡ (replicate 12 0 ++ wire q.qname) ++ (octets16 q.qtype ++ octets16 q.qclass)
question_whole q = grind (arith, append_assoc)

pub asked_begins : (head : Octets → ℕ) (limit : ℕ) (q : MessageQuestion)
    → IsAskable q → IsPartial head (Some q) [] (asked_message limit q)
asked_begins head limit q askable =
    let number = suffix_number head in
    let n = q.qname in
    let o = octets16 q.qtype ++ octets16 q.qclass in
    let new = new_offsets number [] n 12 in
    let offsets : known_offsets number (asked_message limit q) ≡ new = append-nil
    (asked_offsets number (replicate 12 0 ++ question_octets q) (12 + length (wire n)))
    ∙ asked_whole number n o (question_whole q) askable.qname refl in
    let alone = subst (λ x. Holds number ((n, 12) ∷ []) (replicate 12 0 ++ x) new) (shared_alone n)
    (holds_name number [] (replicate 12 0) [] (holds_nothing number) n askable.qname) in
    draft_begins head (Some q) (asked_message limit q) refl (subst₂ (Holds number ((n, 12) ∷ []))
    (sym (question_whole q)) (sym offsets) (holds_octets o alone)) refl askable

abbrev pub header_of : Header → Counts → Octets
header_of h n = header_octets h n.questions n.answers n.authorities n.additionals

-- the layout is the header, followed by the octets so far, after the first 12
pub draft_laid :
    {head : Octets → ℕ} (h : Header) (q : Option MessageQuestion) (items : List Item) (d : PartialMessage)
    → IsPartial head q items d → header_of h d.counts ++ drop 12 d.octets ≡ layout h q items
unfolding layout
draft_laid h q items d partial = grind (arith, append_assoc, octets_of_records)

pub draft_length : {head : Octets → ℕ} (q : Option MessageQuestion) (items : List Item) (d : PartialMessage)
    → IsPartial head q items d → length d.octets ≡ size q items
draft_length q items d partial =
    let h : Header = record { id = 0; flags = 0 } in
    let w = drop 12 d.octets in
    let long = ap length (draft_laid h q items d partial) ∙ length-layout h q items in
    let some = partial.holds.after_header in
    omega (arith, long, length-append (header_of h d.counts) w, length-drop 12 d.octets, some)

-- for a limit of up to 16,384 octets, the layout is refused if and only if each size that sharing
-- allows exceeds the limit
pub least_of : (q : Option MessageQuestion) (items : List Item) (limit : ℕ) (t : Bool)
    → ((t ≡ true) ↔ (size q items ≤ limit))
    → limit ≤ 16384 → (t ≡ false) ↔ ((z : ℕ) → Sharing q items z → limit < z)
least_of q items limit true exactly low = (
  λ no. absurd (false≢true (sym no)),
  λ all. let fits = exactly.0 refl in
      let past = (past_limit q items limit low).1 all in absurd (omega (arith, fits, past)),
)
least_of q items limit false exactly low = (
  λ no z s. (past_limit q items limit low).0
      (lt_of_not-le (λ fits. false≢true (exactly.1 fits))) z s,
  λ all. refl,
)

-- the layout of a message being written spells it
pub draft_spelled : {head : Octets → ℕ} (h : Header) (q : Option MessageQuestion)
    (items : List Item) (d : PartialMessage) → IsPartial head q items d → h.id < 2 ^ 16
    → h.flags < 2 ^ 16 → sections_in_order items ≡ true → All IsWritable (records_of items)
    → length d.octets ≤ 65535 → Spells (layout h q items) (message_of h q items)
draft_spelled h q items d partial id flags order writable short =
    layout_spells h q items
    (record { id = id; flags = flags; question = partial.askable; in_order = order }) writable
    (omega (arith, short, draft_length q items d partial))
