-- Header, question and sections of a layout are read back at their places.
use Rattle.dns_spec.proofs.Common.{◌≡◌, ℕ, ◌+◌, ◌^◌, ◌<◌, Bool, true, false, cond, nat_le, List, [], ◌∷◌, ◌++◌, length, Option, IfSome, refl, ◌∙◌, subst, arith, append_assoc, length-append, and_parts, leb-true, list_all, option_to_list, Octets, wire, is_name, Header, MessageQuestion, octets16, Section, answer, authority, additional, Item, is_section, records_of, in_section, question_octets, asked_octets, header_octets, section_rank, sections_in_order, IsAskable, field16, several, message_question_at, ap, Some, None, head_of, ap₂}
use Rattle.dns_spec.proofs.Messages.Places.{Stands, stands_front, stands_rest, stands_after, stands_within, number_at, name_written}
use Rattle.dns_spec.proofs.Messages.Sections.{question_read}

-- the records of sets in the order of their sections: answer, then authority, then additional
other_section : (s s' : Section) → section_rank s < section_rank s' → is_section s s' ≡ false
other_section s s' h = grind arith

pub section_with : (s : Section) (i : Item) (is : List Item) (t : Bool) → is_section s i.section ≡ t
    → in_section s (i ∷ is) ≡ cond t (i.records ++ in_section s is) (in_section s is)
section_with s i is t e = grind arith

section_empty : (s : Section) (n : ℕ) (is : List Item) → section_rank s < n
    → list_all (λ (j : Item). nat_le n (section_rank j.section)) is ≡ true → in_section s is ≡ []
section_empty s n [] h all = refl
section_empty s n (i ∷ is) h all =
    let p = and_parts (nat_le n (section_rank i.section))
    (list_all (λ (j : Item). nat_le n (section_rank j.section)) is) all in
    let later = leb-true n (section_rank i.section) p.0 in
    section_with s i is false (other_section s i.section (omega (arith, later)))
    ∙ section_empty s n is h p.1

pub records_by_section : (items : List Item) → sections_in_order items ≡ true → records_of items
    ≡ in_section answer items ++ (in_section authority items ++ in_section additional items)
records_by_section [] h = refl
records_by_section (i ∷ is) h =
    let p = and_parts (list_all (λ (j : Item). nat_le
    (section_rank i.section) (section_rank j.section)) is) (sections_in_order is) h in
    go i.section refl (records_by_section is p.1) p.0
  where
    go : (s : Section) → i.section ≡ s → records_of is ≡ in_section answer is ++ (in_section
        authority is ++ in_section additional is) → list_all (λ (j : Item). nat_le (section_rank
        i.section) (section_rank j.section)) is ≡ true → i.records ++ records_of is ≡ in_section
        answer (i ∷ is) ++ (in_section authority (i ∷ is) ++ in_section additional (i ∷ is))
    go answer e rest later = grind (arith, section_with, append_assoc)
    go authority e rest later = grind (arith, section_empty, section_with, append_assoc)
    go additional e rest later = grind (arith, section_empty, section_with)

-- the header, field by field
pub header_at : {b : Octets} (h : Header) (qd an ns ar : ℕ)
    → h.id < 2 ^ 16 → h.flags < 2 ^ 16 → qd < 2 ^ 16 → an < 2 ^ 16 → ns < 2 ^ 16 → ar < 2 ^ 16
    → Stands b 0 (header_octets h qd an ns ar) → (head_of b ≡ h)
    × (field16 b 4 ≡ qd) × (field16 b 6 ≡ an)
    × (field16 b 8 ≡ ns) × (field16 b 10 ≡ ar)
header_at {b} h qd an ns ar id flags qd-low an-low ns-low ar-low at =
    let o = octets16 h.id in
    let f = octets16 h.flags in
    let q = octets16 qd in
    let a = octets16 an in
    let n = octets16 ns in
    let r = octets16 ar in
    let s5 : Stands b 0 (o ++ f ++ q ++ a ++ n) = stands_front (o ++ f ++ q ++ a ++ n) r at in
    let s4 : Stands b 0 (o ++ f ++ q ++ a) = stands_front (o ++ f ++ q ++ a) n s5 in
    let s3 : Stands b 0 (o ++ f ++ q) = stands_front (o ++ f ++ q) a s4 in
    let s2 : Stands b 0 (o ++ f) = stands_front (o ++ f) q s3 in (
      ap₂ (λ x y. record { id = x; flags = y }) (number_at 2 h.id id (stands_front o f s2))
          (number_at 2 h.flags flags (stands_after 2 o f refl s2)),
      number_at 2 qd qd-low (stands_after 4 (o ++ f) q refl s3),
      number_at 2 an an-low (stands_after 6 (o ++ f ++ q) a refl s4),
      number_at 2 ns ns-low (stands_after 8 (o ++ f ++ q ++ a) n refl s5),
      number_at 2 ar ar-low (stands_after 10 (o ++ f ++ q ++ a ++ n) r refl at),
    )

pub length-question_octets : (q : MessageQuestion)
    → length (question_octets q) ≡ length (wire q.qname) + 4
length-question_octets q = grind (arith, length-append)

-- the question after the header
pub question_at_12 : {b : Octets} (q : MessageQuestion)
    → is_name q.qname ≡ true → q.qtype < 2 ^ 16 → q.qclass < 2 ^ 16
    → Stands b 12 (question_octets q)
    → message_question_at b 12 ≡ Some (q, 12 + length (question_octets q))
question_at_12 {b} q name qtype qclass at =
    let n = wire q.qname in
    let t = octets16 q.qtype in
    let c = octets16 q.qclass in
    let upto_type : Stands b 12 (n ++ t) = stands_front (n ++ t) c at in
    let end : 12 + length n + 4 ≡ 12 + length (question_octets q) =
    omega (arith, length-question_octets q) in
    let class_place : 12 + length (n ++ t) ≡ 12 + length n + 2 =
    omega (arith, length-append n t) in
    question_read b 12 (12 + length n) q (name_written q.qname name (stands_front n t upto_type))
    (omega (arith, end, stands_within (question_octets q) at))
    (number_at 2 q.qtype qtype (stands_rest n t upto_type))
    (number_at 2 q.qclass qclass
    (subst (λ x. Stands b x c) class_place (stands_rest (n ++ t) c at)))
    ∙ ap (λ e. Some (q, e)) end

-- the question section
pub one_question : (q : Option MessageQuestion) → length (option_to_list q) < 2 ^ 16
one_question q = grind arith

pub asked_at_12 : {b : Octets} (q : Option MessageQuestion) → IfSome q IsAskable → Stands b 12
    (asked_octets q) → several (message_question_at b) (length (option_to_list q)) 12
    ≡ Some (option_to_list q, 12 + length (asked_octets q))
unfolding several
asked_at_12 None h at = refl
asked_at_12 {b} (Some q) h at = grind (arith, question_at_12)
