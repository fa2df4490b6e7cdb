-- How a reply is laid out in octets: which suffix of a name is shared with an earlier name, and the
-- place to which its pointer points.
use Rattle.std.specs.Prelude.{ℕ, ◌+◌, ◌-◌, ◌*◌, Bool, true, false, ◌&&◌, List, [], ◌∷◌, ◌++◌, map, length, nat_le, if◌then◌else◌}
use Rattle.std.specs.Prelude.{Option, None, Some}
use Rattle.std.specs.Option.{option_to_list}
use Rattle.std.specs.List.{filter, flat_map}
use Rattle.std.specs.Int.{bytes_high_first}
use Rattle.dns_spec.specs.Names.{Octets, DomainName, wire, names_equal, last_labels}
use Rattle.dns_spec.specs.Data.{class_in, Part, octets, name, laid_parts}
use Rattle.dns_spec.specs.Records.{ResourceRecord}
use Rattle.dns_spec.specs.Reading.{Header, MessageQuestion, MessageRecord, DnsMessage}

-- RFC 1035 2.3.2: numbers of 16 and of 32 bits, the most significant octet first
abbrev pub octets16 : ℕ → Octets
octets16 = bytes_high_first 2

abbrev pub octets32 : ℕ → Octets
octets32 = bytes_high_first 4

-- RFC 1035 4.1: the sections of a reply after its question
pub data Section : Type 0 where
  answer : Section
  authority : Section
  additional : Section

-- An RRset in a section of a reply; a reply contains it whole or not at all.
pub record Item : Type 0 where
  pub section : Section
  pub records : List ResourceRecord

-- two sections are the same
abbrev pub is_section : Section → Section → Bool
is_section answer answer = true
is_section authority authority = true
is_section additional additional = true
is_section _ _ = false

-- the records of all sets, and the records of one section
abbrev pub records_of : List Item → List ResourceRecord
records_of = flat_map (λ (i : Item). i.records)

abbrev pub in_section : Section → List Item → List ResourceRecord
in_section s items = records_of (filter (λ (i : Item). is_section s i.section) items)

-- RFC 1035 4.1.4: a pointer to place p
abbrev pub pointer : ℕ → Octets
pointer p = octets16 (192 * 256 + p)

-- An earlier name in the message, and the place where the name begins.
abbrev pub Placed : Type 0
Placed = DomainName × ℕ

-- the name n ends with the name s, octet by octet
abbrev pub has_suffix : DomainName → DomainName → Bool
has_suffix n s = nat_le (length s) (length n) && names_equal (last_labels (length s) n) s

-- the place at which the suffix s of an earlier name begins, provided that all labels of the name
-- in front of s are written out
abbrev pub suffix_place : Placed → DomainName → ℕ
suffix_place m s = m.1 + (length (wire m.0) - length (wire s))

-- The place at which s begins in the first earlier name that ends with s. No name before that name
-- ends with s, so that name is written out at least up to the first label of s, before any pointer.
abbrev pub place_of : List Placed → DomainName → Option ℕ
place_of [] s = None
place_of (m ∷ ms) s = if has_suffix m.0 s then Some (suffix_place m s) else place_of ms s

-- RFC 1035 4.1.4: the last place that the 14 bits of a pointer reach
abbrev pub last_place : ℕ
last_place = 16383

-- the number of places that a pointer reaches: all places of a message of at most 16,384 octets
abbrev pub reach : ℕ
reach = 1 + last_place

-- the place, if a pointer reaches it
abbrev pub reached : Option ℕ → Option ℕ
reached None = None
reached (Some p) = if nat_le p last_place then Some p else None

-- the place to which a name that ends with s may point: the one that `place_of` gives, if a pointer
-- reaches it
abbrev pub shared_place : List Placed → DomainName → Option ℕ
shared_place ms s = reached (place_of ms s)

-- A function that gives the place of a suffix among earlier names, if the suffix is to be shared:
-- `shared_place` for the layout, and `place_of` for the unbounded layout, as if a pointer reached
-- every place.
abbrev pub Lookup : Type 0
Lookup = List Placed → DomainName → Option ℕ

-- RFC 1035 4.1.4: a name is written as its labels before the longest suffix for which `find` gives
-- a place, and a pointer to that place; without such a suffix, the name is written whole. The root
-- is never shared.
unfoldable pub octets_by : Lookup → List Placed → DomainName → Octets
octets_by find ms [] = 0 ∷ []
octets_by find ms (l ∷ n) =
    elim (find ms (l ∷ n)) [
      | None ↦ length l ∷ (l ++ octets_by find ms n)
      | Some p ↦ pointer p
    ]

-- the name as the layout writes it: a suffix is shared if an earlier name has it at a place that a
-- pointer reaches
abbrev pub shared_octets : List Placed → DomainName → Octets
shared_octets = octets_by shared_place

-- What is laid out: its octets, and the names in it with their places.
pub record Laid : Type 0 where
  pub written : Octets
  pub names : List Placed

-- octets, and the names in them, in front of what is laid out after them
abbrev pub laid_front : Octets → List Placed → Laid → Laid
laid_front o ms l = record { written = o ++ l.written; names = ms ++ l.names }

-- data laid out from place p on; runs of octets are copied
unfoldable pub data_by : Lookup → List Placed → ℕ → List Part → Laid
data_by find ms p [] = record { written = []; names = [] }
data_by find ms p (octets o ∷ ps) = laid_front o [] (data_by find ms (p + length o) ps)
data_by find ms p (name n ∷ ps) =
    let w = octets_by find ms n in
    laid_front w ((n, p) ∷ []) (data_by find (ms ++ (n, p) ∷ []) (p + length w) ps)

abbrev pub data_laid : List Placed → ℕ → List Part → Laid
data_laid = data_by shared_place

-- the parts of a record's data for a writer
abbrev pub parts_of : ResourceRecord → List Part
parts_of r = laid_parts r.rtype r.rdata

-- RFC 1035 4.1.3: type, class, TTL, data length and data after an owner
abbrev pub record_tail : ResourceRecord → Octets → Octets
record_tail r d =
    octets16 r.rtype ++ octets16 class_in ++ octets32 r.ttl ++ octets16 (length d) ++ d

-- a record laid out from place p on; the names in its data may share suffixes with its owner
abbrev pub record_by : Lookup → List Placed → ℕ → ResourceRecord → Laid
record_by find ms p r =
    let owner = octets_by find ms r.owner in
    let d = data_by find (ms ++ (r.owner, p) ∷ []) (p + length owner + 10) (parts_of r) in
    record { written = owner ++ record_tail r d.written; names = (r.owner, p) ∷ d.names }

abbrev pub record_laid : List Placed → ℕ → ResourceRecord → Laid
record_laid = record_by shared_place

-- records laid out from place p on; the names of each are earlier names for the records after it
unfoldable pub records_by : Lookup → List Placed → ℕ → List ResourceRecord → Octets
records_by find ms p [] = []
records_by find ms p (r ∷ rs) =
    let l = record_by find ms p r in
    l.written ++ records_by find (ms ++ l.names) (p + length l.written) rs

abbrev pub records_octets : List Placed → ℕ → List ResourceRecord → Octets
records_octets = records_by shared_place

-- RFC 1035 4.1.2: the question, spelled as it was asked
abbrev pub question_octets : MessageQuestion → Octets
question_octets q = wire q.qname ++ octets16 q.qtype ++ octets16 q.qclass

-- the question section of a message that has one question or none
abbrev pub asked_octets : Option MessageQuestion → Octets
asked_octets None = []
asked_octets (Some q) = question_octets q

-- the names in front of the first record: the QNAME, which begins at place 12, if there is a
-- question
abbrev pub asked_placed : Option MessageQuestion → List Placed
asked_placed None = []
asked_placed (Some q) = (q.qname, 12) ∷ []

-- RFC 1035 4.1.1: ID and flags, and the numbers of questions, answers, authority and additional
-- records
abbrev pub header_octets : Header → ℕ → ℕ → ℕ → ℕ → Octets
header_octets h qd an ns ar =
    octets16 h.id ++ octets16 h.flags ++ octets16 qd ++ octets16 an ++ octets16 ns ++ octets16 ar

-- the header of a reply, with the numbers of its questions and of the records in each section
abbrev pub reply_header : Header → Option MessageQuestion → List Item → Octets
reply_header h q items =
    header_octets h (length (option_to_list q)) (length (in_section answer items))
    (length (in_section authority items)) (length (in_section additional items))

-- The layout: header, question and records. The question's name is the first of the earlier names.
-- Without a question, the records begin at place 12 and have no earlier name.
unfoldable pub layout : Header → Option MessageQuestion → List Item → Octets
layout h q items =
    reply_header h q items ++ asked_octets q
    ++ records_octets (asked_placed q) (12 + length (asked_octets q)) (records_of items)

-- A record in a message, and the message that a layout spells.
abbrev pub message_record : ResourceRecord → MessageRecord
message_record r =
    record { owner = r.owner; rtype = r.rtype; rclass = class_in; ttl = r.ttl; rdata = r.rdata }

abbrev pub message_of : Header → Option MessageQuestion → List Item → DnsMessage
message_of h q items = record {
  header = h;
  questions = option_to_list q;
  answers = map message_record (in_section answer items);
  authorities = map message_record (in_section authority items);
  additionals = map message_record (in_section additional items);
}
