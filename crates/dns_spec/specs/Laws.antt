-- Definitions that only the laws use, about prefixes of a text and about layouts.
use Rattle.std.specs.Prelude.{◌≡◌, ℕ, ◌<◌, ◌^◌, Bool, true, ◌&&◌, List, [], ◌∷◌, nat_le, IsTrue, IfSome}
use Rattle.std.specs.Prelude.{Option}
use Rattle.std.specs.List.{list_all}
use Rattle.dns_spec.specs.Names.{Octets, DomainName, is_name}
use Rattle.dns_spec.specs.Data.{Valid}
use Rattle.dns_spec.specs.ZoneText.{Extent, Entry, EntriesOf}
use Rattle.dns_spec.specs.Records.{ResourceRecord}
use Rattle.dns_spec.specs.Meaning.{Meaning, records, fault_at, EntriesMean}
use Rattle.dns_spec.specs.AllFaults.{EntryFault, line_at}
use Rattle.dns_spec.specs.Sets.{RecordSet, records_at}
use Rattle.dns_spec.specs.Reading.{Header, MessageQuestion}
use Rattle.dns_spec.specs.Layout.{Section, answer, authority, additional, Item}

-- What octets mean after the entries `earlier` of a text. `extent` states whether the octets are
-- all of the remaining text or only a prefix of it.
abbrev pub OctetsMean : DomainName → List Entry → Extent → Octets → Meaning → Type 0
OctetsMean o earlier extent octets m =
    (es : List Entry) × EntriesOf extent octets es × EntriesMean o earlier es m

-- The meaning of a text, by all its faults in order and the records of its other entries: the first
-- fault, and the line on which its entry begins; without a fault, the records.
abbrev pub meaning_by : Octets → List EntryFault → List ResourceRecord → Meaning
meaning_by text [] rs = records rs
meaning_by text (f ∷ found) rs = fault_at f.fault (line_at text f.entry)

-- RFC 1035 4.1: the sections in the order of a message
abbrev pub section_rank : Section → ℕ
section_rank answer = 0
section_rank authority = 1
section_rank additional = 2

-- no set comes after a set of a later section
abbrev pub sections_in_order : List Item → Bool
sections_in_order [] = true
sections_in_order (i ∷ is) =
    list_all (λ (j : Item). nat_le (section_rank i.section) (section_rank j.section)) is
    && sections_in_order is

-- RFC 1035 3.2.1: the record fits the fields of a message, and its data is valid for its type
pub record IsWritable (r : ResourceRecord) : Type 0 where
  pub owner : IsTrue (is_name r.owner)
  pub rtype : r.rtype < 2 ^ 16
  pub ttl : r.ttl < 2 ^ 32
  pub rdata : Valid r.rtype r.rdata

-- RFC 2181 5: the records are those of one set at one owner, with one TTL
pub record IsSetAt (rs : List ResourceRecord) : Type 0 where
  pub owner : DomainName
  pub ttl : ℕ
  pub set : RecordSet
  pub records : rs ≡ records_at owner ttl set

-- RFC 1035 4.1.2: the question fits its fields
pub record IsAskable (q : MessageQuestion) : Type 0 where
  pub qname : IsTrue (is_name q.qname)
  pub qtype : q.qtype < 2 ^ 16
  pub qclass : q.qclass < 2 ^ 16

-- RFC 1035 4.1: header and question fit the fields of a message, and the sets are in the order of
-- its sections
pub record HasRoom (h : Header) (q : Option MessageQuestion) (items : List Item) : Type 0 where
  pub id : h.id < 2 ^ 16
  pub flags : h.flags < 2 ^ 16
  pub question : IfSome q IsAskable
  pub in_order : IsTrue (sections_in_order items)
