-- Which message octets spell. `name_at` gives the name at a place and the place after the name; by
-- a law, it computes the relation `NameAt` of NamesInMessages.
use Rattle.std.specs.Prelude.{◌≡◌, ℕ, zero, suc, ◌+◌, ◌-◌, ◌&&◌, List, [], ◌∷◌, ◌++◌, length, take, drop, nat_le, ◌==◌, if◌then◌else◌}
use Rattle.std.specs.Prelude.{Option, None, Some}
use Rattle.std.specs.Option.{option_map, option_and_then}
use Rattle.dns_spec.specs.Names.{Octets, DomainName, wire}
use Rattle.dns_spec.specs.Data.{class_in, Field, domain, anything, fields_of, part_octets, field_front, number_of}
use Rattle.dns_spec.specs.ComputedNames.{SpelledName, name_at}

-- RFC 1035 4.1.1: the ID, and as one number of 16 bits the flags: QR, opcode, AA, TC, RD, RA,
-- three zero bits and RCODE
pub record Header : Type 0 where
  pub id : ℕ
  pub flags : ℕ

-- RFC 1035 4.1.2: a question of a message
pub record MessageQuestion : Type 0 where
  pub qname : DomainName
  pub qtype : ℕ
  pub qclass : ℕ

-- RFC 1035 4.1.3: a record of a message, its data uncompressed
pub record MessageRecord : Type 0 where
  pub owner : DomainName
  pub rtype : ℕ
  pub rclass : ℕ
  pub ttl : ℕ
  pub rdata : Octets

-- RFC 1035 4.1: the counts of a message are the lengths of its lists
pub record DnsMessage : Type 0 where
  pub header : Header
  pub questions : List MessageQuestion
  pub answers : List MessageRecord
  pub authorities : List MessageRecord
  pub additionals : List MessageRecord

-- RFC 1035 4.1.1: the RCODEs of this product's replies
abbrev pub no_error : ℕ
no_error = 0

abbrev pub format_error : ℕ
format_error = 1

abbrev pub name_error : ℕ
name_error = 3

abbrev pub not_implemented : ℕ
not_implemented = 4

abbrev pub refused : ℕ
refused = 5

-- RFC 1035 2.3.2: the number of 16 bits, and the number of 32 bits, at place i
abbrev pub field16 : Octets → ℕ → ℕ
field16 b i = number_of (take 2 (drop i b))

abbrev pub field32 : Octets → ℕ → ℕ
field32 b i = number_of (take 4 (drop i b))

-- RFC 1035 4.1.1: the ID and the flags
abbrev pub head_of : Octets → Header
head_of b = record { id = field16 b 0; flags = field16 b 2 }

-- RFC 1035 4.1.2: the question at place i, and the place after it
abbrev pub question_after : Octets → SpelledName → Option (MessageQuestion × ℕ)
question_after b (n, j) =
    if nat_le (j + 4) (length b)
    then Some (record { qname = n; qtype = field16 b j; qclass = field16 b (j + 2) }, j + 4)
    else None

abbrev pub message_question_at : Octets → ℕ → Option (MessageQuestion × ℕ)
message_question_at b i = option_and_then (question_after b) (name_at b i)

-- A name, if it ends by place e; and the field at place i of data that ends before place e, for
-- i ≤ e ≤ length b: its octets without compression, and the place after it. RFC 1035 4.1.4: only
-- names contain pointers.
abbrev pub name_inside : ℕ → SpelledName → Option (Octets × ℕ)
name_inside e (n, j) = if nat_le j e then Some (wire n, j) else None

abbrev pub field_at : Octets → Field → ℕ → ℕ → Option (Octets × ℕ)
field_at b domain i e = option_and_then (name_inside e) (name_at b i)
field_at b f i e =
    option_map (λ r. (part_octets r.0, e - length r.1)) (field_front f (take (e - i) (drop i b)))

-- fields in order, from place i up to place e
unfoldable pub fields_at : Octets → List Field → ℕ → ℕ → Option Octets
fields_at b [] i e = if i == e then Some [] else None
fields_at b (f ∷ fs) i e =
    option_and_then (λ r. option_map (λ d. r.0 ++ d) (fields_at b fs r.1 e)) (field_at b f i e)

-- The data from place i up to place e, by the fields of its type in class IN. In another class, or
-- if the type is not in the table, the data is any octets; in this product, that includes types for
-- which RFC 1035 3.3 defines names in the data.
abbrev pub data_fields : ℕ → ℕ → List Field
data_fields t c = if c == class_in then fields_of t else anything ∷ []

abbrev pub data_at : Octets → ℕ → ℕ → ℕ → ℕ → Option Octets
data_at b t c i e =
    if nat_le i e && nat_le e (length b) then fields_at b (data_fields t c) i e else None

-- RFC 1035 4.1.3: the record at place i, and the place after it
abbrev pub record_with : Octets → SpelledName → Octets → MessageRecord × ℕ
record_with b (n, j) d = (
  record {
    owner = n;
    rtype = field16 b j;
    rclass = field16 b (j + 2);
    ttl = field32 b (j + 4);
    rdata = d;
  },
  j + 10 + field16 b (j + 8),
)

abbrev pub record_after : Octets → SpelledName → Option (MessageRecord × ℕ)
record_after b (n, j) =
    if nat_le (j + 10) (length b)
    then option_map (record_with b (n, j))
    (data_at b (field16 b j) (field16 b (j + 2)) (j + 10) (j + 10 + field16 b (j + 8)))
    else None

abbrev pub message_record_at : Octets → ℕ → Option (MessageRecord × ℕ)
message_record_at b i = option_and_then (record_after b) (name_at b i)

-- k questions or records in order, from place i on, and the place after them; `read` gives the one
-- at a place, and the place after it
unfoldable pub several : {X : Type 0} → (ℕ → Option (X × ℕ)) → ℕ → ℕ → Option (List X × ℕ)
several read zero i = Some ([], i)
several read (suc k) i =
    option_and_then (λ r. option_map (λ s. (r.0 ∷ s.0, s.1)) (several read k r.1)) (read i)

-- RFC 1035 4.1: the message, by the sections already read and the place after them; the octets end
-- with the last section
abbrev pub last_section : Octets → List MessageQuestion → List MessageRecord → List MessageRecord
    → List MessageRecord × ℕ → Option DnsMessage
last_section b qs ans ns r =
    if r.1 == length b
    then Some (record {
      header = head_of b;
      questions = qs;
      answers = ans;
      authorities = ns;
      additionals = r.0;
    })
    else None

abbrev pub from_additionals : Octets → List MessageQuestion → List MessageRecord
    → List MessageRecord × ℕ → Option DnsMessage
from_additionals b qs ans r =
    option_and_then (last_section b qs ans r.0)
    (several (message_record_at b) (field16 b 10) r.1)

abbrev pub from_authorities : Octets → List MessageQuestion → List MessageRecord × ℕ
    → Option DnsMessage
from_authorities b qs r =
    option_and_then (from_additionals b qs r.0) (several (message_record_at b) (field16 b 8) r.1)

abbrev pub from_answers : Octets → List MessageQuestion × ℕ → Option DnsMessage
from_answers b r =
    option_and_then (from_authorities b r.0) (several (message_record_at b) (field16 b 6) r.1)

-- the message that octets spell, with nothing left over
unfoldable pub message_at : Octets → Option DnsMessage
message_at b =
    if nat_le 12 (length b)
    then option_and_then (from_answers b) (several (message_question_at b) (field16 b 4) 12)
    else None

abbrev pub Spells : Octets → DnsMessage → Type 0
Spells b m = message_at b ≡ Some m

abbrev pub NoMessage : Octets → Type 0
NoMessage b = message_at b ≡ None
