-- How a datagram is read as a query, before any zone is consulted: it is ignored, refused with
-- only a header, or has a header and a question.
use Rattle.std.specs.Prelude.{ℕ, ◌+◌, ◌*◌, ◌/◌, ◌%◌, ◌^◌, Bool, false, ◌&&◌, ◌||◌, not, length, nat_lt, nat_le, ◌==◌, if◌then◌else◌}
use Rattle.std.specs.Prelude.{Option, None, Some}
use Rattle.dns_spec.specs.Names.{Octets, DomainName}
use Rattle.dns_spec.specs.Reading.{Header, MessageQuestion, field16, head_of, format_error, not_implemented}
use Rattle.dns_spec.specs.ComputedNames.{name_at}

-- RFC 1035 4.2.1 and 4.2.2: the most octets of a message over UDP, and over TCP
abbrev pub most_over_udp : ℕ
most_over_udp = 512

abbrev pub most_over_tcp : ℕ
most_over_tcp = 65535

-- RFC 1035 4.1.1: the flags QR, opcode and RD, which a server examines
abbrev pub is_response : ℕ → Bool
is_response flags = nat_le 1 (flags / 2 ^ 15)

abbrev pub opcode : ℕ → ℕ
opcode flags = flags / 2 ^ 11 % 2 ^ 4

abbrev pub recursion_desired : ℕ → ℕ
recursion_desired flags = flags / 2 ^ 8 % 2

-- a bit as a number
abbrev pub bit : Bool → ℕ
bit b = if b then 1 else 0

-- The header of a reply to a query with header h: ID, opcode and RD as in h, QR set, RA and the
-- three Z bits 0, and this AA, TC and RCODE.
abbrev pub reply_head : Header → Bool → Bool → ℕ → Header
reply_head h aa tc rcode = record {
  id = h.id;
  flags =
      2 ^ 15 + opcode h.flags * 2 ^ 11 + bit aa * 2 ^ 10 + bit tc * 2 ^ 9
      + recursion_desired h.flags * 2 ^ 8 + rcode;
}

-- the header of a reply without records: AA and TC 0, and this RCODE
abbrev pub refusal_head : Header → ℕ → Header
refusal_head h = reply_head h false false

-- RFC 1035 4.1.2: the question whose name is n, if the datagram ends with its QTYPE and QCLASS; the
-- name ends before place e
abbrev pub question_of : Octets → DomainName × ℕ → Option MessageQuestion
question_of d (n, e) =
    if length d == e + 4
    then Some (record { qname = n; qtype = field16 d e; qclass = field16 d (e + 2) }) else None

-- the question after the header, if nothing follows it
unfoldable pub question_at : Octets → Option MessageQuestion
question_at d = elim (name_at d 12) [ None ↦ None | Some r ↦ question_of d r ]

-- the header counts one question and no records
abbrev pub counts_are_one_question : Octets → Bool
counts_are_one_question d =
    field16 d 4 == 1 && field16 d 6 == 0 && field16 d 8 == 0 && field16 d 10 == 0

-- a datagram that is shorter than a header, or is a response, gets no reply
abbrev pub is_ignored : Octets → Bool
is_ignored d = nat_lt (length d) 12 || is_response (field16 d 2)

-- A datagram as a query: `absent` if it gets no reply; `refused_with` the header that is the whole
-- reply, if its opcode is not 0 or it does not consist of a header and exactly one question; else
-- `query`, with its header as received and its question.
pub data QueryRead : Type 0 where
  absent : QueryRead
  refused_with : Header → QueryRead
  query : Header → MessageQuestion → QueryRead

-- a query with its question; without a question, it is refused as a format error
abbrev pub query_or_error : Header → Option MessageQuestion → QueryRead
query_or_error h None = refused_with (refusal_head h format_error)
query_or_error h (Some q) = query h q

-- How a datagram is read; the order of these tests is this project's choice.
unfoldable pub query_read : Octets → QueryRead
query_read d =
    if is_ignored d then absent
    else if not (opcode (field16 d 2) == 0)
    then refused_with (refusal_head (head_of d) not_implemented)
    else if not (counts_are_one_question d)
    then refused_with (refusal_head (head_of d) format_error)
    else query_or_error (head_of d) (question_at d)
