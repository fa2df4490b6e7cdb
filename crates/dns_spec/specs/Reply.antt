-- What a server decides about a datagram, step by step, and the reply: its header, its question,
-- and the longest prefix of the RRsets that fits.
use Rattle.std.specs.Prelude.{ℕ, zero, suc, Bool, ◌&&◌, ◌||◌, not, List, [], ◌∷◌, ◌++◌, length, take, nat_lt, nat_le, ◌==◌, if◌then◌else◌}
use Rattle.std.specs.Prelude.{Option, None, Some}
use Rattle.std.specs.Option.{option_map}
use Rattle.dns_spec.specs.Names.{Octets, at_or_below}
use Rattle.dns_spec.specs.Data.{class_in}
use Rattle.dns_spec.specs.Records.{ZoneContents}
use Rattle.dns_spec.specs.Reading.{Header, MessageQuestion, DnsMessage, not_implemented, refused}
use Rattle.dns_spec.specs.Query.{reply_head, refusal_head, QueryRead, absent, refused_with, query, query_read}
use Rattle.dns_spec.specs.Layout.{Item, layout, message_of}
use Rattle.dns_spec.specs.LayoutSize.{size}
use Rattle.dns_spec.specs.Answer.{outcome, items, required_items, is_authoritative}

-- the greatest k up to n that passes the test, or 0
abbrev pub greatest : (ℕ → Bool) → ℕ → ℕ
greatest test zero = 0
greatest test (suc k) = if test (suc k) then suc k else greatest test k

-- The longest prefix of a list of sets with which the size of the reply is at most the limit. In
-- this product, an RRset is sent whole or not at all (with TC, RFC 2181 section 9 allows a part of
-- it). If not even the question fits (header and question may need 271 octets), no set is kept and
-- the reply exceeds the limit.
abbrev pub kept : (List Item → ℕ) → ℕ → List Item → List Item
kept size_of limit sets =
    take (greatest (λ k. nat_le (size_of (take k sets)) limit) (length sets)) sets

-- Adds sets to `front` one after another, and stops before the first set with which the size
-- exceeds the limit.
abbrev pub fitting : (List Item → ℕ) → ℕ → List Item → List Item → List Item
fitting size_of limit front [] = front
fitting size_of limit front (i ∷ is) =
    let next = front ++ i ∷ [] in
    if nat_le (size_of next) limit then fitting size_of limit next is else front

-- RFC 2181 section 9, RFC 9471 section 3.1: TC (RFC 1035 4.1.1) is set if a required set is
-- missing, such as glue that does not fit, but not if only optional addresses are missing.
abbrev pub truncated : ZoneContents → MessageQuestion → List Item → Bool
truncated z q sets = nat_lt (length sets) (length (required_items z q.qname q.qtype))

-- What is sent for a datagram: nothing; this header; this header and this question; or an answer to
-- the query with this header and question.
pub data Decision : Type 0 where
  silence : Decision
  header_alone : Header → Decision
  question_alone : Header → MessageQuestion → Decision
  answered : Header → MessageQuestion → Decision

-- QTYPEs that are not types of records: 0, OPT, and 128 to 254 (RFC 6895 3.1)
abbrev pub is_meta_type : ℕ → Bool
is_meta_type t = t == 0 || t == 41 || nat_le 128 t && nat_le t 254

-- The RCODE with which a question is refused, if any. Its class is tested first, then its type,
-- then its name; the order is this project's choice.
abbrev pub refusal : ZoneContents → MessageQuestion → Option ℕ
refusal z q =
    if not (q.qclass == class_in) then Some refused
    else if is_meta_type q.qtype then Some not_implemented
    else if not (at_or_below q.qname z.origin) then Some refused
    else None

-- what is sent for a question, for a query, and for a datagram
abbrev pub decide_question : Header → MessageQuestion → Option ℕ → Decision
decide_question h q None = answered h q
decide_question h q (Some rcode) = question_alone (refusal_head h rcode) q

abbrev pub decide_query : ZoneContents → QueryRead → Decision
decide_query z absent = silence
decide_query z (refused_with h) = header_alone h
decide_query z (query h q) = decide_question h q (refusal z q)

unfoldable pub decide : ZoneContents → Octets → Decision
decide z d = decide_query z (query_read d)

-- A reply: its header, its question unless only the header is sent, and the RRsets that it keeps.
pub record Reply : Type 0 where
  pub header : Header
  pub question : Option MessageQuestion
  pub sets : List Item

-- The reply to a question with these sets, which are a prefix of all sets for the question.
abbrev pub answer_with : ZoneContents → Header → MessageQuestion → List Item → Reply
answer_with z h q sets =
    let o = outcome z q.qname q.qtype in
    record {
      header = reply_head h (is_authoritative o) (truncated z q sets) o.rcode;
      question = Some q;
      sets = sets;
    }

-- The reply by a decision, and the reply to a datagram; `keep` gives the sets that the reply to a
-- question keeps.
abbrev pub reply_of : (MessageQuestion → List Item) → ZoneContents → Decision → Option Reply
reply_of keep z silence = None
reply_of keep z (header_alone h) = Some (record { header = h; question = None; sets = [] })
reply_of keep z (question_alone h q) = Some (record { header = h; question = Some q; sets = [] })
reply_of keep z (answered h q) = Some (answer_with z h q (keep q))

unfoldable pub reply_with : (MessageQuestion → List Item) → ZoneContents → Octets → Option Reply
reply_with keep z d = reply_of keep z (decide z d)

-- the longest prefix of all sets for a question with which the reply fits the limit; the limit
-- should be at least 271 octets
abbrev pub keep_longest : ZoneContents → ℕ → MessageQuestion → List Item
keep_longest z limit q = kept (size (Some q)) limit (items z q.qname q.qtype)

-- the reply to a datagram within a limit, if there is one
unfoldable pub reply : ZoneContents → Octets → ℕ → Option Reply
reply z d limit = reply_with (keep_longest z limit) z d

-- the octets of a reply: the layout of its question and sets
abbrev pub reply_octets : Reply → Octets
reply_octets r = layout r.header r.question r.sets

-- the message that a reply spells
abbrev pub reply_message : Reply → DnsMessage
reply_message r = message_of r.header r.question r.sets

-- The octets of the reply to a datagram, if it gets one: at most `limit` octets if the limit is at
-- least 271, so that every question fits. Below 271, a question may exceed the limit.
unfoldable pub octets_of : ZoneContents → Octets → ℕ → Option Octets
octets_of z d limit = option_map reply_octets (reply z d limit)
