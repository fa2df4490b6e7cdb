-- How a question is decided, when a reply was written, and what it may cost.
use Rattle.std.specs.Prelude.{⊤, ◌≡◌, ◌↔◌, ℕ, ◌*◌, ◌≤◌, List, length, take, Option, None, Some, Result, Ok, Err, IsTrue, IsNone, IfSome}
use Rattle.std.specs.Option.{option_map}
use Rattle.dns_spec.specs.Names.{Octets}
use Rattle.dns_spec.specs.Records.{ZoneContents}
use Rattle.dns_spec.specs.Reading.{Header, MessageQuestion, Spells}
use Rattle.dns_spec.specs.Layout.{Item, layout}
use Rattle.dns_spec.specs.Query.{is_ignored}
use Rattle.dns_spec.specs.Answer.{items, most_visits, names_looked_up, most_comparisons}
use Rattle.dns_spec.specs.Reply.{Decision, silence, header_alone, question_alone, answered, refusal, answer_with, reply_of, keep_longest, reply_octets, decide, reply, reply_message, octets_of}
use Rattle.dns_zone.specs.Nodes.{Walk}
use Rattle.dns_wire.specs.PartialMessage.{IsPartial}
use Rattle.dns_wire.specs.QueryForm.{code_of}
use Rattle.dns_wire.specs.QuickNumbers.{quick_number}
use Rattle.dns_answer.specs.OfferedReply.{empty_reply}
use Rattle.dns_answer.specs.ReplyBuilderForm.{State, Holds, Offers}
use Rattle.dns_zone.specs.Starts.{IsBelow}
use Rattle.dns_wire.specs.declared.query.Rcode.{Rcode}
use Rattle.dns_zone.specs.declared.tree.sought.Sought.{Sought}

-- a question is refused with an RCODE, or its name is sought from the origin
abbrev pub JudgedAs : ZoneContents → MessageQuestion → Result Sought Rcode → Type 0
JudgedAs z q (Err rcode) = refusal z q ≡ Some (code_of rcode)
JudgedAs z q (Ok sought) =
    (refusal z q ≡ None) × (sought.name ≡ q.qname) × IsBelow sought z.origin

-- The octets are the reply of a decision, with the longest prefix of its sets that fits.
pub record IsReply (z : ZoneContents) (limit : ℕ) (x : Decision) (sent : Octets) : Type 0 where
  pub octets : Some sent ≡ option_map reply_octets (reply_of (keep_longest z limit) z x)
  pub within : length sent ≤ limit

-- the octets of the written reply with its header, as `MessageBuilder::finish` makes them
pub record IsLaidOut (w : State) (head : Header) (sent : Octets) : Type 0 where
  pub octets : (q : Option MessageQuestion) (items : List Item)
      → IsPartial quick_number q items w.message → sent ≡ layout head q items
  pub within : length sent ≤ w.message.limit

-- With this header, the written reply is the reply of a decision.
abbrev pub IsHeaded : ZoneContents → ℕ → Decision → State → Header → Type 0
IsHeaded z limit x w head = (sent : Octets) → IsLaidOut w head sent → IsReply z limit x sent

-- All sets of an answer are offered, and `head` is the header of the reply with those that fit.
pub record Answers (z : ZoneContents) (h : Header) (q : MessageQuestion) (w w' : State)
    (head : Header) : Type 0 where
  pub offers : Offers w w' (items z q.qname q.qtype)
  pub header : (limit : ℕ) → Holds w (empty_reply q limit)
      → head ≡ (answer_with z h q (keep_longest z limit q)).header

-- the most nodes that a decision visits, and the most names that it looks up; none, unless a
-- question is answered
abbrev pub visits_for : ZoneContents → Decision → ℕ
visits_for z silence = 0
visits_for z (header_alone h) = 0
visits_for z (question_alone h q) = 0
visits_for z (answered h q) = most_visits z q.qname q.qtype

abbrev pub names_for : ZoneContents → Decision → ℕ
names_for z silence = 0
names_for z (header_alone h) = 0
names_for z (question_alone h q) = 0
names_for z (answered h q) = names_looked_up z q.qname q.qtype

-- the most label comparisons of a decision that visits `visits` nodes
abbrev pub comparisons_for : ZoneContents → Decision → ℕ → ℕ
comparisons_for z silence visits = 0
comparisons_for z (header_alone h) visits = 0
comparisons_for z (question_alone h q) visits = 0
comparisons_for z (answered h q) visits = most_comparisons z q.qname q.qtype visits

-- If the walk s had counts of 0, s' has counted no more than a decision may cost.
pub record Costs (x : Decision) (s s' : Walk) : Type 0 where
  pub zone : s'.zone ≡ s.zone
  pub visits : s'.visits ≤ visits_for s.zone x
  pub visits_a_name : s'.visits ≤ 128 * names_for s.zone x
  pub comparisons : s'.comparisons ≤ comparisons_for s.zone x s'.visits

-- The reply to a datagram within a limit and the message that it spells, or nothing if the datagram
-- gets no reply; and the cost, for a walk that had counted nothing.
pub record Responds (s s' : Walk) (datagram : Octets) (limit : ℕ) (sent : Option Octets)
    : Type 0 where
  pub absent : IsNone sent ↔ IsTrue (is_ignored datagram)
  pub octets : sent ≡ octets_of s.zone datagram limit
  pub spells : IfSome sent (λ o. IfSome (reply s.zone datagram limit)
      (λ r. Spells o (reply_message r)))
  pub fits : IfSome sent (λ o. length o ≤ limit)
  pub costs : Costs (decide s.zone datagram) s s'

-- The octets, if there are any, are at the front of `out`, and `len` is their number.
abbrev pub IsPut : Option Octets → Option ℕ → Octets → Type 0
IsPut None None out = ⊤
IsPut None (Some len) out = ⊥
IsPut (Some o) None out = ⊥
IsPut (Some o) (Some len) out = (take len out ≡ o) × (len ≡ length o)
