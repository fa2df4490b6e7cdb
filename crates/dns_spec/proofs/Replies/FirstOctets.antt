-- A reply depends only on the first octets of a datagram.
use Rattle.dns_spec.proofs.Common.{◌≡◌, ℕ, ◌<◌, ◌≤◌, Bool, not, cond, ◌==◌, ◌⊎◌, inl, inr, List, length, take, Option, None, refl, sym, ap, arith, take_all, length-take-le, cases_lt, Octets, ZoneContents, option_map, Item, decide_query, decide, reply_of, reply_with, keep_longest, reply, reply_octets, octets_of, Header, MessageQuestion, format_error, not_implemented, most_over_udp, opcode, head_of, refusal_head, question_at, counts_are_one_question, is_ignored, QueryRead, absent, refused_with, query_or_error, query_read}
use Rattle.dns_spec.proofs.Messages.Question.{question_ends}

-- how a datagram is read, by the parts of it that are examined
read_by : Bool → Header → Bool → Option MessageQuestion → QueryRead
read_by ignored h one q =
    cond ignored absent
    (cond (not (opcode h.flags == 0)) (refused_with (refusal_head h not_implemented))
    (cond (not one) (refused_with (refusal_head h format_error)) (query_or_error h q)))

query_is : (d : Octets)
    → query_read d ≡ read_by (is_ignored d) (head_of d) (counts_are_one_question d) (question_at d)
unfolding query_read read_by
query_is d = refl

too_long : (d : Octets) (y : Option MessageQuestion) → 271 < length d → question_at d ≡ y → y ≡ None
too_long d y h h1 = grind (arith, question_ends)

module _ (d : Octets) (long : most_over_udp < length d) where
  shorter : length (take most_over_udp d) ≡ most_over_udp
  shorter = length-take-le most_over_udp d (omega arith)

  query_kept : query_read d ≡ query_read (take most_over_udp d)
  query_kept = grind (arith, query_is, too_long, shorter)

pub first_octets_read : (d : Octets) → query_read d ≡ query_read (take most_over_udp d)
first_octets_read d = go (cases_lt most_over_udp (length d))
  where
    go : (most_over_udp < length d) ⊎ (length d ≤ most_over_udp)
        → query_read d ≡ query_read (take most_over_udp d)
    go (inl long) = query_kept d long
    go (inr short) = ap query_read (sym (take_all most_over_udp d short))

pub first_octets_decide : (z : ZoneContents) (keep : MessageQuestion → List Item) (d : Octets)
    → reply_with keep z d ≡ reply_with keep z (take most_over_udp d)
unfolding reply_with decide
first_octets_decide z keep d = ap (λ x. reply_of keep z (decide_query z x)) (first_octets_read d)

-- the reply and its octets too depend only on the first 512 octets
pub first_octets_reply : (z : ZoneContents) (d : Octets) (limit : ℕ)
    → reply z d limit ≡ reply z (take most_over_udp d) limit
unfolding reply
first_octets_reply z d limit = first_octets_decide z (keep_longest z limit) d

pub first_octets_answer : (z : ZoneContents) (d : Octets) (limit : ℕ)
    → octets_of z d limit ≡ octets_of z (take most_over_udp d) limit
unfolding octets_of
first_octets_answer z d limit = ap (option_map reply_octets) (first_octets_reply z d limit)
