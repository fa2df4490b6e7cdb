-- The octets of a reply spell its message, and are at most its limit.
use Rattle.dns_spec.proofs.Common.{◌≡◌, ℕ, ◌+◌, ◌^◌, ◌<◌, ◌≤◌, true, nat_le, ◌==◌, List, [], ◌∷◌, length, take, drop, Option, None, Some, IfSome, All, refl, subst, arith, length-take, cond_both, and_parts, leb-true, none-some, same_Some, cond_some, Octets, DomainName, is_name, number_of, ZoneContents, Header, MessageQuestion, Spells, name_at, Item, layout, message_of, size, items, All-take, All-drop, field16, head_of, refusal_head, question_of, question_at, query_read, Decision, silence, header_alone, question_alone, answered, decide, Reply, reply_of, reply_with, reply_octets, reply_message, keep_longest, reply, greatest, sections_in_order, IsWritable, IsAskable, HasRoom, AllByRecursion, recursion_from_All, records_by}
use Rattle.dns_spec.proofs.Messages.NameReading.{name_at_computes}
use Rattle.dns_spec.proofs.Layouts.MessageParts.{length-question_octets}
use Rattle.dns_spec.proofs.Layouts.LayoutSize.{length-layout}
use Rattle.dns_spec.proofs.Layouts.SharedLayout.{layout_spells}
use Rattle.dns_spec.proofs.Replies.WritableItems.{items_in_order, items_writable, outcome_rcode}
use Rattle.dns_spec.proofs.Replies.Kept.{kept_fits}

-- a field of two octets below 256 is below 2^16
two_bound : (os : Octets) → length os ≤ 2 → AllByRecursion (λ o. o < 256) os → number_of os < 2 ^ 16
two_bound [] h e = omega arith
two_bound (a ∷ []) h e = let p = e.0 in omega (arith, p)
two_bound (a ∷ b ∷ []) h e = let p = e.0 in let q = e.1.0 in omega (arith, p, q)
two_bound (a ∷ b ∷ c ∷ os) h e = absurd (omega arith)

field_bound : (d : Octets) (i : ℕ) → All (λ o. o < 256) d → field16 d i < 2 ^ 16
field_bound d i e =
    two_bound (take 2 (drop i d)) (omega (arith, length-take 2 (drop i d)))
    (recursion_from_All (λ o. o < 256)
    (take 2 (drop i d)) (All-take (λ o. o < 256) 2 (drop i d) (All-drop (λ o. o < 256) i d e)))

-- a question that was read fits its fields
askable : (d : Octets) (q : MessageQuestion)
    → All (λ o. o < 256) d → question_at d ≡ Some q → IsAskable q
unfolding question_at
askable d q low h = go (name_at d 12) refl h
  where
    go : (x : Option (DomainName × ℕ)) → name_at d 12 ≡ x → ◌≡◌ {A = Option MessageQuestion}
        (elim x [ None ↦ None | Some r ↦ question_of d r ]) (Some q) → IsAskable q
    go None e f = absurd (none-some q f)
    go (Some (n, e)) is f =
        let c = cond_some (length d == e + 4)
        (record { qname = n; qtype = field16 d e; qclass = field16 d (e + 2) }) q f in
        subst IsAskable c.1 (record {
          qname = ((name_at_computes d 12 n e).0 is).1;
          qtype = field_bound d e low;
          qclass = field_bound d (e + 2) low;
        })

-- the header of a refusal, with its RCODE
record Refuses (d : Octets) (h : Header) : Type 0 where
  rcode : ℕ
  low : rcode < 16
  head : refusal_head (head_of d) rcode ≡ h

-- what holds for each decision about a datagram
abbrev Decided : Octets → Decision → Type 0
Decided d silence = Unit {0}
Decided d (header_alone h) = Refuses d h
Decided d (question_alone h q) = (question_at d ≡ Some q) × Refuses d h
Decided d (answered h q) = (question_at d ≡ Some q) × (head_of d ≡ h)

decided : (z : ZoneContents) (d : Octets) → Decided d (decide z d)
unfolding decide query_read
decided z d = grind (arith, cond_both)

-- `HasRoom`, by its parts
roomy : (h : Header) (q : Option MessageQuestion) (is : List Item) → h.id < 2 ^ 16
    → h.flags < 2 ^ 16 → IfSome q IsAskable → sections_in_order is ≡ true → HasRoom h q is
roomy h q is id flags ok ordered = grind arith

bare_size : size None [] ≡ 12
unfolding size records_by
bare_size = refl

empty_size : (q : MessageQuestion) → is_name q.qname ≡ true → size (Some q) [] ≤ 271
unfolding size records_by
empty_size q h = grind (arith, leb-true, and_parts, length-question_octets)

-- The octets of a reply spell its message.
pub reply_spells : (z : ZoneContents) (d : Octets) (limit : ℕ) (r : Reply)
    → All IsWritable z.records → All (λ o. o < 256) d → 271 ≤ limit
    → limit ≤ 65535 → reply z d limit ≡ Some r → Spells (reply_octets r) (reply_message r)
unfolding reply reply_with
reply_spells z d limit r writable low from upto e = go (decide z d) (decided z d) e
  where
    id : field16 d 0 < 2 ^ 16
    id = field_bound d 0 low

    replied : (x : Reply) → Spells (reply_octets x) (reply_message x)
        → ◌≡◌ {A = Option Reply} (Some x) (Some r) → Spells (reply_octets r) (reply_message r)
    replied x s e = subst (λ y. Spells (reply_octets y) (reply_message y)) (same_Some x r e) s

    -- a refusal: only the header, or the header and the question
    refusing : (h : Header) (q : Option MessageQuestion) → Refuses d h
        → IfSome q IsAskable → size q [] ≤ 65535 → Spells (layout h q []) (message_of h q [])
    refusing h q ok may small = grind (arith, layout_spells, id)

    -- an answer: the question, with the sets that are kept
    answering : (h : Header) (q : MessageQuestion) → IsAskable q
        → h.id < 2 ^ 16 → h.flags < 2 ^ 16 → Spells (layout h (Some q) (keep_longest z limit q))
        (message_of h (Some q) (keep_longest z limit q))
    answering h q ok id flags =
        let all = items z q.qname q.qtype in
        let k = greatest (λ n. nat_le (size (Some q) (take n all)) limit) (length all) in
        let short = kept_fits
        (size (Some q)) limit all (let small = empty_size q ok.qname in omega (arith, small)) in
        layout_spells h (Some q) (take k all)
        (roomy h (Some q)
        (take k all) id flags ok (items_in_order z writable q.qname q.qtype ok.qname k))
        (items_writable z writable q.qname q.qtype ok.qname k) (omega (arith, short, upto))

    go : (x : Decision) → Decided d x
        → reply_of (keep_longest z limit) z x ≡ Some r → Spells (reply_octets r) (reply_message r)
    go silence ok e = absurd (none-some r e)
    go (header_alone h) ok e = grind (arith, replied, None, refusing, bare_size)
    go (question_alone h q) ok e = grind (arith, askable, empty_size, replied, refusing)
    go (answered h q) ok e = grind (arith, askable, outcome_rcode, answering, id)

-- The octets of a reply are at most the limit for which its sets were kept.
named_question : (d : Octets) (q : MessageQuestion)
    → question_at d ≡ Some q → is_name q.qname ≡ true
unfolding question_at
named_question d q h = go (name_at d 12) refl h
  where
    go : (x : Option (DomainName × ℕ)) → name_at d 12 ≡ x → ◌≡◌ {A = Option MessageQuestion}
        (elim x [ None ↦ None | Some r ↦ question_of d r ]) (Some q) → is_name q.qname ≡ true
    go None e f = absurd (none-some q f)
    go (Some (n, e)) is f =
        let c = cond_some (length d == e + 4)
        (record { qname = n; qtype = field16 d e; qclass = field16 d (e + 2) }) q f in
        subst (λ (x : MessageQuestion). is_name x.qname ≡ true) c.1
        ((name_at_computes d 12 n e).0 is).1

pub reply_fits : (z : ZoneContents) (d : Octets) (limit : ℕ) (r : Reply)
    → 271 ≤ limit → reply z d limit ≡ Some r → length (reply_octets r) ≤ limit
unfolding reply reply_with
reply_fits z d limit r from e =
    grind (arith, decided, length-layout, empty_size, named_question, bare_size, kept_fits)
