-- A datagram with a question has at most 271 octets, since the name directly after the header has
-- no pointer.
use Rattle.dns_spec.proofs.Common.{◌≡◌, ℕ, ◌+◌, ◌≤◌, eqb, nat_le, length, Option, None, Some, refl, arith, length-append, length-drop, and_parts, leb-true, eqb-true, none-some, cond_some, length-take-le, list_all, Octets, DomainName, wire, is_label, MessageQuestion, RunAt, NameAt, name_at, ends, goes_on, jumps, field16, question_of, question_at}
use Rattle.dns_spec.proofs.Messages.NameReading.{name_at_computes}

-- a run that begins at place 12 or before has no pointer, so it ends after its own labels
written_out : {b : Octets} {s i e : ℕ} {n : DomainName}
    → RunAt b s i n e → s ≤ 12 → e ≡ i + length (wire n)
written_out (ends i at) h = refl
written_out {b} (goes_on i k l n e at pos low inside is rest) h =
    grind (arith, length-take-le, length-drop, length-append, (written_out rest h))
written_out (jumps i o o' p n e at top at' is from before rest) h = absurd (omega arith)

pub name_at_12_ends : (d : Octets) (n : DomainName) (e : ℕ)
    → NameAt d 12 n e → e ≡ 12 + length (wire n)
name_at_12_ends d n e h = written_out h.0 (omega arith)

pub question_ends : (d : Octets) (q : MessageQuestion) → question_at d ≡ Some q → length d ≤ 271
unfolding question_at
question_ends d q h = go (name_at d 12) refl h
  where
    go : (x : Option (DomainName × ℕ)) → name_at d 12 ≡ x → ◌≡◌ {A = Option MessageQuestion}
        (elim x [ None ↦ None | Some r ↦ question_of d r ]) (Some q) → length d ≤ 271
    go None e f = absurd (none-some q f)
    go (Some (n, e)) is f =
        let c = cond_some (eqb (length d) (e + 4))
        (record { qname = n; qtype = field16 d e; qclass = field16 d (e + 2) }) q f in
        let at = (name_at_computes d 12 n e).0 is in
        let short = leb-true (length (wire n)) 255
        (and_parts (list_all is_label n) (nat_le (length (wire n)) 255) at.1).1 in
        omega (arith, eqb-true (length d) (e + 4) c.0, name_at_12_ends d n e at, short)
