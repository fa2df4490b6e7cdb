use Rattle.dns_wire.proofs.Common.{true, ℕ, ◌≡◌, ◌+◌, ◌-◌, ◌≤◌, ◌∙◌, refl, sym, ap, ap₂, subst, subst₂, arith, length, take, drop, ◌++◌, append-nil, length-append, Octets, octets16, refill, take_at, drop-drop, length-take, length-drop, length-record_tail, PartialMessage, Writes, octets_laid, parts_laid, tail_laid, shown}
use Rattle.dns_wire.proofs.AskedLemmas.{is_asked_same}
use Rattle.dns_wire.proofs.DataWritten.{tail_written}
use Rattle.dns_wire.proofs.Steps.{kept_with, writes_both, writes_past, both_laid}
use Rattle.dns_spec.proofs.General.Fronts.{take_patched}
use Rattle.dns_wire.proofs.message_builder.MessageBuilder.put_shared_tail.Goals as goal
use Rattle.dns_wire.proofs.message_builder.MessageBuilder.put_shared_tail.Given as given

pub returns-then-not-append-clause-writes : goal.returns-then-not-append-clause-writes
returns-then-not-append-clause-writes g c =
    let t = c.args.rtype.0 in
    let o = c.args.rdata.now in
    writes_past
    (octets_laid c.record_numbers.result) (tail_laid t c.args.ttl o) c.if-not-append.true refl
    (λ ms p. grind (arith, length-record_tail, shown, parts_laid))
    (c.append.ensures.writes (g.H.SuffixHash.hashes c.args.hash.now))

pub returns-then-not-put_data-clause-writes : goal.returns-then-not-put_data-clause-writes
returns-then-not-put_data-clause-writes g c =
    let t = c.args.rtype.0 in
    let o = c.args.rdata.now in
    let z = c.record_numbers.result in
    let ten : length z ≡ 10 = ap length c.record_numbers.ensures in
    writes_past (both_laid (octets_laid z) (parts_laid t o))
    (tail_laid t c.args.ttl o) c.if-not-put_data.true refl
    (λ ms p.
    let d = parts_laid t o ms (p + 10) in
    let same = ap₂ (λ m k. length (parts_laid t o m (p + k)).written) (append-nil ms) ten in
    grind (arith, length-append, parts_laid, length-record_tail, shown))
    (writes_both (octets_laid z) (parts_laid t o) (λ _ _ _. tt) c.if-not-append.false
    (c.append.ensures.writes (g.H.SuffixHash.hashes c.args.hash.now)) c.put_data.ensures)

module _ (g : given.Over) (c : goal.After-self-3-1 g) where
  abbrev before : Octets
  before = c.self-2.inside.octets.items

  abbrev after : Octets
  after = refill (length before) before (c.split_at_mut-end.result.0.now ++ c.write_u16.new.buf)

  abbrev patch : ℕ → Octets → Octets
  patch k b = octets16 (length b - k - 10) ++ drop (k + 10) b

  -- the two octets that are overwritten are among those after the owner
  inside : (c.len-at.result + 10 ≤ length before) × (c.self-2.inside.asked_end ≤ c.len-at.result)
  inside = grind (arith, length-append)

  long : length (take (c.len-at.result + 8) before ++ patch c.len-at.result before) ≡ length before
  long = grind (arith, length-append, length-take, length-drop)

  set : after ≡ take (c.len-at.result + 8) before ++ patch c.len-at.result before
  set =
      let a = c.len-at.result in
      let list = c.split_at_mut-end.result.0.now ++ c.write_u16.new.buf in
      let whole = c.as_mut_slice.ensures.value in
      let ten : a + 8 + 2 ≡ a + 10 = omega arith in
      let rest = c.split_at_mut-end.ensures.back ∙ ap (drop (a + 8)) whole in
      let end = c.write_u16.ensures ∙ ap₂ (λ n z. octets16 (n - a - 10) ++ drop 2 z)
      c.len.ensures.value rest ∙ ap (λ z. octets16 (length before - a - 10) ++ z)
      (drop-drop 2 (a + 8) before ∙ ap (λ k. drop k before) ten) in
      let same =
      ap₂ (λ x y. x ++ y) (c.split_at_mut-end.ensures.front ∙ ap (take (a + 8)) whole) end in
      take_at list (drop (length list) before) (length before) (ap length same ∙ long) ∙ same

pub invariant_of-self : goal.invariant_of-self
invariant_of-self g c =
    let a = c.len-at.result in
    let b = before g c in
    let s = c.self-2.invariant in
    let end = s.asked.inside in
    let in_it = inside g c in
    let long = ap length (set g c) ∙ long g c in
    kept_with s (omega (arith, s.within, long)) (omega (arith, s.few, long))
    (is_asked_same s.asked (take_patched c.self-2.inside.asked_end (a + 8) b (patch g c a b) _
    (set g c) (omega (arith, in_it.1)) (omega (arith, in_it.0))) refl (omega (arith, end, long)))
    (omega (arith, s.header, long)) (omega (arith, s.counts_fit, long))

pub returns-clause-writes : goal.returns-clause-writes
returns-clause-writes g c =
    let numbers = g.H.SuffixHash.hashes in
    let head = numbers c.args.hash.now in
    let now = c.args.self.now in
    let t = c.args.rtype.0 in
    let o = c.args.rdata.now in
    let first = subst₂ (λ x u. Writes head head now c.append.new.self (octets_laid x) u)
    c.record_numbers.ensures c.if-not-append.false (c.append.ensures.writes head) in
    let next = subst (λ u. Writes head (numbers c.put_data.new.hash) c.append.new.self
    c.put_data.new.self (parts_laid t o) u) c.if-not-put_data.false c.put_data.ensures in
    let offset = c.len-at.ensures.value ∙ ap (λ (d : PartialMessage). length d.octets)
    c.self.view_is in
    let laid = subst₂ (λ k (d : PartialMessage). after g c ≡ take (k + 8) d.octets ++ patch g c k d.octets)
    offset c.self-2.view_is (set g c) in
    let s = c.self.invariant.asked.inside in
    subst (λ (d : PartialMessage). Writes head (numbers c.put_data.new.hash) now
    (record d { octets = after g c }) (tail_laid t c.args.ttl o) true) (sym c.self-2.view_is)
    (tail_written t c.args.ttl o (after g c) (grind arith) first next laid)
