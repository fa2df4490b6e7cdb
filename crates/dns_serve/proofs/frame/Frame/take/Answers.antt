use Rattle.dns_spec.proofs.Common.{rules, arith, ap₂, ap, ◌∙◌, ◌≡◌, ◌-◌, ◌+◌, ◌++◌, take, length, min}
use Rattle.std.proofs.lemmas.List.{take_min}
use Rattle.dns_serve.specs.Framing.{missing_of}
use Rattle.dns_serve.proofs.Framing.{come_more, low_octets}
use Rattle.dns_serve.proofs.frame.Frame.take.Goals as goal

pub returns-clause-came : goal.returns-clause-came
returns-clause-came c = λ x h.
    let frame = c.args.self.now in
    let octets = c.args.octets.now in
    let piece = c.split_at.result.0.now in
    let same : c.self.inside.kept.items ≡ frame.kept = cc in
    let came : c.self.inside.came ≡ frame.came = cc in
    let is : piece ≡ take (missing_of frame) octets = c.split_at.ensures.front
    ∙ ap (λ m. take m octets)
    (c.min.ensures ∙ ap (λ m. min m (length octets)) c.missing.ensures.count)
    ∙ take_min (missing_of frame) octets in
    let room : c.remaining_capacity.result ≡ 514 - length frame.kept =
    omega (arith, ap length same, c.remaining_capacity.ensures) in
    let kept : c.split_at-2.result.0.now ≡ take (514 - length frame.kept) piece =
    c.split_at-2.ensures.front
    ∙ ap (λ m. take m piece) (c.min-2.ensures ∙ ap (λ m. min m (length piece)) room)
    ∙ take_min (514 - length frame.kept) piece in
    let held : c.try_extend_from_slice.new.self.items
    ≡ c.self.inside.kept.items ++ c.split_at-2.result.0.now = search rules in
    come_more frame _ x octets piece h
    (low_octets octets (λ i. omega (arith, c.type_inv.octets i))) is (ap (λ n. n + length piece) came)
    (held ∙ ap₂ (λ a b. a ++ b) same kept)
