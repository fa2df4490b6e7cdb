use Rattle.dns_wire.proofs.Common.{◌≡◌, ◌∙◌, sym, ap, subst, length, length-layout, take_at, Octets, Spells, message_of}
use Rattle.dns_wire.proofs.writer.Writer.finish.Goals as goal

pub returns-clause-length : goal.returns-clause-length
returns-clause-length g c = λ h q items partial. ap length (c.octets-message.ensures
    ∙ c.finish.ensures.layout h q items partial) ∙ length-layout c.args.head q items

pub returns-clause-spelled : goal.returns-clause-spelled
returns-clause-spelled g c = λ h q items partial order writable.
    let message = c.octets-message.result.now in
    let rest : Octets = c.split_at_mut-front.result.1.now in
    let front : c.copy_from_slice.new.self ≡ message = c.copy_from_slice.ensures.after in
    subst (λ z. Spells z (message_of c.args.head q items))
    (sym (take_at c.copy_from_slice.new.self rest (length message) (ap length front) ∙ front
    ∙ c.octets-message.ensures)) (c.finish.ensures.spelled h q items partial order writable)
