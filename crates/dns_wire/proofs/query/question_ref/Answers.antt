use Rattle.dns_wire.proofs.Common.{sym, ◌∙◌, IsWireForm-wire, labels_of_spelled}
use Rattle.dns_wire.proofs.QueryName.{question_here}
use Rattle.dns_wire.proofs.query.question_ref.Goals as goal

pub new-requires : goal.new-requires
new-requires c = let e = c.in_ok-end.ensures.some in IsWireForm-wire _ e.name e.octets e.is_name

pub returns : goal.returns
returns c =
    let e = c.in_ok-end.ensures.some in
    rw (
      c.new.ensures.value ∙ labels_of_spelled _ e.name e.octets e.is_name,
      c.field.ensures,
      c.field-2.ensures,
    )
    (sym (question_here _ e.name _ e.read c.if-datagram-end.false))
