use Rattle.dns_wire.proofs.Common.{◌≡◌, ◌≢◌, ◌-◌, ◌∙◌, ap, sym, arith, subst, take, None, domain, field_at, field_front, part_octets, part_for, field_of}
use Rattle.dns_rdata.specs.declared.table.Field.{Field}
use Rattle.dns_rdata.specs.declared.table.Field.TheVariants.{Domain}
use Rattle.dns_wire.proofs.FieldLemmas.{long_name_none, field_read}
use Rattle.dns_wire.proofs.data.read_field.Goals as goal

pub returns-then-offset-end-clause-err : goal.returns-then-offset-end-clause-err
returns-then-offset-end-clause-err c _ =
    let m = c.args.message.now in
    subst (λ p. field_at m (field_of p) c.args.at c.args.end ≡ None) (sym c.in-Domain.is)
    (long_name_none m c.args.at c.args.end _ _ c.in_ok-name.ensures.name (omega arith))

other_field : (f : Field) → f ≢ Domain → field_of f ≢ domain
other_field f other = grind arith

pub returns-clause-ok : goal.returns-clause-ok
returns-clause-ok c =
    let front = ap (field_front (field_of c.args.field)) (sym (c.split_at-2.ensures.front
    ∙ ap (take (c.args.end - c.args.at)) c.split_at.ensures.back)) ∙ c.in-Some.ensures.0 in
    let lends : part_octets (part_for c.in-Some.part) ≡ c.match-part.octets.now = grind arith in
    field_read _ _ _ _ _ _ _ _ _ (other_field c.args.field c.in_default.not-Domain) front lends
    c.in_ok-extend_from_slice-2.ensures.items
