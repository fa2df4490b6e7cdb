use Rattle.dns_wire.proofs.Common.{◌∷◌, [], ◌∙◌, refl, sym, ap, length, eq-eqb, eqb-true, true≢false, octets, name, type_mx, type_soa, labels_of}
use Rattle.dns_wire.proofs.SharedData.{one_name_laid, one_left, exchange_laid, server_some, authority_laid}
use Rattle.dns_wire.proofs.DataWritten.{runs, writes_runs, writes_more, writes_last, writes_short, writes_parts}
use Rattle.dns_wire.proofs.message_builder.MessageBuilder.put_data.Goals as goal

pub split_at-requires : goal.split_at-requires
split_at-requires g c =
    (exchange_laid _ _ (eqb-true _ _ (sym c.if-eq.ensures)) c.requires.valid).2

pub returns-then-append : goal.returns-then-append
returns-then-append g c =
    let s = exchange_laid _ _ (eqb-true _ _ (sym c.if-eq.ensures)) c.requires.valid in
    writes_parts c.args.rtype.0 c.args.rdata.now (s.4
    ∙ ap (λ x. octets x ∷ name s.0 ∷ []) (sym c.split_at.ensures.front))
    (writes_more (octets _) _ c.if-append.true (c.append.ensures.writes _)
    (writes_last (name s.0) (c.put_name.ensures s.0 (c.split_at.ensures.back ∙ s.3) s.1)))

pub returns-else-append : goal.returns-else-append
returns-else-append g c =
    let s = exchange_laid _ _ (eqb-true _ _ (sym c.if-eq.ensures)) c.requires.valid in
    writes_parts c.args.rtype.0 c.args.rdata.now (s.4
    ∙ ap (λ x. octets x ∷ name s.0 ∷ []) (sym c.split_at.ensures.front))
    (writes_short (octets _) _ c.if-append.false c.if-append.false (c.append.ensures.writes _))

pub unreachable-requires : goal.unreachable-requires
unreachable-requires g c =
    server_some _ _ (eqb-true _ _ (sym c.if-eq-2.ensures)) c.requires.valid c.in_default.ensures

pub overflow_sub-rest : goal.overflow_sub-rest
overflow_sub-rest g c =
    (authority_laid _ _ (eqb-true _ _ (sym c.if-eq-2.ensures)) c.requires.valid c.in-Some.is
    c.in-Name.is c.first_part.ensures).inside

pub returns-then-not-put_name : goal.returns-then-not-put_name
returns-then-not-put_name g c =
    let s = authority_laid _ _ (eqb-true _ _ (sym c.if-eq-2.ensures)) c.requires.valid c.in-Some.is
    c.in-Name.is c.first_part.ensures in
    writes_parts c.args.rtype.0 c.args.rdata.now s.parts
    (writes_short (name _) _ c.if-not-put_name.true refl
    (c.put_name-then-eq-2.ensures _ (sym s.borrowed.wire_is) s.borrowed.is_name))

pub returns-then-put_name : goal.returns-then-put_name
returns-then-put_name g c =
    let s = authority_laid _ _ (eqb-true _ _ (sym c.if-eq-2.ensures)) c.requires.valid c.in-Some.is
    c.in-Name.is c.first_part.ensures in
    let at = c.split_at-then-eq-2.ensures in
    writes_parts c.args.rtype.0 c.args.rdata.now (s.parts
    ∙ ap
    (λ x. name (labels_of c.in-Name.server.now) ∷ name s.mailbox ∷ runs 4 5 x) (sym at.back))
    (writes_more (name _) _ c.if-not-put_name.false
    (c.put_name-then-eq-2.ensures _ (sym s.borrowed.wire_is) s.borrowed.is_name)
    (writes_more (name s.mailbox) _ c.if-put_name.true
    (c.put_name-then-eq-2-2.ensures _ (at.front ∙ s.whole) s.is_name)
    (writes_runs 4 5 _ (ap length at.back ∙ s.long) (c.append-then-put_name.ensures.writes _))))

pub returns-else-put_name : goal.returns-else-put_name
returns-else-put_name g c =
    let s = authority_laid _ _ (eqb-true _ _ (sym c.if-eq-2.ensures)) c.requires.valid c.in-Some.is
    c.in-Name.is c.first_part.ensures in
    writes_parts c.args.rtype.0 c.args.rdata.now s.parts
    (writes_more (name _) _ c.if-not-put_name.false
    (c.put_name-then-eq-2.ensures _ (sym s.borrowed.wire_is) s.borrowed.is_name) (writes_short
    (name s.mailbox) _ c.if-put_name.false c.if-put_name.false (c.put_name-then-eq-2-2.ensures _
    (c.split_at-then-eq-2.ensures.front ∙ s.whole) s.is_name)))

pub returns : goal.returns
returns g c =
    let t = c.args.rtype.0 in
    let other = one_left t c.requires.shared
    (λ e. true≢false (sym (eq-eqb t type_mx e) ∙ sym c.eq.ensures ∙ c.if-eq.false))
    (λ e. true≢false (sym (eq-eqb t type_soa e) ∙ sym c.eq-2.ensures ∙ c.if-eq-2.false)) in
    let s = one_name_laid t _ other c.requires.shared c.requires.valid in
    writes_parts c.args.rtype.0 c.args.rdata.now s.3
    (writes_last (name s.0) (c.put_name-2.ensures s.0 s.2 s.1))
