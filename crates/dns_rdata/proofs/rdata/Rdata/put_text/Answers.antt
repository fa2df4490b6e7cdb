use Rattle.dns_rdata.proofs.Common.{append_assoc, rules, arith, sym, ap, ◌∙◌, ◌++◌, OnErr-always, Fills-same, held_more, held_less, held_begun}
use Rattle.dns_rdata.proofs.WrittenFields.{row_text, row_counted, row_strings, strings_text, other_text, there-at, one-at, more-at, counted-after, spaced-at}
use Rattle.dns_rdata.proofs.rdata.Rdata.put_text.Goals as goal

pub returns-in_default : goal.returns-in_default
returns-in_default g c = grind (arith, Fills-same, other_text)

pub put_strings-requires-clause-strings : goal.put_strings-requires-clause-strings
put_strings-requires-clause-strings g c = row_strings c.args.rtype.0 _ c.in-Some.ensures
    c.args.octets.now (sym c.is_strings.ensures ∙ c.if-is_strings.true) c.requires.valid

pub returns-then-is_strings : goal.returns-then-is_strings
returns-then-is_strings g c = Fills-same (ap (λ x. c.args.text.now ++ x)
    (strings_text c.args.rtype.0 _ c.in-Some.ensures
    c.args.octets.now (sym c.is_strings.ensures ∙ c.if-is_strings.true) c.requires.valid))
    c.put_strings.ensures

pub fields-init : goal.fields-init
fields-init g c = search (rules, row_text, row_counted)

pub returns-in_err-reserve : goal.returns-in_err-reserve
returns-in_err-reserve g c = record {
  ok = search rules;
  err = OnErr-always c.from_residual.result
      (held_begun _ _ _ _ _ _ c.fields.invariant.fills c.in_err-reserve.ensures.fills.err);
  counted = search rules;
}

pub append_field-rest-requires-clause-there : goal.append_field-rest-requires-clause-there
append_field-rest-requires-clause-there g c =
    there-at _ _ _ c.fields-test.true _ c.fields.invariant.cut

pub append_field-rest-requires-clause-one : goal.append_field-rest-requires-clause-one
append_field-rest-requires-clause-one g c =
    one-at _ _ _ c.fields-test.true c.args.octets.now c.fields.invariant.counted_fields

pub fields-preserved : goal.fields-preserved
fields-preserved g c =
    let held =
    held_less _ _ _ _ _ _ _ c.fields.invariant.fills c.in_ok-reserve.ensures.fills.ok in
    let counted = c.fields.invariant.counted_fields in
    record {
      cut = rw c.append_field-rest.ensures.rest
          (more-at _ _ _ c.fields-test.true _ counted c.fields.invariant.cut);
      counted_fields = counted-after _ _ c.fields-test.true counted;
      short = search rules;
      fills = rw (
        c.append_field-rest.ensures.rest,
        c.append_field-rest.ensures.text,
        c.append.ensures,
        append_assoc c.reserve.new.self c.fields.before.now,
      )
          (held_more _ _ _ _ _ _ _ held (spaced-at _ _ _ c.fields-test.true _ _));
      counted = search rules;
    }
