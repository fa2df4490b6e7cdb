use Rattle.dns_rdata.proofs.Common.{append_assoc, rules, ap, sym, ◌∙◌, arith, eqb-false, are_strings, OnErr-always, held_more, held_less, held_begun}
use Rattle.dns_rdata.proofs.SpacedWords.{string_begins, more_strings, spaced-strings}
use Rattle.dns_rdata.proofs.write.put_strings.Goals as goal

pub append_string-rest-requires-clause-string : goal.append_string-rest-requires-clause-string
append_string-rest-requires-clause-string g c = grind (arith, string_begins, eqb-false)

pub returns-in_err-reserve : goal.returns-in_err-reserve
returns-in_err-reserve g c = record {
  ok = search rules;
  err = OnErr-always c.from_residual.result
      (held_begun _ _ _ _ _ _ c.strings.invariant.fills c.in_err-reserve.ensures.fills.err);
  counted = search rules;
}

pub strings-preserved : goal.strings-preserved
strings-preserved g c =
    let some = eqb-false _ _ (sym c.is_empty.ensures ∙ c.strings-test.true) in
    let held =
    held_less _ _ _ _ _ _ _ c.strings.invariant.fills c.in_ok-reserve.ensures.fills.ok in
    record {
      all = ap (are_strings 0) c.append_string-rest.ensures.rest
          ∙ more_strings _ c.strings.invariant.all some;
      short = search rules;
      fills = rw (
        c.append_string-rest.ensures.rest,
        c.append_string-rest.ensures.text,
        c.append.ensures,
        append_assoc c.reserve.new.self c.strings.before.now,
      )
          (held_more _ _ _ _ _ _ _ held (spaced-strings _ _ c.strings.invariant.all some));
      counted = search rules;
    }
