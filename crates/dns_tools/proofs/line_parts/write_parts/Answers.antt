use Rattle.dns_tools.proofs.Common.{rules, ◌++◌, ap, sym, ◌∙◌, append-nil, drop_all, flat_map, [], Appends-nil, part_text, OnErr-always, Writes-held, Writes-same, held_begun, held_less, held_more}
use Rattle.dns_tools.proofs.LineParts.{next_piece, parts_after}
use Rattle.dns_tools.proofs.line_parts.write_parts.Goals as goal

pub parts-init : goal.parts-init
parts-init g c = record {
  fills = record {
    done = [];
    appended = Appends-nil _;
    whole_is = rw c.new-text.ensures (sym (parts_after [] c.args.parts.now));
  };
  counted = search rules;
}

pub returns-in_err-reserve : goal.returns-in_err-reserve
returns-in_err-reserve g c = record {
  ok = search rules;
  err = OnErr-always c.from_residual.result
      (held_begun _ _ _ _ _ _ c.parts.invariant.fills c.in_err-reserve.ensures.fills.err);
  counted = search rules;
}

pub returns-in_err-put : goal.returns-in_err-put
returns-in_err-put g c =
    let next = next_piece part_text c.args.parts.now c.part-item.result
    c.parts.part-index c.parts-test.true c.part-item.is in
    let room = held_less _ _ _ _ _ _ _ c.parts.invariant.fills c.in_ok-reserve.ensures.fills.ok in
    record {
      ok = search rules;
      err = OnErr-always c.from_residual-in_err-put.result
          (held_begun _ _ _ _ _ _ (held_more _ _ _ _ _ _ _ room next) c.in_err-put.ensures.err);
      counted = search rules;
    }

pub parts-preserved : goal.parts-preserved
parts-preserved g c =
    let next = next_piece part_text c.args.parts.now c.part-item.result
    c.parts.part-index c.parts-test.true c.part-item.is in
    let room = held_less _ _ _ _ _ _ _ c.parts.invariant.fills c.in_ok-reserve.ensures.fills.ok in
    record {
      fills = held_less _ _ _ _ _ _ _ (held_more _ _ _ _ _ _ _ room next) c.in_ok-put.ensures.ok;
      counted = search rules;
    }

pub returns : goal.returns
returns g c =
    let none = drop_all c.parts.part-index c.args.parts.now (search rules) in
    let all = ap (λ xs. c.parts.text ++ flat_map part_text xs) none ∙ append-nil c.parts.text in
    Writes-held _ _ c.parts.invariant.fills c.parts.invariant.counted
    (Writes-same (sym all) c.finish.ensures)
