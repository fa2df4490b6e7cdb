use Rattle.dns_zone.proofs.Common.{◌++◌, ap, subst, rules, OnErr-always, held_more, held_less, held_begun, AppendsAllBut, is_chosen}
use Rattle.dns_zone.proofs.PrintedRecords.{chosen, passed_over}
use Rattle.dns_zone.proofs.printed.put_chosen.Goals as goal
use Rattle.dns_zone.proofs.printed.put_chosen.Goals.{then-eq-is_soa+in_ok-put_record, else-eq-is_soa}

pub returns-in_err-put_record : goal.returns-in_err-put_record
returns-in_err-put_record g c =
    let next = chosen (is_chosen c.args.is_soa) c.args.records.now c.entry-item.result
    c.records.entry-index c.records-test.true c.entry-item.is (search rules) in
    record {
      ok = search rules;
      err = OnErr-always c.from_residual.result (held_begun _ _ _ _ _ _
          (held_more _ _ _ _ _ _ _ c.records.invariant.fills next) c.in_err-put_record.ensures.err);
      counted = search rules;
    }

pub records-preserved : goal.records-preserved
records-preserved g c = elim c.if-eq-is_soa.branch [
  | then-eq-is_soa+in_ok-put_record w ↦
      let next = chosen (is_chosen c.args.is_soa) c.args.records.now c.entry-item.result
      c.records.entry-index c.records-test.true c.entry-item.is (search rules) in
      rw (w.text-is, w.sink-is)
      (record {
        fills = held_less _ _ _ _ _ _ _
            (held_more _ _ _ _ _ _ _ c.records.invariant.fills next) w.in_ok-put_record.ensures.ok;
        counted = search rules;
      })
  | else-eq-is_soa w ↦
      let next = passed_over (is_chosen c.args.is_soa) c.args.records.now c.entry-item.result
      c.records.entry-index c.records-test.true c.entry-item.is (search rules) in
      rw (w.text-is, w.sink-is)
      (record {
        fills = subst (AppendsAllBut _ _ _) (ap (λ t. c.records.text ++ t) next)
            c.records.invariant.fills;
        counted = c.records.invariant.counted;
      })
]
