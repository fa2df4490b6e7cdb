use Rattle.dns_zone.proofs.Common.{rules, ◌++◌, codes, data_text, record_line, AppendsAllBut, OnErr-always, held_less, held_begun}
use Rattle.dns_zone.proofs.PrintedRecords.{line_held}
use Rattle.dns_zone.proofs.printed.put_record.Goals as goal
use Rattle.dns_zone.proofs.printed.put_record.Goals.{After-rdata}
use Rattle.dns_zone.proofs.printed.put_record.Given as given

module _ (g : given.Over) (c : After-rdata g) where
  -- the front and the type of the line are written
  begun : AppendsAllBut (g.W.Write.contents c.args.sink.now.device)
      (g.W.Write.contents c.reserve.new.sink.device)
      (c.args.text.now ++ record_line c.args.entry.now)
      ((c.push-2.new.self ++ data_text c.entry.inside.rtype.0 c.rdata.result.now) ++ codes "\n")
  begun =
      line_held _ _ _ _ _ _ _ _ c.in_ok-reserve.ensures.fills.ok c.entry.view_is (search rules)
      c.rdata.ensures.value

pub returns-in_err-put_text : goal.returns-in_err-put_text
returns-in_err-put_text g c =
    let begun = begun g (goal.at.returns-in_err-put_text g c).After-rdata in
    record {
      ok = search rules;
      err = OnErr-always c.from_residual-in_err-put_text.result
          (held_begun _ _ _ _ _ _ begun c.in_err-put_text.ensures.err);
      counted = search rules;
    }

pub returns-in_err-reserve-2 : goal.returns-in_err-reserve-2
returns-in_err-reserve-2 g c =
    let begun = begun g (goal.at.returns-in_err-reserve-2 g c).After-rdata in
    let less = held_less _ _ _ _ _ _ _ begun c.in_ok-put_text.ensures.ok in
    record {
      ok = search rules;
      err = OnErr-always c.from_residual-in_err-reserve-2.result
          (held_begun _ _ _ _ _ _ less c.in_err-reserve-2.ensures.fills.err);
      counted = search rules;
    }

pub returns : goal.returns
returns g c =
    let begun = begun g (goal.at.returns g c).After-rdata in
    let less = held_less _ _ _ _ _ _ _ begun c.in_ok-put_text.ensures.ok in
    record {
      ok = rw c.push-3.ensures (held_less _ _ _ _ _ _ _ less c.in_ok-reserve-2.ensures.fills.ok);
      err = search rules;
      counted = search rules;
    }
