use Rattle.dns_tools.proofs.Common.{rules, refl, ◌∙◌, take_all, take_more, OnErr-always}
use Rattle.dns_tools.proofs.LineRuns.{kept_more, ended_more, begun_within, taken_all, grows_begun, grows_trans, grows_written}
use Rattle.dns_tools.proofs.once.Exchange.take.Goals as goal
use Rattle.dns_tools.proofs.once.Exchange.take.Goals.{then-octet-eq10+in_ok-end_line, else-octet-eq10}

pub octets-preserved : goal.octets-preserved
octets-preserved g c =
    let inv = c.octets.invariant in
    let next = take_more c.args.octets.now c.octets.octet-index 0 c.octets-test.true in
    elim c.if-octet-eq10.branch [
      | then-octet-eq10+in_ok-end_line w ↦
          let e = w.in_ok-end_line.ensures in
          rw (w.self-is, w.sink-is) (record {
            sink = search rules;
            task = e.task ∙ inv.task;
            taken =
                λ held x p. ended_more _ held _ x _ _ _ _ next (inv.taken held x p) _ _ _ inv.task
                w.if-octet-eq10.true e.answered.ok e.line e.passes;
            grows = grows_trans _ _ _ inv.grows (grows_written _ _ _ e.answered.ok);
          })
      | else-octet-eq10 w ↦
          rw (w.self-is, w.sink-is) (record {
            sink = inv.sink;
            task = inv.task;
            taken = λ held x p. kept_more _ held _ x _ _ _ _ next (inv.taken held x p) _
                w.if-octet-eq10.false w.keep.ensures refl;
            grows = inv.grows;
          })
    ]

pub returns-in_err-end_line-clause-begun : goal.returns-in_err-end_line-clause-begun
returns-in_err-end_line-clause-begun g c = λ held x p.
    let inv = c.octets.invariant in
    let next = take_more c.args.octets.now c.octets.octet-index 0 c.octets-test.true in
    OnErr-always c.from_residual.result
    (begun_within _ held _ x _ _ _ _ next (inv.taken held x p) _ _ inv.task c.if-octet-eq10.true
    c.in_err-end_line.ensures.answered.err)

pub returns-in_err-end_line-clause-grows : goal.returns-in_err-end_line-clause-grows
returns-in_err-end_line-clause-grows g c =
    grows_trans _ _ _ c.octets.invariant.grows
    (grows_begun _ _ _ c.in_err-end_line.ensures.answered.err)

pub returns-clause-taken : goal.returns-clause-taken
returns-clause-taken g c = search (rules, taken_all, take_all)
