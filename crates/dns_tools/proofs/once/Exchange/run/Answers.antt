use Rattle.dns_tools.proofs.Common.{arith, rules, ◌<◌, ◌≤◌, ◌∙◌, length, refl, sym, eqb-true, eqb-false, take-append-le, kept_of, reply_of, Sink, Source}
use Rattle.dns_tools.proofs.LineReads.{AllRead, reading_none, reading_take, taking_begun, reading_failed, all_read, all_given, all_answered, all_begun, finished_empty, finished_line, finished_begun, stopped}
use Rattle.dns_tools.proofs.LineRuns.{grows_begun}
use Rattle.dns_tools.proofs.once.Exchange.run.Goals as goal
use Rattle.dns_tools.proofs.once.Exchange.run.Given as given
use Rattle.dns_tools.proofs.once.Exchange.run.Goals.{After-is_empty, else-pieces-test, then-pieces-test+in_ok-count+then-count-eq0, then-not-is_empty+in_ok-end_line, else-not-is_empty}

pub pieces-init : goal.pieces-init
pieces-init g c = record {
  source = refl;
  sink = refl;
  task = refl;
  reading = reading_none _ _ _ _ c.requires.fresh;
}

pub returns-in_err-count-clause-lines : goal.returns-in_err-count-clause-lines
returns-in_err-count-clause-lines g c =
    stopped Source _ _ c.from_residual.result c.from_residual.ensures.1
    (reading_failed _ _ _ _ _ _ c.pieces.left _ (omega (arith, c.pieces-test.true))
    c.in_err-count.ensures.bytes c.pieces.invariant.reading)

pub returns-in_err-take-clause-lines : goal.returns-in_err-take-clause-lines
returns-in_err-take-clause-lines g c =
    let bound = c.in_ok-count.ensures.bound in
    let within : c.in_ok-count.count ≤ c.pieces.left = search rules in
    let few : c.in_ok-count.count ≤ 65536 = search rules in
    stopped Sink _ _ c.from_residual-in_err-take.result c.from_residual-in_err-take.ensures.1
    (taking_begun _ _ _ _ _ _ _ _ c.pieces.left c.in_ok-count.count _ _ _ c.pieces.invariant.task
    (take-append-le c.in_ok-count.count c.read.new.buf _ bound.0) (sym bound.1) within few
    c.in_ok-count.ensures.bytes.0 c.in_err-take.ensures.grows c.pieces.invariant.reading
    c.in_err-take.ensures.begun)

pub pieces-preserved : goal.pieces-preserved
pieces-preserved g c =
    let bound = c.in_ok-count.ensures.bound in
    let within : c.in_ok-count.count ≤ c.pieces.left = search rules in
    let few : c.in_ok-count.count ≤ 65536 = search rules in
    record {
      source = search rules;
      sink = search rules;
      task = c.in_ok-take.ensures.task ∙ c.pieces.invariant.task;
      reading = reading_take _ _ _ _ _ _ _ _ c.pieces.left c.in_ok-count.count _ _ _
          c.pieces.invariant.task (take-append-le c.in_ok-count.count c.read.new.buf _ bound.0)
          (sym bound.1) within few c.in_ok-count.ensures.bytes.0 c.in_ok-take.ensures.grows
          c.pieces.invariant.reading _ c.in_ok-take.ensures.taken;
    }

-- all that was read was answered or is kept, at the end of the source or of the count of octets
module _ (g : given.Over) (c : After-is_empty g) where
  all : AllRead (reply_of c.args.self.now) (reply_of c.pieces.self)
      (g.R.Read.remaining c.args.source.now.device) (g.R.Read.remaining c.pieces-test.source.device)
      (g.W.Write.contents c.args.sink.now.device) (g.W.Write.contents c.pieces.sink.device)
      (kept_of c.pieces.self)
  all =
      let inv = c.pieces.invariant in
      elim c.pieces-test.branch [
        | else-pieces-test w ↦
            rw w.source-is (all_read _ _ _ _ _ _ c.pieces.left _ inv.task
            (omega (arith, w.pieces-test.false)) inv.reading)
        | then-pieces-test+in_ok-count+then-count-eq0 w ↦
            let some : 0 < length w.read.new.buf = search rules in
            let bytes = w.in_ok-count.ensures.bytes in
            rw w.source-is (all_given _ _ _ _ _ _ _ c.pieces.left _ _ _ inv.task bytes.0
            w.if-count-eq0.true (bytes.1 w.if-count-eq0.true some) inv.reading)
      ]

pub returns-in_err-end_line-clause-lines : goal.returns-in_err-end_line-clause-lines
returns-in_err-end_line-clause-lines g c =
    let all = all g (goal.at.returns-in_err-end_line-clause-lines g c).After-is_empty in
    let some = eqb-false (length c.pieces.self.line) 0
    (sym c.is_empty.ensures ∙ c.if-not-is_empty.true) in
    let begun = c.in_err-end_line.ensures.answered.err in
    stopped Sink _ _
    c.from_residual-in_err-end_line.result c.from_residual-in_err-end_line.ensures.1
    (all_begun _ _ _ _ _ _ _ _ all
    (λ held x p. finished_begun _ held _ x _ p some _ begun) (grows_begun _ _ _ begun))

pub returns-clause-lines : goal.returns-clause-lines
returns-clause-lines g c =
    let all = all g (goal.at.returns-clause-lines g c).After-is_empty in
    all_answered _ _ _ _ _ _ _ _ all _ (λ held x p. elim c.if-not-is_empty.branch [
      | then-not-is_empty+in_ok-end_line w ↦
          let some = eqb-false (length c.pieces.self.line) 0
          (sym c.is_empty.ensures ∙ w.if-not-is_empty.true) in
          let e = w.in_ok-end_line.ensures in
          rw (w.self-is, w.sink-is) (finished_line _ held _ x _ p some _ _ e.answered.ok e.passes)
      | else-not-is_empty w ↦
          let none = eqb-true (length c.pieces.self.line) 0
          (sym c.is_empty.ensures ∙ w.if-not-is_empty.false) in
          rw (w.self-is, w.sink-is) (finished_empty _ held _ x _ p none)
    ])
