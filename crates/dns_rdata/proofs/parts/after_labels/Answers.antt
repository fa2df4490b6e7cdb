use Rattle.dns_rdata.proofs.Common.{arith}
use Rattle.dns_rdata.proofs.NameFronts.{nothing_begins, no_label_there, label_passed}
use Rattle.dns_rdata.proofs.parts.after_labels.Goals as goal

pub returns-in_err-length-clause-none : goal.returns-in_err-length-clause-none
returns-in_err-length-clause-none c =
    λ _. c.labels.invariant.none (nothing_begins c.labels.rest.now c.in_err-length.ensures.cases)

pub returns-then-length-gt-MAX_LABEL-clause-none : goal.returns-then-length-gt-MAX_LABEL-clause-none
returns-then-length-gt-MAX_LABEL-clause-none c =
    λ _. c.labels.invariant.none
    (no_label_there c.labels.rest.now c.in_ok-length.others.now
    c.in_ok-length.length.now c.in_ok-length.ensures.cases.0 c.if-length-eq0.false
    (λ fits there. absurd (omega (arith, c.if-length-gt-MAX_LABEL.true))))

pub returns-in_err-after-clause-none : goal.returns-in_err-after-clause-none
returns-in_err-after-clause-none c =
    λ _. c.labels.invariant.none
    (no_label_there c.labels.rest.now c.in_ok-length.others.now
    c.in_ok-length.length.now c.in_ok-length.ensures.cases.0 c.if-length-eq0.false
    (λ fits there. absurd (omega (arith, c.from.ensures, c.in_err-after.ensures.cases))))

pub labels-preserved : goal.labels-preserved
labels-preserved c = grind (arith, label_passed)
