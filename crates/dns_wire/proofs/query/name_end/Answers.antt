use Rattle.dns_wire.proofs.Common.{refl, arith}
use Rattle.dns_wire.proofs.QueryName.{read_nothing, ends_here, ends_missing, ends_high, ends_past, ends_long, read_label}
use Rattle.dns_wire.proofs.query.name_end.Goals.{then-length-gt-MOST_LABEL-via-then-length-gt-MOST_LABEL, then-length-gt-MOST_LABEL-via-else-length-gt-MOST_LABEL+then-next-datagram, then-length-gt-MOST_LABEL-via-else-length-gt-MOST_LABEL+else-next-datagram+then-next-gt-LAST_ROOT}
use Rattle.dns_wire.proofs.query.name_end.Goals as goal

pub labels-init : goal.labels-init
labels-init c = read_nothing c.args.datagram.now

pub returns-then-length-eq0-clause-some : goal.returns-then-length-eq0-clause-some
returns-then-length-eq0-clause-some c = grind (arith, ends_here)

pub returns-then-length-gt-MOST_LABEL-clause-none :
    goal.returns-then-length-gt-MOST_LABEL-clause-none
returns-then-length-gt-MOST_LABEL-clause-none c _ =
    elim c.then-length-gt-MOST_LABEL.branch [
      | then-length-gt-MOST_LABEL-via-then-length-gt-MOST_LABEL w ↦
          ends_high _ _ c.labels.invariant c.labels-test.true _ refl c.if-length-eq0.false
          (omega (arith, w.if-length-gt-MOST_LABEL.true))
      | then-length-gt-MOST_LABEL-via-else-length-gt-MOST_LABEL+then-next-datagram w ↦
          ends_past _ _ c.labels.invariant c.labels-test.true _ refl c.if-length-eq0.false
          (omega (arith, w.if-length-gt-MOST_LABEL.false)) w.if-next-datagram.true
      | then-length-gt-MOST_LABEL-via-else-length-gt-MOST_LABEL+else-next-datagram+then-next-gt-LAST_ROOT
          w ↦ ends_long _ _ c.labels.invariant c.labels-test.true _ refl c.if-length-eq0.false
          (omega (arith, w.if-length-gt-MOST_LABEL.false))
          (omega (arith, w.if-next-datagram.false)) w.if-next-gt-LAST_ROOT.true
    ]

pub labels-preserved : goal.labels-preserved
labels-preserved c = grind (arith, read_label)

pub returns-clause-none : goal.returns-clause-none
returns-clause-none c _ = ends_missing _ _ c.labels.invariant (omega (arith, c.labels-test.false))
