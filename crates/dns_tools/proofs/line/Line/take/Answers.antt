use Rattle.dns_tools.proofs.Common.{rules, take_all, take_more}
use Rattle.dns_tools.proofs.KeptLines.{more_unended, more_kept, ended_first, taken_front, taken_first}
use Rattle.dns_tools.proofs.line.Line.take.Goals as goal

pub returns-then-octet-eq10-clause-over : goal.returns-then-octet-eq10-clause-over
returns-then-octet-eq10-clause-over c = search (rules, ended_first)

pub octets-preserved : goal.octets-preserved
octets-preserved c =
    let more = take_more c.args.octets.now c.octets.octet-index 0 c.octets-test.true in
    record {
      unended =
          λ x is. more_unended x _ _ _ more c.if-octet-eq10.false (c.octets.invariant.unended x is);
      kept = λ x is. more_kept x _ _ _ _ _ more c.keep.ensures (c.octets.invariant.kept x is);
    }

pub returns-clause-more : goal.returns-clause-more
returns-clause-more c = search (rules, take_all, taken_front)

pub returns-clause-over : goal.returns-clause-over
returns-clause-over c = search (rules, take_all, taken_first)
