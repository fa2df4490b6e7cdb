use Rattle.dns_answer.proofs.Common.{rules, sym}
use Rattle.dns_answer.proofs.SeekSteps.{among-is}
use Rattle.dns_answer.proofs.chain.is_among.Goals as goal

pub returns-then-has_equal : goal.returns-then-has_equal
returns-then-has_equal c =
    let among = among-is c.args.name.now c.args.last.now c.in-Some.first.now c.in-Some.targets.now
    c.args.earlier.now (sym c.in-Some.ensures.cases.0) c.requires.name c.requires.lower in
    search rules

pub returns-else-has_equal : goal.returns-else-has_equal
returns-else-has_equal c =
    let among = among-is c.args.name.now c.args.last.now c.in-Some.first.now c.in-Some.targets.now
    c.args.earlier.now (sym c.in-Some.ensures.cases.0) c.requires.name c.requires.lower in
    search rules
