use Rattle.dns_wire.proofs.Common.{arith}
use Rattle.dns_wire.proofs.SuffixLemmas.{root_empty, root_zero, root_cut}
use Rattle.dns_wire.proofs.suffixes.after_first_label.Goals as goal

pub returns-in_err-length-clause-root : goal.returns-in_err-length-clause-root
returns-in_err-length-clause-root c =
    λ _ n e ok. root_empty c.args.name.now n e c.in_err-length.ensures.cases

pub returns-then-length-eq0-clause-root : goal.returns-then-length-eq0-clause-root
returns-then-length-eq0-clause-root c = grind (arith, root_zero)

pub returns-in_err-after-clause-root : goal.returns-in_err-after-clause-root
returns-in_err-after-clause-root c = λ _ n e ok.
    root_cut c.args.name.now
    c.in_ok-length.others.now c.in_ok-length.length.now n e c.in_ok-length.ensures.cases.0
    (omega (arith, c.in_err-after.ensures.cases, c.from-length.ensures))
