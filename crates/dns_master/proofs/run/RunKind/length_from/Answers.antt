use Rattle.dns_master.proofs.Common.{rules, length, drop, ap, arith, drop_all, by_itself}
use Rattle.dns_master.proofs.RunLemmas.{here-itself, here-end, here-escape, here-no_escape, run-front, run-none}
use Rattle.dns_master.proofs.run.RunKind.length_from.Goals as goal

pub units-init : goal.units-init
units-init c = search (rules, run-front)

pub units-preserved-then-has : goal.units-preserved-then-has
units-preserved-then-has c = search (rules, here-itself)

pub units-preserved : goal.units-preserved
units-preserved c = search (rules, here-escape)

pub returns-after-units-clause-value : goal.returns-after-units-clause-value
returns-after-units-clause-value c =
    let none = run-none (by_itself c.args.self) (drop c.units.index c.args.text.now)
    (ap length (drop_all c.units.index c.args.text.now c.units-test.false)) in
    omega (arith, none, c.units.invariant.whole)

pub returns-then-octet-ne92-clause-value : goal.returns-then-octet-ne92-clause-value
returns-then-octet-ne92-clause-value c = search (rules, here-end)

pub returns-then-escape-eq0-clause-value : goal.returns-then-escape-eq0-clause-value
returns-then-escape-eq0-clause-value c = search (rules, here-no_escape)
