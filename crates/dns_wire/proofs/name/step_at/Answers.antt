use Rattle.dns_wire.proofs.Common.{rules, arith, length, ap}
use Rattle.dns_wire.proofs.Runs.{no_label, label_stands}
use Rattle.dns_wire.proofs.name.step_at.Goals as goal

pub returns-in_default-clause-none : goal.returns-in_default-clause-none
returns-in_default-clause-none c _ =
    no_label c.args.message.now c.args.run c.args.offset c.in_ok-octet.octet.now
    (search rules) (search rules) (search rules) (search rules)
    (omega (arith, c.in_default.ensures.cases, ap length c.split_at.ensures.back, c.from.ensures))

pub returns-in-Some-new-clause-step : goal.returns-in-Some-new-clause-step
returns-in-Some-new-clause-step c = grind (arith, label_stands)
