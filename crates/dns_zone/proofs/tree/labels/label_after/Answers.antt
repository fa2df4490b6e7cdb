use Rattle.dns_zone.proofs.Common.{rules, length, length-drop, sym, ap, ◌∙◌, arith, labels_of}
use Rattle.dns_zone.proofs.LabelStarts.{after_label}
use Rattle.dns_zone.proofs.tree.labels.label_after.Goals as goal

pub unreachable-requires : goal.unreachable-requires
unreachable-requires c =
    let n = labels_of c.args.octets.now in
    let none = sym c.requires.start.labels ∙ ap labels_of (sym c.split_at.ensures.back)
    ∙ c.in_default.ensures in
    omega (arith, ap length none, length-drop c.args.count n, c.requires.inside)

pub returns : goal.returns
returns c = search (rules, after_label)
