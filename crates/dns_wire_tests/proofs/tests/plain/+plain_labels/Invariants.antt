use Rattle.dns_wire_tests.proofs.tests.plain.+plain_labels.Given as goal

-- derived from the argument of the recursive call
abbrev pub decreases-plain_labels : goal.decreases-plain_labels
decreases-plain_labels l = l.most
