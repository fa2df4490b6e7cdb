use Rattle.std.proofs.Common.{◌≡◌}
use Rattle.dns_zone_tests.proofs.tests.walking.walked.Given as goal

-- the walk is over the node's zone
abbrev pub invariant-labels : goal.invariant-labels
invariant-labels l = record { zone : l.steps.zone ≡ l.node.zone }
