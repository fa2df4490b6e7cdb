use Rattle.dns_zone.proofs.Common.{◌≡◌, length, nat_lt, sets_ended}
use Rattle.dns_zone.proofs.checks.owner.have_many_sets.Given as goal

abbrev pub invariant-records : goal.invariant-records
invariant-records l = nat_lt l.left (sets_ended l.rest) ≡ nat_lt 32 (sets_ended l.own)

abbrev pub decreases-records : goal.decreases-records
decreases-records l = length l.rest
