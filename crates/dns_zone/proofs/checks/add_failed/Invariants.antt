use Rattle.dns_zone.proofs.Common.{◌≡◌, ◌≤◌, ◌+◌, ◌++◌, length, failed_from}
use Rattle.dns_zone.proofs.checks.add_failed.Given as goal

-- the faults found so far and the faults of the remaining checks are all faults
abbrev pub invariant-checks : goal.invariant-checks
invariant-checks l = record {
  all : l.found.items ++ failed_from l.owner l.code l.rest
      ≡ l.initial.found.items ++ failed_from l.owner 1 l.fn.failed;
  codes : l.code + length l.rest ≤ 255;
}

abbrev pub decreases-checks : goal.decreases-checks
decreases-checks l = length l.rest
