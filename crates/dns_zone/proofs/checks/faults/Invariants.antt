use Rattle.dns_zone.proofs.Common.{◌≡◌, take, map, flat_map, faults_of, owner_of, reported_at}
use Rattle.dns_zone.proofs.checks.faults.Given as goal

-- the faults of the names so far
abbrev pub invariant-names : goal.invariant-names
invariant-names l =
    faults_of l.context l.found.items ≡ flat_map (reported_at l.context)
    (map (owner_of l.context) (take l.one-index l.one-items))
