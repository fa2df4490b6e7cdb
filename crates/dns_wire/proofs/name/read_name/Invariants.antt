use Rattle.dns_wire.proofs.Common.{◌≤◌, length, ◌+◌, ◌-◌, ◌*◌}
use Rattle.dns_wire.proofs.Runs.{IsReading}
use Rattle.dns_wire.proofs.name.read_name.Given as goal

abbrev pub invariant-steps : goal.invariant-steps
invariant-steps l = record {
  reading : IsReading l.message l.at l.name l.run l.offset l.end;
  begun : l.run ≤ length l.message;
}

-- a label leaves fewer octets, and a pointer leads to a run that began earlier
abbrev pub decreases-steps : goal.decreases-steps
decreases-steps l = l.run * (length l.message + 1) + (length l.message - l.offset)
