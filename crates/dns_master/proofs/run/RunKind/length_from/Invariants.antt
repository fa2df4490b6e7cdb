use Rattle.dns_master.proofs.Common.{◌≡◌, ◌+◌, ◌-◌, ◌≤◌, length, drop, run_length, by_itself}
use Rattle.dns_master.proofs.run.RunKind.length_from.Given as goal

-- the octets so far, followed by the run in the remaining text, are the whole run
abbrev pub invariant-units : goal.invariant-units
invariant-units l = record {
  whole : run_length
      (by_itself l.self) 0 l.text ≡ l.index + run_length (by_itself l.self) 0 (drop l.index l.text);
  bound : l.index ≤ length l.text;
}

abbrev pub decreases-units : goal.decreases-units
decreases-units l = length l.text - l.index
