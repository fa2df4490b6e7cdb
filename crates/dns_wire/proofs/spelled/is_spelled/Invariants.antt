use Rattle.dns_wire.proofs.Common.{◌≡◌, true, ◌≤◌, length, ◌+◌, ◌-◌, ◌*◌, DomainName, wire, is_name, SpelledFrom}
use Rattle.dns_wire.proofs.spelled.is_spelled.Given as goal

-- the suffix is spelled at offset `at` if and only if the octets left to compare are spelled from
-- the current offset on; they are a name's wire form if the suffix is
abbrev pub invariant-steps : goal.invariant-steps
invariant-steps l = record {
  forth : SpelledFrom l.message l.run l.offset l.rest → SpelledFrom l.message l.at l.at l.suffix;
  back : SpelledFrom l.message l.at l.at l.suffix → SpelledFrom l.message l.run l.offset l.rest;
  named : (n : DomainName) → l.suffix ≡ wire n
      → is_name n ≡ true → (m : DomainName) × (l.rest ≡ wire m) × (is_name m ≡ true);
  begun : l.run ≤ l.offset;
}

-- a label leaves fewer octets, and a pointer leads to a run that began earlier
abbrev pub decreases-steps : goal.decreases-steps
decreases-steps l = l.run * (length l.message + 1) + (length l.message - l.offset)
