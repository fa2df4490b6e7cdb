use Rattle.dns_name.proofs.Common.{length, ◌-◌, ◌≡◌, ◌≤◌, take, Appends}
use Rattle.dns_name.proofs.tally.Tally.write_all.Given as goal

abbrev pub invariant-pieces : goal.invariant-pieces
invariant-pieces g l = record {
  within : l.written ≤ length l.text;
  written : Appends (g.T.Write.contents l.initial.self.device)
      (g.T.Write.contents l.self.device) (take l.written l.text);
  counted : l.self.failures ≡ l.initial.self.failures;
}

abbrev pub decreases-pieces : goal.decreases-pieces
decreases-pieces g l = length l.text - l.written
