use Rattle.dns_name.proofs.Common.{◌≡◌, take, Appends, joined}
use Rattle.dns_name.proofs.tally.Tally.write_parts.Given as goal

abbrev pub invariant-parts : goal.invariant-parts
invariant-parts g l = record {
  written : Appends (g.T.Write.contents l.initial.self.device)
      (g.T.Write.contents l.self.device) (joined (take l.part-index l.parts));
  counted : l.self.failures ≡ l.initial.self.failures;
}
