use Rattle.dns_tools.proofs.Common.{Keeps}
use Rattle.dns_tools.proofs.nonblocking.NonblockingWrite.write.Given as goal

-- the calls so far wrote nothing
abbrev pub invariant-calls : goal.invariant-calls
invariant-calls g l = record {
  kept : Keeps (g.T.Write.contents l.initial.self.device) (g.T.Write.contents l.self.device);
}
