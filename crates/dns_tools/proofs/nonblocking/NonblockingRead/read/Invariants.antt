use Rattle.dns_tools.proofs.Common.{◌≡◌, length, Keeps}
use Rattle.dns_tools.proofs.nonblocking.NonblockingRead.read.Given as goal

-- the calls so far read nothing
abbrev pub invariant-calls : goal.invariant-calls
invariant-calls g l = record {
  room : length l.buf ≡ length l.initial.buf;
  kept : Keeps (g.T.Read.remaining l.initial.self.device) (g.T.Read.remaining l.self.device);
}
