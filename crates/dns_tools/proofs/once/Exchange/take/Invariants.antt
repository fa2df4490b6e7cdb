use Rattle.dns_tools.proofs.Common.{◌≡◌, ◌++◌, take, Option, Octets, kept_of, reply_of, Grows, Progress}
use Rattle.dns_tools.proofs.once.Exchange.take.Given as goal

-- what holds of the octets before this piece holds up to the octets that were taken
abbrev pub invariant-octets : goal.invariant-octets
invariant-octets g l = record {
  sink : l.sink.failures ≡ l.initial.sink.failures;
  task : reply_of l.self ≡ reply_of l.initial.self;
  taken : (held : Option Octets) (x : Octets)
      → Progress (reply_of l.initial.self) held (g.W.Write.contents l.initial.sink.device) x
      (kept_of l.initial.self) → Progress (reply_of l.initial.self) held
      (g.W.Write.contents l.sink.device) (x ++ take l.octet-index l.octets) (kept_of l.self);
  grows : Grows (g.W.Write.contents l.initial.sink.device) (g.W.Write.contents l.sink.device);
}
