use Rattle.dns_tools.proofs.Common.{◌≡◌, kept_of, reply_of}
use Rattle.dns_tools.proofs.LineReads.{Reading}
use Rattle.dns_tools.proofs.once.Exchange.run.Given as goal

-- the octets so far were read, and their lines were answered or are kept
abbrev pub invariant-pieces : goal.invariant-pieces
invariant-pieces g l = record {
  source : l.source.failures ≡ l.initial.source.failures;
  sink : l.sink.failures ≡ l.initial.sink.failures;
  task : reply_of l.self ≡ reply_of l.initial.self;
  reading : Reading (reply_of l.initial.self) (g.R.Read.remaining l.initial.source.device)
      (g.R.Read.remaining l.source.device) (g.W.Write.contents l.initial.sink.device)
      (g.W.Write.contents l.sink.device) l.left (kept_of l.self);
}

abbrev pub decreases-pieces : goal.decreases-pieces
decreases-pieces g l = l.left
