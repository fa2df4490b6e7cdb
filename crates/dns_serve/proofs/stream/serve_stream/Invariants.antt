use Rattle.dns_spec.proofs.Common.{◌≡◌, ◌-◌, ◌≤◌, length}
use Rattle.dns_serve.specs.Streams.{reply_over_tcp}
use Rattle.dns_serve.proofs.Sessions.{Done}
use Rattle.dns_serve.proofs.stream.serve_stream.Given as goal

-- `served` messages were read, their replies were written, and no device has failed
abbrev pub invariant-messages : goal.invariant-messages
invariant-messages g l = record {
  done : Done (reply_over_tcp l.zone) (record {
    unread = g.R.Read.remaining l.initial.source.device;
    left = g.R.Read.remaining l.source.device;
    held = g.W.Write.contents l.initial.sink.device;
    holds = g.W.Write.contents l.sink.device;
  }) l.served;
  within : l.served ≤ l.most;
  same : l.most ≡ l.initial.most;
  source : l.source.failures ≡ l.initial.source.failures;
  sink : l.sink.failures ≡ l.initial.sink.failures;
  room : length l.buffer ≡ 65537;
}

abbrev pub decreases-messages : goal.decreases-messages
decreases-messages g l = l.most - l.served
