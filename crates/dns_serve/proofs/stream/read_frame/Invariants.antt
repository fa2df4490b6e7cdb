use Rattle.dns_spec.proofs.Common.{length, ◌-◌, ◌≡◌}
use Rattle.dns_serve.proofs.Readings.{Came}
use Rattle.dns_serve.proofs.stream.read_frame.Given as goal

abbrev pub invariant-pieces : goal.invariant-pieces
invariant-pieces g l = record {
  came : Came (g.R.Read.remaining l.initial.source.device) (g.R.Read.remaining l.source.device)
      l.frame;
  room : length l.buffer ≡ length l.initial.buffer;
  counted : l.source.failures ≡ l.initial.source.failures;
}

abbrev pub decreases-pieces : goal.decreases-pieces
decreases-pieces g l = 65537 - l.frame.came
