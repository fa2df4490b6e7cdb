use Rattle.dns_tools.proofs.Common.{◌≡◌, ◌-◌, true, false, length, if◌then◌else◌, ReadsFirst}
use Rattle.dns_tools.proofs.KeptLines.{Going}
use Rattle.dns_tools.proofs.line.Line.read.Given as goal

-- the line is over, or goes on in the octets so far
abbrev pub invariant-pieces : goal.invariant-pieces
invariant-pieces g l = record {
  source : l.source.failures ≡ l.initial.source.failures;
  room : length l.piece ≡ length l.initial.piece;
  over : l.is_over ≡ true → ReadsFirst
      (g.R.Read.remaining l.initial.source.device) (g.R.Read.remaining l.source.device) l.self;
  going : l.is_over ≡ false → Going
      (g.R.Read.remaining l.initial.source.device) (g.R.Read.remaining l.source.device) l.self;
}

abbrev pub decreases-pieces : goal.decreases-pieces
decreases-pieces g l = if l.is_over then 0 else 131071 - length l.self
