use Rattle.dns_master.proofs.Common.{◌≡◌, ◌+◌, ◌≤◌, length}
use Rattle.dns_master.proofs.SourceSteps.{GivenSoFar}
use Rattle.dns_master.proofs.reader.read_into.Given as goal

-- the octets read so far, and what the entries in them mean
abbrev pub invariant-pieces : goal.invariant-pieces
invariant-pieces g l = record {
  so_far : GivenSoFar (g.R.Read.remaining l.initial.source.device)
      (g.R.Read.remaining l.source.device) l.origin l.reading.reader l.reading.held.items
      l.reading.left
      (g.C.RecordCollection.records l.collection);
  fits : l.reading.reader.line + length l.reading.held.items + l.reading.left ≤ 16777217;
  counted : l.source.failures ≡ l.initial.source.failures;
}

abbrev pub decreases-pieces : goal.decreases-pieces
decreases-pieces g l = l.reading.left
