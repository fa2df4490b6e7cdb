use Rattle.dns_master.proofs.Common.{◌≡◌, ◌+◌, ◌≤◌, length, FrontAdded}
use Rattle.dns_master.proofs.pieces.take_entries.Given as goal

-- the entries so far were taken from the front of the text
abbrev pub invariant-entries : goal.invariant-entries
invariant-entries g l = record {
  added : FrontAdded l.goes_on l.initial.reader l.text l.reader l.rest
      (g.C.RecordCollection.records l.initial.collection) (g.C.RecordCollection.records
      l.collection);
  bound : l.reader.line + length l.rest ≤ l.initial.reader.line + length l.text;
  short : length l.rest ≤ length l.text;
  same : length l.text ≤ length l.rest → l.rest ≡ l.text;
}

abbrev pub decreases-entries : goal.decreases-entries
decreases-entries g l = length l.rest
