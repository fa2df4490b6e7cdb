use Rattle.dns_master.proofs.Common.{◌≡◌, ◌+◌, length, Consumes}
use Rattle.dns_master.proofs.listing.read_octets.Given as goal

-- the octets read so far
abbrev pub invariant-pieces : goal.invariant-pieces
invariant-pieces g l = record {
  consumed : Consumes (g.R.Read.remaining l.initial.source.device)
      (g.R.Read.remaining l.source.device) l.text.items;
  left : l.left + length l.text.items ≡ 16777217;
  counted : l.source.failures ≡ l.initial.source.failures;
}

abbrev pub decreases-pieces : goal.decreases-pieces
decreases-pieces g l = l.left
