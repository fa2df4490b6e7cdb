use Rattle.dns_zone.proofs.Common.{◌≡◌, length, BeginsAt, AreStarts}
use Rattle.dns_zone.proofs.tree.labels.put_starts.Given as goal

-- the next label, or the root, begins at `start`; the offsets of the labels before it are stored
abbrev pub invariant-labels : goal.invariant-labels
invariant-labels l = record {
  here : BeginsAt l.octets l.k l.start;
  known : AreStarts l.octets l.k l.starts;
  room : length l.starts ≡ length l.fn.starts;
}
