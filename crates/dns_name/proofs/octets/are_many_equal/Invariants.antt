use Rattle.dns_name.proofs.Common.{◌≡◌, ◌<◌, length}
use Rattle.dns_name.proofs.OctetRuns.{AreLow}
use Rattle.dns_name.proofs.octets.are_many_equal.Given as goal

-- the runs are equal if and only if the remaining octets are
abbrev pub invariant-eights : goal.invariant-eights
invariant-eights l = record {
  same : length l.right_rest ≡ length l.left_rest;
  least : 8 < length l.left_rest;
  low_left : AreLow l.left_rest;
  low_right : AreLow l.right_rest;
  forth : l.left_rest ≡ l.right_rest → l.left ≡ l.right;
  back : l.left ≡ l.right → l.left_rest ≡ l.right_rest;
}

abbrev pub decreases-eights : goal.decreases-eights
decreases-eights l = length l.left_rest
