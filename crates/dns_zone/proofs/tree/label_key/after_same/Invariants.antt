use Rattle.dns_zone.proofs.Common.{◌≡◌, map, length, to_ascii_lowercase, label_order}
use Rattle.dns_zone.proofs.tree.label_key.after_same.Given as goal

abbrev pub invariant-eights : goal.invariant-eights
invariant-eights l = record {
  lower : map to_ascii_lowercase l.left ≡ l.left;
  order : label_order l.left (map to_ascii_lowercase l.right)
      ≡ label_order l.lower (map to_ascii_lowercase l.label);
}

abbrev pub decreases-eights : goal.decreases-eights
decreases-eights l = length l.left
