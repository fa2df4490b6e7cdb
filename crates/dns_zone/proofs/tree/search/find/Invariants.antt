use Rattle.dns_zone.proofs.Common.{◌-◌, map, to_ascii_lowercase, child_rows}
use Rattle.dns_zone.proofs.FoundChild.{Sought}
use Rattle.dns_zone.proofs.tree.search.find.Given as goal

abbrev pub invariant-halves : goal.invariant-halves
invariant-halves l =
    Sought l.children.tree.zone.records (child_rows l.children) (map to_ascii_lowercase l.label) l.low l.high
    l.fn.counts l.counts

abbrev pub decreases-halves : goal.decreases-halves
decreases-halves l = l.high - l.low
