use Rattle.dns_answer.proofs.Common.{◌≡◌, ◌+◌, ◌*◌, ◌≤◌, drop, IsThere, ends_at_cuts, labels_below}
use Rattle.dns_answer.proofs.lookup.walk.Given as goal

-- The node reached is the node of the sought name without its first `before` labels, which are still
-- to be walked. A visit costs at most 17 comparisons.
abbrev pub invariant-labels : goal.invariant-labels
invariant-labels l =
    let z = l.fn.steps.zone in
    record {
      there : IsThere z l.start (ends_at_cuts l.cuts) (drop l.before l.sought.name) l.node;
      fewer : l.before ≤ l.sought.depth;
      zone : l.steps.zone ≡ z;
      from : l.fn.steps.visits ≤ l.steps.visits;
      visits : l.steps.visits + l.before ≤ l.fn.steps.visits + labels_below z l.sought.name;
      comparisons : l.steps.comparisons + 17 * l.fn.steps.visits
          ≤ l.fn.steps.comparisons + 17 * l.steps.visits;
    }

abbrev pub decreases-labels : goal.decreases-labels
decreases-labels l = l.before
