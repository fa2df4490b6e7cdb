use Rattle.dns_answer.proofs.Common.{◌≡◌, ◌*◌, [], length, filter, list_all, Offers, Took, targets_of_first, side_items, side_nodes, side_takes}
use Rattle.dns_answer.proofs.addresses.offer_addresses.Given as goal

-- what was offered for the first targets, its cost, and whether they are selected
abbrev pub invariant-targets : goal.invariant-targets
invariant-targets g l =
    let z = l.fn.steps.zone in
    let p = side_takes l.side in
    record {
      offers : Offers l.fn.builder l.builder (side_items z p [] (targets_of_first l.i l.set));
      took : Took l.fn.steps l.steps (side_nodes z p (targets_of_first l.i l.set))
          (length (filter p (targets_of_first l.i l.set)));
      bound : Took l.fn.steps l.steps (127 * l.i) l.i;
      all : l.all ≡ list_all p (targets_of_first l.i l.set);
    }
