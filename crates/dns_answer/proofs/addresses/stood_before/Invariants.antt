use Rattle.dns_answer.proofs.Common.{◌≡◌, false, list_any, same, targets_of_first}
use Rattle.dns_answer.proofs.addresses.stood_before.Given as goal

abbrev pub invariant-earlier : goal.invariant-earlier
invariant-earlier l = list_any (same l.target) (targets_of_first l.i l.set) ≡ false
