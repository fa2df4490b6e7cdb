use Rattle.dns_zone.proofs.Common.{rules, ◌≡◌, ◌<◌, ◌∷◌, length, ap, sym, ◌∙◌, arith, Octets, DomainName, wire, at_or_below, at_or_below-long, same-length, length-is_name, labels_of, IsWireForm, IsWireForm-wire, labels_of_spelled}
use Rattle.dns_name.proofs.WireLemmas.{no_longer_decides}
use Rattle.dns_zone.proofs.tree.sought.Sought.below.Goals as goal

pub labels-init : goal.labels-init
labels-init c = search (rules, labels_of_spelled, IsWireForm-wire)

pub overflow_add-depth : goal.overflow_add-depth
overflow_add-depth c = omega
    (arith, c.labels.invariant.deep, length-is_name c.args.name.now c.octets-octets.ensures.is_name)

-- a suffix longer than the ancestor is at or below it if and only if what follows the suffix's
-- first label is
one_on : (xs ys : Octets) (l : Octets) (n a : DomainName) → IsWireForm xs → labels_of xs ≡ l ∷ n
    → ys ≡ wire a → length ys < length xs → at_or_below n a ≡ at_or_below (labels_of xs) a
one_on xs ys l n a form e f longer =
    let w : wire (l ∷ n) ≡ xs = ap wire (sym e) ∙ form.wire_is in
    let after = at_or_below-long l n a (omega (arith, ap length w, ap length f)) in
    sym (ap (λ m. at_or_below m a) e ∙ after)

pub labels-preserved : goal.labels-preserved
labels-preserved c = search (rules, one_on)

pub returns-then-not-same : goal.returns-then-not-same
returns-then-not-same c = search (rules, no_longer_decides)

pub new-requires-2 : goal.new-requires-2
new-requires-2 c = IsWireForm-wire _ _ c.octets-octets.ensures.value c.octets-octets.ensures.is_name

pub returns : goal.returns
returns c = search (rules, same-length, labels_of_spelled, no_longer_decides, length-is_name)
