use Rattle.dns_name.proofs.Common.{rules, ◌≡◌, Ordering, refl, sym, ◌∙◌, arith, ordering_then, Octets, label_order}
use Rattle.dns_name.proofs.OrderLemmas.{order_next, order_stays}
use Rattle.dns_name.proofs.name_ref.order_of_labels.Goals as goal

compared : (xs ys l k : Octets) (a order next : Ordering) → xs ≡ l → ys ≡ k → a ≡ label_order xs ys
    → next ≡ ordering_then a order → next ≡ ordering_then (label_order l k) order
compared xs ys l k a order next e f g h = h ∙ rw (g, e, f) refl

pub labels-preserved : goal.labels-preserved
labels-preserved c = grind (arith, compared, order_next)

pub returns-then-are_those_of : goal.returns-then-are_those_of
returns-then-are_those_of c =
    let here = compared _ _ _ _ _ _ _ c.octets.ensures.value
    c.octets-in-Some-Some.ensures.value c.cmp.ensures c.then-order.ensures in
    let step = order_next _ _ _ _ _ _
    _ _ c.in-Some-Some.ensures.steps c.in-Some-Some.ensures'.steps c.labels.invariant.0 here in
    sym (order_stays c.next.new.self c.next-in-labels.new.self c.then-order.result (search rules))
    ∙ step.1 ∙ c.labels.invariant.1
