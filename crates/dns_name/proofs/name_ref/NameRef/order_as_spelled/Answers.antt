use Rattle.dns_name.proofs.Common.{rules, arith, sym, ap₂, ◌∙◌, label_order}
use Rattle.dns_name.proofs.OrderLemmas.{order_is, order_of_first}
use Rattle.dns_name.proofs.name_ref.NameRef.order_as_spelled.Goals as goal

pub returns-then-are_those_of : goal.returns-then-are_those_of
returns-then-are_those_of c =
    order_of_first c.args.self.now c.next.new.self
    c.args.other.now c.next-2.new.self c.in-Some-Some.first c.in-Some-Some.second c.cmp.result
    (sym c.labels-left.ensures.labels ∙ c.in-Some-Some.ensures.steps)
    (sym c.labels-right.ensures.labels ∙ c.in-Some-Some.ensures'.steps) (search rules)
    (c.cmp.ensures
    ∙ ap₂ label_order c.octets.ensures.value c.octets-then-are_those_of.ensures.value)

pub returns : goal.returns
returns c = grind (arith, order_is)
