use Rattle.dns_zone.proofs.Common.{◌-◌, row_at, row_name}
use Rattle.dns_zone.proofs.GrowingChildren.{Adding}
use Rattle.dns_zone.proofs.tree.add_children.Given as goal

-- the children of the records before the next one have their rows
abbrev pub invariant-children : goal.invariant-children
invariant-children l =
    let row = row_at l.fn.rows.items l.number in
    Adding l.records (row_name l.records row) row.own_end l.fn.rows.items l.rows.items l.next

abbrev pub decreases-children : goal.decreases-children
decreases-children l = l.end - l.next
