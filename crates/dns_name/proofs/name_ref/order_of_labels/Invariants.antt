use Rattle.dns_name.proofs.Common.{◌≡◌, length, reverse, slice_cmp, ordering_then, DomainName, label_order}
use Rattle.std.specs.declared.cmp.Ordering.{Ordering}
use Rattle.dns_name.proofs.name_ref.order_of_labels.Given as goal

-- the order of names with the same number of labels, or `after` if the names are equal
abbrev order_then : DomainName → DomainName → Ordering → Ordering
order_then n m after = ordering_then (slice_cmp label_order (reverse n) (reverse m)) after

abbrev pub invariant-labels : goal.invariant-labels
invariant-labels l = (length l.left ≡ length l.right)
    × (order_then l.left l.right l.order ≡ order_then l.initial.left l.initial.right l.fn.longer)

abbrev pub decreases-labels : goal.decreases-labels
decreases-labels l = length l.left
