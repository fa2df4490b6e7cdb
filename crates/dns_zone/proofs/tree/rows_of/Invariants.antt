use Rattle.dns_zone.proofs.GrowingTree.{Growing}
use Rattle.dns_zone.proofs.tree.rows_of.Given as goal

-- the children of all rows before row `number` have rows
abbrev pub invariant-rows : goal.invariant-rows
invariant-rows l = Growing l.origin l.records l.rows.items l.bounds.items l.number
