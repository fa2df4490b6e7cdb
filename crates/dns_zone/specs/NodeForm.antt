-- Invariants of the tree of a zone, and the node of each row.
use Rattle.std.specs.Prelude.{◌≡◌, ℕ, ◌+◌, ◌<◌, ◌≤◌, List, length, get_or}
use Rattle.dns_spec.specs.Names.{Octets}
use Rattle.dns_zone.specs.Nodes.{ZoneNode}
use Rattle.dns_zone.specs.ZoneForm.{IsBuilt}
use Rattle.dns_zone.specs.TreeForm.{IsTree, children_at, row_name, row_label, row_at}
use Rattle.dns_zone.specs.declared.tree.row.Row.{Row}
use Rattle.dns_zone.specs.declared.tree.zone_tree.Tree.{Tree}

-- an invariant of a zone's tree
pub record IsZoneTree (t : Tree) : Type 0 where
  pub built : IsBuilt t.zone
  pub tree : IsTree t.zone.origin t.zone.records t.rows t.bounds

-- the node of a row
abbrev pub node_at : Tree → ℕ → ZoneNode
node_at t k = record { zone = t.zone; name = row_name t.zone.records (row_at t.rows k) }

-- k is a row of the tree: an invariant of a node
pub record IsZoneNode (t : Tree) (k : ℕ) : Type 0 where
  pub kept : IsZoneTree t
  pub row : k < length t.rows

-- a tree and one of its rows, for a search among the row's children
pub record TreeRow : Type 0 where
  pub tree : Tree
  pub row : ℕ

abbrev pub child_rows : TreeRow → List Row
child_rows v = children_at v.tree.rows v.tree.bounds v.row

abbrev pub child_label : TreeRow → ℕ → Octets
child_label v i = row_label v.tree.zone.records (row_at (child_rows v) i)

-- `rows` are the rows of a node's children; the first of them has the row number `start`
pub record AreChildrenAt (v : TreeRow) (start : ℕ) (rows : List Row) : Type 0 where
  pub at : IsZoneNode v.tree v.row
  pub start_is : start ≡ get_or v.tree.bounds v.row 0
  pub rows_are : rows ≡ child_rows v
  pub fits : start + length rows ≤ 18446744073709551615
