-- What adding the rows of a name's children to a list of rows does.
use Rattle.std.specs.Prelude.{◌≡◌, ◌≤◌, List, length, take, drop}
use Rattle.dns_spec.specs.Names.{DomainName}
use Rattle.dns_spec.specs.Records.{ResourceRecord}
use Rattle.dns_zone.specs.TreeForm.{AreChildren}
use Rattle.dns_zone.specs.declared.tree.row.Row.{Row}

-- `new` is `old`, followed by the rows of the children of n
pub record AddsChildren (rs : List ResourceRecord) (n : DomainName) (old new : List Row) : Type 0 where
  pub longer : length old ≤ length new
  pub kept : take (length old) new ≡ old
  pub children : AreChildren rs n (drop (length old) new)
