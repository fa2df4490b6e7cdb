-- How the program's values represent queries and RCODEs of the definitions.
use Rattle.std.specs.Prelude.{◌≡◌, ℕ, ◌-◌, ◌<◌, ◌≤◌, Some, IsTrue, length, take, drop}
use Rattle.dns_spec.specs.Names.{Octets, DomainName, wire, is_name}
use Rattle.dns_spec.specs.ComputedNames.{name_at}
use Rattle.dns_spec.specs.Query as spec
use Rattle.dns_spec.specs.Reading as reading
use Rattle.dns_wire.specs.declared.query.QueryRead.{QueryRead}
use Rattle.dns_wire.specs.declared.query.QueryRead.TheVariants.{Absent, Refused, Query}
use Rattle.dns_wire.specs.declared.query.QueryRef.{QueryRef}
use Rattle.dns_wire.specs.declared.query.QueryRef.TheVariants as borrowed
use Rattle.dns_wire.specs.declared.query.Rcode.{Rcode}
use Rattle.dns_wire.specs.declared.query.Rcode.TheVariants as rcodes

abbrev pub as_read : QueryRead → spec.QueryRead
as_read Absent = spec.absent
as_read (Refused head) = spec.refused_with head
as_read (Query head question) = spec.query head question

abbrev pub as_borrowed : QueryRef → spec.QueryRead
as_borrowed borrowed.Absent = spec.absent
as_borrowed (borrowed.Refused head) = spec.refused_with head
as_borrowed (borrowed.Query head question) = spec.query head question

-- the name after the header ends at this offset
pub record NameEnds (d : Octets) (end : ℕ) : Type 0 where
  pub name : DomainName
  pub read : name_at d 12 ≡ Some (name, end)
  pub octets : take (end - 12) (drop 12 d) ≡ wire name
  pub is_name : IsTrue (is_name name)
  pub some : 12 < end
  pub inside : end ≤ length d

-- RFC 1035 4.1.1: the number of an RCODE
abbrev pub code_of : Rcode → ℕ
code_of rcodes.NoError = reading.no_error
code_of rcodes.FormatError = reading.format_error
code_of rcodes.NameError = reading.name_error
code_of rcodes.NotImplemented = reading.not_implemented
code_of rcodes.Refused = reading.refused
