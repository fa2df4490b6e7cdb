-- The result of reading the fields of data one after another.
use Rattle.std.specs.Prelude.{◌≡◌, ℕ, ◌≤◌, ◌++◌, Some}
use Rattle.dns_spec.specs.Names.{Octets}
use Rattle.dns_spec.specs.Data.{Field}
use Rattle.dns_spec.specs.Reading.{field_at}

-- the field is read: its octets are appended, and it ends within the data
pub record IsFieldRead (b : Octets) (p : Field) (i e : ℕ) (old new : Octets) (j : ℕ) : Type 0 where
  pub octets : Octets
  pub there : field_at b p i e ≡ Some (octets, j)
  pub appended : new ≡ old ++ octets
  pub inside : j ≤ e
