-- Records of one type as a set.
use Rattle.std.specs.Prelude.{◌≡◌, ℕ, List, [], ◌∷◌, map, All}
use Rattle.dns_spec.specs.Names.{Octets}
use Rattle.dns_spec.specs.Data.{Valid}
use Rattle.dns_spec.specs.Records.{ResourceRecord}
use Rattle.dns_spec.specs.Sets.{RecordSet}

-- the data of records, and the set with this data, the type t and the TTL k
abbrev pub data_of : List ResourceRecord → List Octets
data_of = map (λ (r : ResourceRecord). r.rdata)

abbrev pub set_of_type : ℕ → ℕ → List ResourceRecord → RecordSet
set_of_type t k rs = record { rtype = t; ttl = k; rdata = data_of rs }

-- an invariant of such a set: all records have its type, and their data is valid for it
pub record IsOfType (t : ℕ) (rs : List ResourceRecord) : Type 0 where
  pub valid : All (Valid t) (data_of rs)
  pub typed : All (λ (r : ResourceRecord). r.rtype ≡ t) rs

-- all records have the first record's type, and their data is valid for it
abbrev pub AreOfType : List ResourceRecord → Type 0
AreOfType [] = Unit {0}
AreOfType (r ∷ rs) = IsOfType r.rtype (r ∷ rs)
