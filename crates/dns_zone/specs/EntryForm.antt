-- The layout of a record's owner and data in one list of octets.
use Rattle.std.specs.Prelude.{ℕ, ◌<◌, ◌≤◌, All, length, take, drop}
use Rattle.dns_spec.specs.Names.{Octets, DomainName}
use Rattle.dns_name.specs.WireForm.{labels_of, IsWireForm}
use Rattle.dns_master.specs.RecordForm.{IsKept}
use Rattle.dns_zone.specs.declared.store.octets.RecordOctets.{RecordOctets}
use Rattle.dns_zone.specs.declared.store.octets.RecordOctets.TheVariants.{Few, Many}

-- the octets of a record, whether they are stored inside it or allocated
abbrev pub octets_in : RecordOctets → Octets
octets_in (Few octets) = octets
octets_in (Many octets) = octets.items

-- the owner: the first k octets are its wire form
abbrev pub owner_in : ℕ → Octets → DomainName
owner_in k xs = labels_of (take k xs)

abbrev pub data_in : ℕ → Octets → Octets
data_in k xs = drop k xs

-- an invariant of the octets of a record with this TTL and type; its owner has k octets
pub record IsEntry (k : ℕ) (xs : Octets) (ttl t : ℕ) : Type 0 where
  pub fits : k ≤ length xs
  pub wire : IsWireForm (take k xs)
  pub kept : IsKept (owner_in k xs) ttl t (data_in k xs)
  pub owner_octets : All (All (λ o. o < 256)) (owner_in k xs)
  pub data_octets : All (λ o. o < 256) (data_in k xs)
