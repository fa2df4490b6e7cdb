use Rattle.dns_zone.proofs.Common.{◌≡◌, ◌+◌, ◌++◌, length, map, drop, ZoneContents, AllByRecursion, owner_of, IsChecked, owners_once}
use Rattle.dns_zone.proofs.OwnersWalk.{HasOwners}
use Rattle.dns_zone.proofs.GrowingNames.{LastName}
use Rattle.dns_zone.proofs.names.checked_names.Given as goal

-- the owners so far and the owners of the remaining records are all owners
abbrev pub invariant-owners : goal.invariant-owners
invariant-owners l =
    let z : ZoneContents = record { origin = l.origin; records = l.records } in record {
      all : map (owner_of z) l.names.items ++ owners_once l.rest ≡ owners_once l.records;
      each : AllByRecursion (λ c. IsChecked z (owner_of z c) c) l.names.items;
      whole : HasOwners z l.rest;
      part : l.rest ≡ drop l.first l.records;
      count : l.first + length l.rest ≡ length l.records;
      last : LastName z (map (owner_of z) l.names.items) (owners_once l.rest) l.last l.cut;
    }

abbrev pub decreases-owners : goal.decreases-owners
decreases-owners l = length l.rest
