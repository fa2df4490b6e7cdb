-- Faults that are kept as the numbers of their owners.
use Rattle.std.specs.Prelude.{ℕ, suc, Bool, List, [], ◌∷◌, ◌++◌, map, get_or, if◌then◌else◌}
use Rattle.dns_spec.specs.Names.{DomainName}
use Rattle.dns_spec.specs.Records.{ZoneContents}
use Rattle.dns_spec.specs.Checks.{Fault}
use Rattle.dns_zone.specs.TreeForm.{owners}
use Rattle.dns_zone.specs.declared.build_fault.CheckFault.{CheckFault}
use Rattle.dns_zone.specs.declared.build_fault.CheckFaults.{CheckFaults}

-- number 0 is the origin, and number k + 1 the owner of record k
abbrev pub numbered_owner : ZoneContents → ℕ → DomainName
numbered_owner z k = get_or (z.origin ∷ owners z.records) k z.origin

abbrev pub fault_of : ZoneContents → CheckFault → Fault
fault_of z f = record { owner = numbered_owner z f.owner; code = f.code }

abbrev pub faults_of : ZoneContents → List CheckFault → List Fault
faults_of z fs = map (fault_of z) fs

-- the zone whose faults are kept, and its faults
abbrev pub zone_in : CheckFaults → ZoneContents
zone_in f = record { origin = f.origin; records = f.records.items }

abbrev pub faults_in : CheckFaults → List Fault
faults_in f = faults_of (zone_in f) f.found.items

-- the faults of an owner; the list says which checks it fails, from the check with `code` on
abbrev pub failed_from : ℕ → ℕ → List Bool → List CheckFault
failed_from k code [] = []
failed_from k code (fails ∷ rest) = (if fails then record { owner = k; code = code } ∷ [] else [])
    ++ failed_from k (suc code) rest
