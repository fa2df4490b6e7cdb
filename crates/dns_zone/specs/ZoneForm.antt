-- Invariants of the records of a zone, and of a built zone.
use Rattle.std.specs.Prelude.{⊤, ◌≡◌, ◌≢◌, ◌≤◌, ℕ, List, [], All, length, take, drop, Bool, not, if◌then◌else◌}
use Rattle.std.specs.List.{filter}
use Rattle.dns_spec.specs.Names.{folded}
use Rattle.dns_spec.specs.Records.{ResourceRecord, ZoneContents, sort_by, record_order}
use Rattle.dns_spec.specs.Checks.{faults, Passes}
use Rattle.dns_spec.specs.Meaning.{most_records}
use Rattle.dns_spec.specs.ZonePrinted.{IsReadRecord, is_soa}
use Rattle.dns_zone.specs.FaultForm.{faults_in}
use Rattle.dns_zone.specs.declared.build_fault.BuildFault.{BuildFault}
use Rattle.dns_zone.specs.declared.build_fault.BuildFault.TheVariants.{Faults, NoMemory}

-- in canonical order: sorting them changes nothing
abbrev pub AreOrdered : List ResourceRecord → Type 0
AreOrdered rs = sort_by record_order rs ≡ rs

-- records as they were read, in canonical order, and no more than a zone may have
pub record IsCanonical (rs : List ResourceRecord) : Type 0 where
  pub each : All IsReadRecord rs
  pub ordered : AreOrdered rs
  pub few : length rs ≤ most_records

-- An invariant of a built zone: an origin in lower case, and records in canonical order, without
-- faults.
pub record IsBuilt (z : ZoneContents) : Type 0 where
  pub low : folded z.origin ≡ z.origin
  pub each : All IsReadRecord z.records
  pub ordered : AreOrdered z.records
  pub few : length z.records ≤ most_records
  pub passes : Passes z

-- What the error says if a zone can't be built: all faults of the zone, at least one, or nothing if
-- allocation failed.
abbrev pub ReportsFaults : BuildFault → ZoneContents → Type 0
ReportsFaults (Faults found) z = (faults_in found ≡ faults z) × (faults z ≢ [])
ReportsFaults NoMemory z = ⊤

-- whether a record is an SOA, or, if `soa` is false, whether it is not
abbrev pub is_chosen : Bool → ResourceRecord → Bool
is_chosen soa r = if soa then is_soa r else not (is_soa r)

-- the first k elements are the ones that pass a test, and the others fail it
pub record IsFront {X : Type 0} (p : X → Bool) (xs : List X) (k : ℕ) : Type 0 where
  pub bound : k ≤ length xs
  pub passing : take k xs ≡ filter p xs
  pub others : drop k xs ≡ filter (λ x. not (p x)) xs
