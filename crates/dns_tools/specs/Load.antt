-- The zone of a file, the report on a refused file, and the failures of a source while it is
-- loaded.
use Rattle.std.specs.Prelude.{⊤, ◌≡◌, ◌≢◌, ℕ, ◌+◌, List, [], Option, Result, Ok, Err}
use Rattle.std.specs.List.{flat_map}
use Rattle.dns_spec.specs.Names.{Octets, DomainName, folded}
use Rattle.dns_spec.specs.Records.{ResourceRecord, ZoneContents, zone_of, ordered_zone}
use Rattle.dns_spec.specs.Checks.{faults}
use Rattle.dns_spec.specs.Meaning.{records, fault_at}
use Rattle.dns_spec.specs.Report.{line_report, fault_report}
use Rattle.dns_name.specs.Counted.{Counted}
use Rattle.dns_master.specs.SourceForm.{IsRead}
use Rattle.dns_master.specs.declared.read_fault.ReadCode.{ReadCode}
use Rattle.dns_master.specs.declared.read_fault.ReadCode.TheVariants.{SourceFailed, NoMemory}
use Rattle.dns_master.specs.declared.read_fault.ReadFault.{ReadFault}
use Rattle.dns_master.specs.Codes.{fault_of}
use Rattle.dns_zone.specs.FaultForm.{faults_in}
use Rattle.dns_tools.specs.declared.stop.Stop.TheVariants.{Memory, Source}
use Rattle.dns_tools.specs.declared.load.Refusal.{Refusal}
use Rattle.dns_tools.specs.declared.load.Refusal.TheVariants.{File, Zone}
use Rattle.dns_tools.specs.declared.load.LoadFault.{LoadFault}
use Rattle.dns_tools.specs.declared.load.LoadFault.TheVariants.{Refused, Stopped}

-- The result of loading a file for an origin: the zone of the records that the file means, which
-- has no faults; or the faults of that zone, at least one; or the fault that the file means.
-- Nothing is claimed if allocation or the source failed.
abbrev pub LoadedAs : Option Octets → Option Octets → DomainName → Result ZoneContents LoadFault
    → Type 0
LoadedAs known left o (Ok zone) =
    (rs : List ResourceRecord) × IsRead known left (folded o) (records rs)
    × (faults (zone_of (folded o) rs) ≡ []) × (zone ≡ ordered_zone (folded o) rs)
LoadedAs known left o (Err (Refused (Zone found))) =
    (rs : List ResourceRecord) × IsRead known left (folded o) (records rs)
    × (faults_in found ≡ faults (zone_of (folded o) rs)) × (faults (zone_of (folded o) rs) ≢ [])
LoadedAs known left o (Err (Refused (File fault))) =
    IsRead known left (folded o) (fault_at (fault_of fault.code) fault.line)
LoadedAs known left o (Err (Stopped stop)) = ⊤

-- the loader's fault for a fault of the reader, by its code
abbrev pub fault_by_code : ReadFault → ReadCode → LoadFault
fault_by_code fault SourceFailed = Stopped Source
fault_by_code fault NoMemory = Stopped Memory
fault_by_code fault code = Refused (File fault)

abbrev pub fault_of_read : ReadFault → LoadFault
fault_of_read fault = fault_by_code fault fault.code

-- the report on a refused file
abbrev pub refusal_report : Refusal → Octets
refusal_report (File fault) = line_report (fault_of fault.code) fault.line
refusal_report (Zone found) = flat_map fault_report (faults_in found)

-- the failure count of the source after a load: one more if and only if reading the source failed
abbrev pub failures_after_load : {A : Type 0} → ℕ → Result A LoadFault → ℕ
failures_after_load count (Err (Stopped Source)) = count + 1
failures_after_load count result = count

-- What a call that loads a zone does to a counted source, whose octets `remaining` gives if they
-- are known.
pub record Loads {R : Type 0} (remaining : R → Option Octets) (old new : Counted R)
    (o : DomainName) (result : Result ZoneContents LoadFault) : Type 0 where
  pub meaning : LoadedAs (remaining old.device) (remaining new.device) o result
  pub counted : new.failures ≡ failures_after_load old.failures result
