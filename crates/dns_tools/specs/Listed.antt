-- What the list of faults writes about a source's file, and what it returns.
use Rattle.std.specs.Prelude.{◌≡◌, ◌+◌, ◌≤◌, [], ◌++◌, codes, length, if◌then◌else◌, Option, Result, Bool}
use Rattle.std.specs.List.{flat_map}
use Rattle.dns_spec.specs.Names.{Octets, DomainName}
use Rattle.dns_spec.specs.AllFaults.{ListsFaults, entry_report, line_at, column_at}
use Rattle.dns_master.specs.FaultListForm.{ReadsOctets}
use Rattle.dns_master.specs.ListingForm.{shown_fault}
use Rattle.dns_master.specs.declared.read_fault.ReadCode.{ReadCode}
use Rattle.dns_master.specs.declared.read_fault.ReadCode.TheVariants.{SourceFailed}
use Rattle.dns_master.specs.declared.listing.FaultList.{FaultList}
use Rattle.dns_tools.specs.Checked.{ReportedAs}
use Rattle.dns_tools.specs.declared.stop.Stop.{Stop}
use Rattle.dns_tools.specs.declared.stop.Stop.TheVariants.{Memory, Source}
use Rattle.dns_tools.specs.declared.faults.Position.{Position}

-- What a run has written and returned: the list of the faults of the octets that were read, which
-- are all of the source, or those up to one past the limit of a file.
abbrev pub ListedAs : Option Octets → Option Octets → DomainName → Result Bool Stop
    → Option Octets → Option Octets → Type 0
ListedAs known left o =
    ReportedAs (λ report. (text : Octets) × ReadsOctets known left text
    × ListsFaults o text report)

-- why a run stops if reading octets fails with this code: the source failed, or an allocation did
abbrev pub stop_of_code : ReadCode → Stop
stop_of_code SourceFailed = Source
stop_of_code code = Memory

-- the lines for the faulty entries of a text
abbrev pub list_report : Octets → FaultList → Octets
list_report text list =
    flat_map (λ fault. entry_report text (shown_fault fault)) list.faults.items
    ++ (if list.has_more then codes "more\n" else [])

-- a place in a text, with its line and column
pub record IsAt (text : Octets) (p : Position) : Type 0 where
  pub within : p.octets ≤ length text
  pub line : p.line ≡ line_at text p.octets
  pub column : p.column ≡ column_at text p.octets
  pub lines : p.line ≤ p.octets + 1
  pub columns : p.column ≤ p.octets + 1
