-- What the checker writes about a source's file, and what it returns.
use Rattle.std.specs.Prelude.{⊤, ◌≡◌, Bool, MatchOption, Option, Result, Ok, Err}
use Rattle.std.specs.Io.KnownBytes.{Appends}
use Rattle.dns_spec.specs.Names.{Octets, DomainName, folded}
use Rattle.dns_spec.specs.Meaning.{Meaning}
use Rattle.dns_spec.specs.Report.{Options, Report, Reports, report_of_meaning}
use Rattle.dns_master.specs.SourceForm.{Decides}
use Rattle.dns_name.specs.Counted.{AppendsBeginning}
use Rattle.dns_tools.specs.declared.check.Flags.{Flags}
use Rattle.dns_tools.specs.declared.stop.Stop.{Stop}
use Rattle.dns_tools.specs.declared.stop.Stop.TheVariants.{Memory, Source, Sink}

-- the options of the command line
abbrev pub options_of : Flags → Options
options_of flags = record { is_quiet = flags.quiet; is_printing = flags.print }

-- the report on the rest of a source, up to its end, as the file of a zone with this origin
abbrev pub ReportsOn : Option Octets → DomainName → Options → Report → Type 0
ReportsOn known o options report = MatchOption known ⊤ (λ x. Reports o x options report)

-- The octets that were read decide the report: it is the report on what they mean.
abbrev pub DecidesReport : Option Octets → Option Octets → DomainName → Options → Report → Type 0
DecidesReport known left o options report =
    (m : Meaning) × Decides known left (folded o) m × (report ≡ report_of_meaning options o m)

-- what was written of a report after the sink's earlier contents, and what was returned
abbrev pub WrittenAs : Report → Result Bool Stop → Option Octets → Option Octets → Type 0
WrittenAs report (Ok passes) old new = (report.passes ≡ passes) × Appends old new report.output
WrittenAs report (Err Sink) old new = AppendsBeginning old new report.output
WrittenAs report (Err stop) old new = ⊥

-- What a run has written and returned: a report of which `Is` holds, or a prefix of such a report
-- if the sink failed, or nothing if allocation or the source failed.
abbrev pub ReportedAs : (Report → Type 0) → Result Bool Stop → Option Octets → Option Octets
    → Type 0
ReportedAs Is (Err Memory) old new = new ≡ old
ReportedAs Is (Err Source) old new = new ≡ old
ReportedAs Is result old new = (report : Report) × Is report × WrittenAs report result old new

-- What a check has written and returned: the report on the file, as the octets that were read
-- decide it.
abbrev pub CheckedAs : Option Octets → Option Octets → DomainName → Options → Result Bool Stop
    → Option Octets → Option Octets → Type 0
CheckedAs known left o options =
    ReportedAs (λ report. ReportsOn known o options report
    × DecidesReport known left o options report)
