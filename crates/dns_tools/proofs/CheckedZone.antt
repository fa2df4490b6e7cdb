-- What was written of the report on a file is what a check must write.
use Rattle.dns_tools.proofs.Common.{arith, ◌≡◌, ◌≢◌, Bool, List, [], ◌∷◌, Option, Some, None, Result, Ok, Err, IsErrAnd, refl, subst, flat_map, Octets, DomainName, folded, ResourceRecord, ZoneContents, records_equal, distinct, zone_of, Fault, faults, Meaning, records, fault_at, Options, Report, failing, passing, fault_report, report_of_faults, zone_report, report_of_meaning, folded_folded, ordered_passing, AppendsBeginning, fault_of, GivesMeaning, Stop, Memory, Source, Sink, Refusal, File, Zone, LoadFault, Refused, IsRead, LoadedAs, refusal_report, ReportsOn, WrittenAs, ReportedAs, CheckedAs}

-- what was written of a report of which `Is` holds
pub reported : (Is : Report → Type 0) (report : Report) (result : Result Bool Stop) (old new :
    Option Octets) → Is report → WrittenAs report result old new → ReportedAs Is result old new
reported Is report (Ok passes) old new h w = (report, h, w)
reported Is report (Err Sink) old new h w = (report, h, w)
reported Is report (Err Memory) old new h w = absurd w
reported Is report (Err Source) old new h w = absurd w

-- what is reported, if `Is` implies `Other`
pub reported_as : (Is Other : Report → Type 0) (result : Result Bool Stop) (old new : Option Octets)
    → ((report : Report) → Is report → Other report)
    → ReportedAs Is result old new → ReportedAs Other result old new
reported_as Is Other (Ok passes) old new so (report, is, written) = (report, so report is, written)
reported_as Is Other (Err Sink) old new so (report, is, written) = (report, so report is, written)
reported_as Is Other (Err Memory) old new so same = same
reported_as Is Other (Err Source) old new so same = same

-- a prefix of a report of which `Is` holds was written
pub report_begun : (Is : Report → Type 0) (report : Report)
    (result : Result Bool Stop) (old new : Option Octets) → IsErrAnd result (λ stop. stop ≡ Sink)
    → Is report → AppendsBeginning old new report.output → ReportedAs Is result old new
report_begun Is report (Ok passes) old new h is begun = absurd h
report_begun Is report (Err stop) old new h is begun = grind (arith, ReportedAs)

reports_on : (known : Option Octets) (o : DomainName)
    (options : Options) (m : Meaning) (report : Report) → GivesMeaning known (folded o) m
    → report ≡ report_of_meaning options o m → ReportsOn known o options report
reports_on None o options m report h e = tt
reports_on (Some x) o options m report h e = (m, h, e)

-- the report on what was read
checked : (known left : Option Octets) (o : DomainName) (options : Options)
    (m : Meaning) (report : Report) (result : Result Bool Stop) (old new : Option Octets)
    → IsRead known left (folded o) m → report ≡ report_of_meaning options o m
    → WrittenAs report result old new → CheckedAs known left o options result old new
checked known left o options m report result old new read e written =
    grind (arith, reported, reports_on)

-- folding a name twice changes nothing
same_zone : (o : DomainName) (rs : List ResourceRecord) → zone_of (folded o) rs ≡ zone_of o rs
same_zone o rs = grind (arith, records, distinct, records_equal, folded_folded)

-- a zone without faults
pub zone_checked : (known left : Option Octets) (o : DomainName)
    (options : Options) (z : ZoneContents) (result : Result Bool Stop) (old new : Option Octets)
    → LoadedAs known left o (Ok z)
    → WrittenAs (passing options z) result old new → CheckedAs known left o options result old new
zone_checked known left o options z result old new (rs, read, none, is) written =
    grind (arith, passing, ordered_passing, same_zone, checked)

some_faults : (options : Options) (z : ZoneContents) (fs : List Fault)
    → fs ≢ [] → failing options (flat_map fault_report fs) ≡ report_of_faults options z fs
some_faults options z [] some = absurd (some refl)
some_faults options z (f ∷ fs) some = refl

-- a file or a zone with faults
pub refusal_checked : (known left : Option Octets) (o : DomainName) (options : Options)
    (refusal : Refusal) (result : Result Bool Stop) (old new : Option Octets) → LoadedAs known left
    o (Err (Refused refusal)) → WrittenAs (failing options (refusal_report refusal)) result old new
    → CheckedAs known left o options result old new
refusal_checked known left o options (File fault) result old new read written =
    grind (arith, checked, fault_at, fault_of)
refusal_checked known left o options (Zone found) result old new (rs, read, are, some) written =
    grind (
      arith,
      ZoneContents,
      zone_of,
      folded,
      failing,
      flat_map,
      fault_report,
      zone_report,
      some_faults,
      faults,
      same_zone,
      checked,
      records,
    )

-- a load that ended in a refusal
pub loaded_as : (known left : Option Octets) (o : DomainName)
    (result : Result ZoneContents LoadFault) (refusal : Refusal) → result ≡ Err (Refused refusal)
    → LoadedAs known left o result → LoadedAs known left o (Err (Refused refusal))
loaded_as known left o result refusal e h = subst (λ r. LoadedAs known left o r) e h
