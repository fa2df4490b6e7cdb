use Rattle.dns_tools.proofs.Common.{drop, flat_map, fault_report, faults_in}
use Rattle.dns_tools.proofs.LineParts.{IsLeft}
use Rattle.dns_tools.proofs.Listing.{check_line}
use Rattle.dns_tools.proofs.report.write_check_faults.Given as goal

-- the lines of the remaining faults are still to be written
abbrev pub invariant-faults : goal.invariant-faults
invariant-faults g l =
    IsLeft g.W.Write.contents l.initial.sink l.sink (flat_map fault_report (faults_in l.faults))
    (flat_map (check_line l.faults) (drop l.fault-index l.faults.found.items))
