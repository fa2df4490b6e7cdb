use Rattle.dns_tools.proofs.Common.{ap, [], Ok, flat_map, fault_report, Writes-same, vec_len, ListsFaults, faults_in}
use Rattle.dns_tools.proofs.CheckedZone.{reported, report_begun}
use Rattle.dns_tools.proofs.Listing.{report_for, is_list, zone_empty, faults_count}
use Rattle.dns_tools.proofs.faults.list_zone.Goals as goal

pub returns-in_err-write_check_faults-clause-report :
    goal.returns-in_err-write_check_faults-clause-report
returns-in_err-write_check_faults-clause-report g c = λ text are.
    let o = c.args.origin.now in
    let stopped = c.from_residual-in_err-write_check_faults in
    report_begun (ListsFaults o text) (report_for o text [] c.args.store) stopped.result _ _
    stopped.ensures.1 (is_list o text [] c.args.store are)
    (Writes-same
    (ap (flat_map fault_report) c.in_ok-zone.ensures.ok)
    c.in_err-write_check_faults.ensures).err

pub returns-clause-report : goal.returns-clause-report
returns-clause-report g c = λ text are.
    let o = c.args.origin.now in
    reported (ListsFaults o text) (report_for o text [] c.args.store) (Ok c.is_empty.result) _ _
    (is_list o text [] c.args.store are) (
      zone_empty _ (faults_in c.in_ok-zone.zone) (vec_len c.in_ok-zone.zone.found) _
          c.in_ok-zone.ensures.ok (faults_count c.in_ok-zone.zone) c.is_empty.ensures,
      (Writes-same (ap (flat_map fault_report) c.in_ok-zone.ensures.ok)
          c.in_ok-write_check_faults.ensures).ok,
    )
