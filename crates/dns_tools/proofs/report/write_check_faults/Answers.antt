use Rattle.dns_zone.specs.declared.build_fault.CheckFault.{CheckFault}
use Rattle.dns_tools.proofs.LineParts.{text_begun, text_written}
use Rattle.dns_tools.proofs.Listing.{next_check, check_line, all_checked}
use Rattle.dns_tools.proofs.report.write_check_faults.Goals as goal

pub faults-init : goal.faults-init
faults-init g c = all_checked _ _ c.args.faults.now

abbrev none : CheckFault
none = record { owner = 0; code = 0 }

pub returns-in_err-write_parts : goal.returns-in_err-write_parts
returns-in_err-write_parts g c =
    text_begun _ _ c.faults.invariant
    (next_check (check_line c.args.faults.now) _ _ _ none c.as_slice-fault-items.ensures.value
    c.faults-test.true)
    (rw (c.as_slice.ensures, c.owner.ensures) at c.in_err-write_parts.ensures)
    c.from_residual.ensures.0

pub faults-preserved : goal.faults-preserved
faults-preserved g c =
    text_written _ _ c.faults.invariant
    (next_check (check_line c.args.faults.now) _ _ _ none c.as_slice-fault-items.ensures.value
    c.faults-test.true)
    (rw (c.as_slice.ensures, c.owner.ensures) at c.in_ok-write_parts.ensures)
