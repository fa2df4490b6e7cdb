use Rattle.dns_tools.proofs.Common.{rules, ◌≡◌, drop_all, Writes-same, Writes-held}
use Rattle.dns_tools.proofs.LineParts.{text_written, text_begun}
use Rattle.dns_tools.proofs.Listing.{next_fault, more_line}
use Rattle.dns_tools.proofs.faults.write_entry_faults.Goals.{then-list, else-list}
use Rattle.dns_tools.proofs.faults.write_entry_faults.Goals as goal

pub returns-in_err-write_entry_fault : goal.returns-in_err-write_entry_fault
returns-in_err-write_entry_fault g c =
    text_begun _ _ c.faults.invariant.left
    (next_fault c.args.text.now c.args.list.now _ _ _ c.as_slice-fault-items.ensures.value
    c.faults-test.true)
    c.in_err-write_entry_fault.ensures.written c.from_residual.ensures.0

pub faults-preserved : goal.faults-preserved
faults-preserved g c = record {
  at = search rules;
  left = text_written _ _ c.faults.invariant.left
      (next_fault c.args.text.now c.args.list.now _ _ _ c.as_slice-fault-items.ensures.value
      c.faults-test.true)
      c.in_ok-write_entry_fault.ensures.written;
}

pub returns : goal.returns
returns g c =
    let none = drop_all c.faults.fault-index c.args.list.now.faults.items (search rules) in
    let more : c.if-list.more.now ≡ more_line c.args.list.now = elim c.if-list.branch [
      | then-list w ↦ search rules
      | else-list w ↦ search rules
    ] in
    Writes-held _ _ c.faults.invariant.left.written c.faults.invariant.left.counted
    (Writes-same (rw none more) c.write_parts.ensures)
