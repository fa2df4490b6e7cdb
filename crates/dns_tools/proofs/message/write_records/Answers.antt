use Rattle.dns_tools.proofs.Common.{refl, section_line}
use Rattle.dns_tools.proofs.LineParts.{piece_begun, piece_written}
use Rattle.dns_tools.proofs.message.write_records.Goals as goal

pub records-preserved : goal.records-preserved
records-preserved g c =
    piece_written (section_line c.args.section.now) c.args.records.now
    c.records-test.true c.record-item.is c.records.invariant
    (rw (c.as_slice.ensures, c.borrowed.ensures.value, c.from.ensures, ← c.record.view_is) refl)
    c.in_ok-write_parts.ensures

pub returns-in_err-write_parts : goal.returns-in_err-write_parts
returns-in_err-write_parts g c =
    piece_begun (section_line c.args.section.now) c.args.records.now
    c.records-test.true c.record-item.is c.records.invariant
    (rw (c.as_slice.ensures, c.borrowed.ensures.value, c.from.ensures, ← c.record.view_is) refl)
    c.in_err-write_parts.ensures c.from_residual.ensures.0
