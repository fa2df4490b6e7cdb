use Rattle.dns_tools.proofs.Common.{drop, flat_map, section_line}
use Rattle.dns_tools.proofs.LineParts.{IsLeft}
use Rattle.dns_tools.proofs.message.write_records.Given as goal

-- the remaining lines are still to be written
abbrev pub invariant-records : goal.invariant-records
invariant-records g l =
    IsLeft g.W.Write.contents l.initial.sink l.sink (flat_map (section_line l.section) l.records)
    (flat_map (section_line l.section) (drop l.record-index l.records))
