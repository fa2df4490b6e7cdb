use Rattle.dns_tools.proofs.Common.{◌++◌, drop, flat_map, IsAt, list_report}
use Rattle.dns_tools.proofs.LineParts.{IsLeft}
use Rattle.dns_tools.proofs.Listing.{fault_line, more_line}
use Rattle.dns_tools.proofs.faults.write_entry_faults.Given as goal

-- the lines of the remaining faults are still to be written
abbrev pub invariant-faults : goal.invariant-faults
invariant-faults g l = record {
  at : IsAt l.text l.at;
  left : IsLeft g.W.Write.contents l.initial.sink l.sink (list_report l.text l.list)
      (flat_map (fault_line l.text) (drop l.fault-index l.list.faults.items) ++ more_line l.list);
}
