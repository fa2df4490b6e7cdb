use Rattle.dns_master.proofs.Common.{◌≤◌, length}
use Rattle.dns_spec.specs.EntryPlaces.{entries_from}
use Rattle.dns_master.specs.FaultListForm.{ListedSoFar}
use Rattle.dns_master.proofs.listing.list_text.Given as goal

-- the faults of the entries so far, and the entries after them
abbrev pub invariant-entries : goal.invariant-entries
invariant-entries g l = record {
  listed : ListedSoFar l.origin l.octets l.past l.listing.earlier
      (entries_from l.left (length l.octets) l.past l.rest) l.listing.list
      (g.C.RecordCollection.records l.initial.collection) (g.C.RecordCollection.records
      l.collection);
  short : length l.rest ≤ length l.octets;
}

abbrev pub decreases-entries : goal.decreases-entries
decreases-entries g l = l.left
