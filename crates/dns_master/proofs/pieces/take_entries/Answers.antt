use Rattle.dns_master.proofs.Common.{rules, ◌≤◌, length, arith}
use Rattle.dns_master.proofs.PieceSteps.{nothing-added, more-added, faulty-after}
use Rattle.dns_master.proofs.Refusals.{OfEntry-map, entry-told}
use Rattle.dns_master.proofs.pieces.take_entries.Goals as goal

pub entries-init : goal.entries-init
entries-init g c = search (rules, nothing-added)

pub returns-in-Err-clause-err : goal.returns-in-Err-clause-err
returns-in-Err-clause-err g c =
    OfEntry-map c.entry_fault.result
    (faulty-after c.args.goes_on c.args.reader.now c.entries.reader c.args.text.now
    c.entries.rest.now (g.C.RecordCollection.records c.args.collection.now)
    (g.C.RecordCollection.records
    c.entries.collection) c.entries.invariant.added) (entry-told c.in-Err.code
    c.entries.reader.line c.entry_fault.result _ c.entry_fault.ensures c.in-Err.ensures.err)

pub entries-preserved : goal.entries-preserved
entries-preserved g c =
    let next = rw c.in-Ok-Some.field-0-is at c.in-Ok-Some.ensures.ok in
    let less : length c.entries.rest.now ≤ length c.args.text.now = c.entries.invariant.short in
    record {
      added = more-added c.args.goes_on c.args.reader.now c.entries.reader
          c.args.text.now c.entries.rest.now (g.C.RecordCollection.records c.args.collection.now)
          (g.C.RecordCollection.records c.entries.collection) c.entries.invariant.added
          c.take_entry.new.self
          c.in-Ok-Some.taken.1.now _ (g.C.RecordCollection.records c.add_last.new.collection)
          next.taken
          c.in_ok-add_last.ensures;
      bound = omega (arith, next.lines, c.entries.invariant.bound);
      short = omega (arith, next.shorter, less);
      same = λ h. absurd (omega (arith, next.shorter, less, h));
    }

pub entries-smaller : goal.entries-smaller
entries-smaller g c =
    let next = rw c.in-Ok-Some.field-0-is at c.in-Ok-Some.ensures.ok in next.shorter
