use Rattle.dns_wire.proofs.Common.{◌≤◌, ◌-◌, length, message_record_at}
use Rattle.dns_wire.proofs.ReadLemmas.{AreRead, KeepsFault}
use Rattle.dns_spec.specs.MessageFaults.{RecordFault}
use Rattle.dns_wire.proofs.reader.read_records.Given as goal

abbrev pub invariant-records : goal.invariant-records
invariant-records l = record {
  read : AreRead (message_record_at l.message) l.fn.count l.at l.records.items
      (l.fn.count - l.counter) l.offset;
  faults : KeepsFault (message_record_at l.message) (RecordFault l.message) l.fn.count l.at
      (l.fn.count - l.counter) l.offset;
  within : l.offset ≤ length l.message;
}
