use Rattle.dns_wire.proofs.Common.{length, fields_in, data_fields}
use Rattle.dns_wire.proofs.FieldLemmas.{AreFieldsRead}
use Rattle.dns_wire.proofs.data.read_data.Given as goal

abbrev pub invariant-fields : goal.invariant-fields
invariant-fields l =
    AreFieldsRead l.message (data_fields l.fn.rtype.0 l.fn.rclass) l.at l.end
    (fields_in l.fields) l.offset l.data.items

abbrev pub decreases-fields : goal.decreases-fields
decreases-fields l = length l.fields
