use Rattle.dns_rdata.proofs.Common.{◌≡◌, length, is_some, cut, fields_in}
use Rattle.dns_rdata.proofs.parts.are_cut.Given as goal

abbrev pub invariant-fields : goal.invariant-fields
invariant-fields l =
    is_some (cut (fields_in l.fn.fields) l.octets) ≡ is_some (cut (fields_in l.fields) l.rest)

abbrev pub decreases-fields : goal.decreases-fields
decreases-fields l = length l.fields
