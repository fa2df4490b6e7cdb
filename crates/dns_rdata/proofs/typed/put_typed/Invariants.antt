use Rattle.dns_rdata.proofs.Common.{◌≤◌, length, drop, word_fields, fields_in}
use Rattle.dns_rdata.proofs.FormFronts.{Taken}
use Rattle.dns_rdata.proofs.typed.put_typed.Given as goal

-- the words before index `index` have been taken
abbrev pub invariant-words : goal.invariant-words
invariant-words l = record {
  taken : Taken (word_fields (length l.words) (fields_in l.row.fields.now)) (drop l.index
      (word_fields (length l.words) (fields_in l.row.fields.now))) l.origin l.words
      (drop l.index l.words) l.octets.items;
  bound : length l.octets.items ≤ 65535;
}
