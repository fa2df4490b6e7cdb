use Rattle.dns_rdata.proofs.Common.{◌≡◌, ◌≤◌, ◌++◌, true, drop, length, list_all, field_words, data_text, AppendsAllBut, fields_in, AreCut, spaced}
use Rattle.dns_spec.proofs.DataWords.SaidAgain.{is_counted}
use Rattle.dns_rdata.proofs.rdata.Rdata.put_text.Given as goal

-- every field in front of `rest` has been written, to `text` or to the sink
abbrev pub invariant-fields : goal.invariant-fields
invariant-fields g l = record {
  cut : AreCut (drop l.field-index l.field-items) l.rest;
  counted_fields : list_all is_counted (fields_in (drop l.field-index l.field-items)) ≡ true;
  short : length l.before ≤ 1;
  fills : AppendsAllBut (g.W.Write.contents l.fn.sink.device)
      (g.W.Write.contents l.sink.device) (l.fn.text ++ data_text l.fn.rtype.0 l.octets) (l.text
      ++ spaced l.before (field_words (fields_in (drop l.field-index l.field-items)) l.rest));
  counted : l.sink.failures ≡ l.fn.sink.failures;
}
