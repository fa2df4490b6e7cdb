use Rattle.dns_rdata.proofs.Common.{◌≡◌, ◌≤◌, ◌++◌, [], IsTrue, length, replicate, are_strings, strings, field_words, string_count, AppendsAllBut, spaced}
use Rattle.dns_rdata.proofs.write.put_strings.Given as goal

-- every string in front of `rest` has been written, to `text` or to the sink
abbrev pub invariant-strings : goal.invariant-strings
invariant-strings g l = record {
  all : IsTrue (are_strings 0 l.rest);
  short : length l.before ≤ 1;
  fills : AppendsAllBut (g.W.Write.contents l.initial.sink.device)
      (g.W.Write.contents l.sink.device) (l.initial.text ++ spaced []
      (field_words (replicate (string_count 0 l.octets) strings) l.octets)) (l.text
      ++ spaced l.before (field_words (replicate (string_count 0 l.rest) strings) l.rest));
  counted : l.sink.failures ≡ l.initial.sink.failures;
}

abbrev pub decreases-strings : goal.decreases-strings
decreases-strings g l = length l.rest
