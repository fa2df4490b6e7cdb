use Rattle.dns_rdata.proofs.Common.{◌≡◌, ◌++◌, [], length, hex_text, unknown_words, AppendsAllBut, spaced}
use Rattle.dns_rdata.proofs.write.put_unknown.Given as goal

abbrev pub invariant-chunks : goal.invariant-chunks
invariant-chunks g l = record {
  fills : AppendsAllBut (g.W.Write.contents l.fn.sink.device) (g.W.Write.contents l.sink.device)
      (l.fn.text ++ spaced [] (unknown_words l.octets)) (l.text ++ hex_text l.rest);
  counted : l.sink.failures ≡ l.fn.sink.failures;
}

abbrev pub decreases-chunks : goal.decreases-chunks
decreases-chunks g l = length l.rest
