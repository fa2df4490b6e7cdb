use Rattle.dns_rdata.proofs.Common.{drop}
use Rattle.dns_rdata.proofs.UnknownLemmas.{WordsSoFar}
use Rattle.dns_rdata.proofs.unknown.put_unknown.Given as goal

abbrev pub invariant-words : goal.invariant-words
invariant-words l = WordsSoFar l.others (drop l.word-index l.others) l.octets.items
