use Rattle.dns_master.proofs.Common.{rules, prefix_len-le-length}
use Rattle.dns_master.proofs.RunLemmas.{front-all, word-to_end, word-stops}
use Rattle.dns_master.proofs.run.RunKind.length.Goals as goal

pub length_from-requires-clause-plain : goal.length_from-requires-clause-plain
length_from-requires-clause-plain c = search (rules, front-all)

pub returns-else-front-text-clause-value : goal.returns-else-front-text-clause-value
returns-else-front-text-clause-value c = search (rules, word-to_end, word-stops)

pub returns-else-front-text-clause-bound : goal.returns-else-front-text-clause-bound
returns-else-front-text-clause-bound c = search (rules, prefix_len-le-length)
