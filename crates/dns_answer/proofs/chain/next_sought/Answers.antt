use Rattle.dns_answer.proofs.Common.{rules}
use Rattle.dns_answer.proofs.SeekSteps.{names-count}
use Rattle.dns_answer.proofs.chain.next_sought.Goals as goal

pub returns : goal.returns
returns c = search (rules, names-count)
