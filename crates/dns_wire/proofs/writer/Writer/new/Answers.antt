use Rattle.dns_wire.proofs.Common.{rules}
use Rattle.dns_wire.proofs.PartialLemmas.{nothing_begins}
use Rattle.dns_wire.proofs.writer.Writer.new.Goals as goal
use Rattle.dns_wire.proofs.writer.Writer.new.Goals.{in-Some, in_default}

pub returns-clause-partial : goal.returns-clause-partial
returns-clause-partial g c =
    let head = g.H.SuffixHash.hashes c.args.hash.now in
    elim c.match-question.branch [
      | in-Some w ↦ search (rules, w.put_question.ensures.partial head)
      | in_default w ↦ search (rules, nothing_begins head c.args.limit)
    ]
