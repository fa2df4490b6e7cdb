use Rattle.dns_master.proofs.Common.{length}
use Rattle.dns_master.proofs.EntryLoop.{EntrySoFar}
use Rattle.dns_master.proofs.entry.read_entry.Given as goal

abbrev pub invariant-tokens : goal.invariant-tokens
invariant-tokens l = EntrySoFar l.text l.most l.is_open l.rest l.words.items l.lines

abbrev pub decreases-tokens : goal.decreases-tokens
decreases-tokens l = length l.rest
