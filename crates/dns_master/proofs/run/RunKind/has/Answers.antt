use Rattle.dns_master.proofs.RunTable.{in-words, in-strings}
use Rattle.dns_master.proofs.run.RunKind.has.Goals.{in-Word, in-String}
use Rattle.dns_master.proofs.run.RunKind.has.Goals as goal

pub returns : goal.returns
returns c = elim c.match-self.branch [
  | in-Word w ↦ rw w.least-is (rw w.in-Word.is (in-words c.args.octet c.ranges.octet.fits))
  | in-String w ↦ rw w.least-is (rw w.in-String.is (in-strings c.args.octet c.ranges.octet.fits))
]
