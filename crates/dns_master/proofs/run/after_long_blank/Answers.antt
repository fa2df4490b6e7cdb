use Rattle.dns_master.proofs.Common.{rules}
use Rattle.dns_master.proofs.RunLemmas.{blank-first, spaces-passed}
use Rattle.dns_master.proofs.run.after_long_blank.Goals as goal

pub blanks-preserved : goal.blanks-preserved
blanks-preserved c = search (rules, spaces-passed, blank-first)
