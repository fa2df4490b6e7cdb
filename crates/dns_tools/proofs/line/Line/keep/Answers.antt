use Rattle.dns_tools.proofs.Common.{rules}
use Rattle.dns_tools.proofs.KeptLines.{kept_room, kept_full}
use Rattle.dns_tools.proofs.line.Line.keep.Goals as goal

pub returns-then-len-lt-MOST_KEPT : goal.returns-then-len-lt-MOST_KEPT
returns-then-len-lt-MOST_KEPT c = search (rules, kept_room)

pub returns-else-len-lt-MOST_KEPT : goal.returns-else-len-lt-MOST_KEPT
returns-else-len-lt-MOST_KEPT c = search (rules, kept_full)
