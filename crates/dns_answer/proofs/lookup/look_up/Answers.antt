use Rattle.dns_answer.proofs.LongPaths.{start_at_apex}
use Rattle.dns_answer.proofs.lookup.look_up.Goals as goal

pub walk-requires-clause-start : goal.walk-requires-clause-start
walk-requires-clause-start c = start_at_apex _ _ _ c.requires.apex
