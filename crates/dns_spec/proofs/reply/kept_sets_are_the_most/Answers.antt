use Rattle.dns_spec.proofs.Replies.Kept.{kept_longest}
use Rattle.dns_spec.proofs.reply.kept_sets_are_the_most.Goals as goal

pub returns : goal.returns
returns c = kept_longest
