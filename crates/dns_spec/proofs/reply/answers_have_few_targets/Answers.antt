use Rattle.dns_spec.proofs.Replies.FewItems.{few_targets}
use Rattle.dns_spec.proofs.reply.answers_have_few_targets.Goals as goal

pub returns : goal.returns
returns c = few_targets
