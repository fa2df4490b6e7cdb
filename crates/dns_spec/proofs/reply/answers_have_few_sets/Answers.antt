use Rattle.dns_spec.proofs.Replies.FewItems.{few_items}
use Rattle.dns_spec.proofs.reply.answers_have_few_sets.Goals as goal

pub returns : goal.returns
returns c = few_items
