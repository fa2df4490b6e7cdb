use Rattle.dns_spec.proofs.Replies.FewItems.{few_nodes}
use Rattle.dns_spec.proofs.reply.answers_visit_few_nodes.Goals as goal

pub returns : goal.returns
returns c = few_nodes
