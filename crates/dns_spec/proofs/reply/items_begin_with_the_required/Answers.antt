use Rattle.dns_spec.proofs.Replies.RequiredItems.{required_first}
use Rattle.dns_spec.proofs.reply.items_begin_with_the_required.Goals as goal

pub returns : goal.returns
returns c = required_first
