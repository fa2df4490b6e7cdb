use Rattle.dns_spec.proofs.Replies.ItemSets.{items_are_sets}
use Rattle.dns_spec.proofs.reply.items_are_record_sets.Goals as goal

pub returns : goal.returns
returns c = items_are_sets
