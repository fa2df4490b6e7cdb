use Rattle.dns_spec.proofs.Replies.ReplySpelled.{reply_spells}
use Rattle.dns_spec.proofs.reply.reply_is_spelled.Goals as goal

pub returns : goal.returns
returns c = reply_spells
