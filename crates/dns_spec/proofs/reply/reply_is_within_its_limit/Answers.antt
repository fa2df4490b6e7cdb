use Rattle.dns_spec.proofs.Replies.ReplySpelled.{reply_fits}
use Rattle.dns_spec.proofs.reply.reply_is_within_its_limit.Goals as goal

pub returns : goal.returns
returns c = reply_fits
