use Rattle.dns_spec.proofs.Replies.FirstOctets.{first_octets_reply}
use Rattle.dns_spec.proofs.reply.first_octets_give_the_message.Goals as goal

pub returns : goal.returns
returns c = first_octets_reply
