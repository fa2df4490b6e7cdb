use Rattle.dns_spec.proofs.Replies.FirstOctets.{first_octets_answer}
use Rattle.dns_spec.proofs.reply.first_octets_give_the_octets.Goals as goal

pub returns : goal.returns
returns c = first_octets_answer
