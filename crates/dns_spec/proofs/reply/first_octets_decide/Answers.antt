use Rattle.dns_spec.proofs.Replies.FirstOctets.{first_octets_decide}
use Rattle.dns_spec.proofs.reply.first_octets_decide.Goals as goal

pub returns : goal.returns
returns c = first_octets_decide
