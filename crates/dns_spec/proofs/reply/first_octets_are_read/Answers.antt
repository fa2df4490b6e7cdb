use Rattle.dns_spec.proofs.Replies.FirstOctets.{first_octets_read}
use Rattle.dns_spec.proofs.reply.first_octets_are_read.Goals as goal

pub returns : goal.returns
returns c = first_octets_read
