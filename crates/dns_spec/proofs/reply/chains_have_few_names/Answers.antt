use Rattle.dns_spec.proofs.Replies.ChainLength.{chain_short}
use Rattle.dns_spec.proofs.reply.chains_have_few_names.Goals as goal

pub returns : goal.returns
returns c = chain_short
