use Rattle.dns_spec.proofs.Layouts.GrowingSize.{size_grows}
use Rattle.dns_spec.proofs.reply.size_grows_with_each_set.Goals as goal

pub returns : goal.returns
returns c = size_grows
