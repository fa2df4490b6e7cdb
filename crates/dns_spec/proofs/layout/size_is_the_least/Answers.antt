use Rattle.dns_spec.proofs.Layouts.LeastSize.{size_least}
use Rattle.dns_spec.proofs.layout.size_is_the_least.Goals as goal

pub returns : goal.returns
returns c = size_least
