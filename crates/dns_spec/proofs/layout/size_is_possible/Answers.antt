use Rattle.dns_spec.proofs.Layouts.LeastSize.{size_possible}
use Rattle.dns_spec.proofs.layout.size_is_possible.Goals as goal

pub returns : goal.returns
returns c = size_possible
