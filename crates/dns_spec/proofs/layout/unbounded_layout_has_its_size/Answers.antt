use Rattle.dns_spec.proofs.Layouts.UnboundedSize.{length-unbounded_layout}
use Rattle.dns_spec.proofs.layout.unbounded_layout_has_its_size.Goals as goal

pub returns : goal.returns
returns c = length-unbounded_layout
