use Rattle.dns_spec.proofs.Layouts.LayoutSize.{length-layout}
use Rattle.dns_spec.proofs.layout.layout_has_its_size.Goals as goal

pub returns : goal.returns
returns c = length-layout
