use Rattle.dns_spec.proofs.Layouts.SharedLayout.{layout_spells}
use Rattle.dns_spec.proofs.layout.layout_is_spelled.Goals as goal

pub returns : goal.returns
returns c = layout_spells
