use Rattle.dns_spec.proofs.Layouts.SameLayout.{same_layout, same_size}
use Rattle.dns_spec.proofs.layout.layout_is_without_bound_within_reach.Goals as goal

pub returns : goal.returns
returns c = λ h q items e. (same_layout h q items e, same_size q items e)
