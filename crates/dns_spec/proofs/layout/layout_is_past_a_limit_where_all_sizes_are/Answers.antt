use Rattle.dns_spec.proofs.Layouts.LeastSize.{past_limit}
use Rattle.dns_spec.proofs.layout.layout_is_past_a_limit_where_all_sizes_are.Goals as goal

pub returns : goal.returns
returns c = past_limit
