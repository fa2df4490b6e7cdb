use Rattle.dns_spec.proofs.Common.{size}
use Rattle.dns_spec.proofs.Layouts.GrowingSize.{kept_is_fitting, size_grows}
use Rattle.dns_spec.proofs.reply.kept_sets_stop_at_the_first_that_does_not_fit.Goals as goal

pub returns : goal.returns
returns c = λ q. kept_is_fitting (size q) (size_grows q)
