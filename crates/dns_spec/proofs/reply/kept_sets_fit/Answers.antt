use Rattle.dns_spec.proofs.Replies.Kept.{kept_fits}
use Rattle.dns_spec.proofs.reply.kept_sets_fit.Goals as goal

pub returns : goal.returns
returns c = kept_fits
