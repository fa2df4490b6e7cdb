use Rattle.dns_spec.proofs.ZoneTexts.BeginningsMean.{beginning_decides}
use Rattle.dns_spec.proofs.meaning.beginning_decides.Goals as goal

pub returns : goal.returns
returns c = beginning_decides
