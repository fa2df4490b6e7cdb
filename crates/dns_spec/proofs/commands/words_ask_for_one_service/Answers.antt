use Rattle.dns_spec.proofs.CommandLines.{one_service}
use Rattle.dns_spec.proofs.commands.words_ask_for_one_service.Goals as goal

pub returns : goal.returns
returns c = one_service
