use Rattle.dns_spec.proofs.CommandLines.{one_check}
use Rattle.dns_spec.proofs.commands.words_ask_for_one_check.Goals as goal

pub returns : goal.returns
returns c = one_check
