use Rattle.dns_spec.proofs.NameTexts.WrittenNames.{name_spelled}
use Rattle.dns_spec.proofs.text.written_name_is_read_back.Goals as goal

pub returns : goal.returns
returns c = name_spelled
