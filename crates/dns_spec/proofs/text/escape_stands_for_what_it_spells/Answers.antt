use Rattle.dns_spec.proofs.NameTexts.Escapes.{escape_spells}
use Rattle.dns_spec.proofs.text.escape_stands_for_what_it_spells.Goals as goal

pub returns : goal.returns
returns c = escape_spells
