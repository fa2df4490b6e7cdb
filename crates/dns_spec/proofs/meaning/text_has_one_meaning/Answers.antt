use Rattle.dns_spec.proofs.ZoneTexts.OneMeaning.{meaning_once}
use Rattle.dns_spec.proofs.meaning.text_has_one_meaning.Goals as goal

pub returns : goal.returns
returns c = meaning_once
