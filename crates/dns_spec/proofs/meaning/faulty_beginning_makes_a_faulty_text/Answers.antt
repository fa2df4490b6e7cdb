use Rattle.dns_spec.proofs.ZoneTexts.BeginningsMean.{text_decided}
use Rattle.dns_spec.proofs.meaning.faulty_beginning_makes_a_faulty_text.Goals as goal

pub returns : goal.returns
returns c = text_decided
