use Rattle.dns_spec.proofs.PrintedZones.PrintedAgain.{text_of_one}
use Rattle.dns_spec.proofs.printed.zones_with_one_text_hold_the_same_records.Goals as goal

pub returns : goal.returns
returns c = text_of_one
