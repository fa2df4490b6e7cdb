use Rattle.dns_spec.proofs.ZoneTexts.OneListing.{one_listing}
use Rattle.dns_spec.proofs.meaning.text_has_one_list_of_faults.Goals as goal

pub returns : goal.returns
returns c = one_listing
