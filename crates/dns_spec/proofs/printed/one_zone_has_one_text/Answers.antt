use Rattle.dns_spec.proofs.Records.SameRecords.{read_once}
use Rattle.dns_spec.proofs.printed.one_zone_has_one_text.Goals as goal

pub returns : goal.returns
returns c = read_once
