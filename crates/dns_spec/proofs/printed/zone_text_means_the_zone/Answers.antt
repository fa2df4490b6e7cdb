use Rattle.dns_spec.proofs.PrintedZones.PrintedZone.{zone_means}
use Rattle.dns_spec.proofs.printed.zone_text_means_the_zone.Goals as goal

pub returns : goal.returns
returns c = zone_means
