use Rattle.dns_spec.proofs.ZoneChecks.FaultLaws.{origin_or_owner}
use Rattle.dns_spec.proofs.checks.what_fails_is_the_origin_or_an_owner.Goals as goal

pub returns : goal.returns
returns c = origin_or_owner
