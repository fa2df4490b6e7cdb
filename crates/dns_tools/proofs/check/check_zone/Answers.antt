use Rattle.dns_tools.proofs.Common.{rules, options_of}
use Rattle.dns_tools.proofs.CheckedZone.{zone_checked, refusal_checked, loaded_as}
use Rattle.dns_tools.proofs.check.check_zone.Goals as goal

pub returns-in-Ok-clause-report : goal.returns-in-Ok-clause-report
returns-in-Ok-clause-report g c =
    zone_checked _ _ c.args.origin.now (options_of c.args.flags)
    _ _ _ _ c.in-Ok.ensures.meaning c.report_zone-outcome.ensures.written

pub returns-in-Err-Refused-clause-report : goal.returns-in-Err-Refused-clause-report
returns-in-Err-Refused-clause-report g c = search (rules, loaded_as, refusal_checked)
