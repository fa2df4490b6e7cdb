use Rattle.dns_tools.proofs.Common.{rules}
use Rattle.dns_tools.proofs.PrintedLines.{kept_source}
use Rattle.dns_tools.proofs.Listing.{octets_listed, none_faulty}
use Rattle.dns_tools.proofs.faults.list_faults.Goals as goal

pub returns-in-Ok-clause-report : goal.returns-in-Ok-clause-report
returns-in-Ok-clause-report g c =
    octets_listed _ _ c.args.origin.now c.in_ok-text.text.items _ _ _ c.in_ok-text.ensures.ok
    (c.list_zone.ensures.report c.in_ok-text.text.items
    (none_faulty c.args.origin.now c.in_ok-text.text.items (search rules) c.fold.ensures
    c.in-Ok.ensures.ok))

pub returns-in-Ok-clause-source : goal.returns-in-Ok-clause-source
returns-in-Ok-clause-source g c =
    kept_source _ _ c.list_zone.result c.in_ok-text.ensures.counted c.list_zone.ensures.stop

pub returns-clause-source : goal.returns-clause-source
returns-clause-source g c =
    kept_source _ _ c.list_file.result c.in_ok-text.ensures.counted c.list_file.ensures.stop
