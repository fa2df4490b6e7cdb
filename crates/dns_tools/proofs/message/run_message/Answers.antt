use Rattle.dns_tools.proofs.Common.{false, Ok, Err, ap, refl, rules, PrintsMessage, hex_octets}
use Rattle.dns_tools.proofs.CheckedZone.{report_begun}
use Rattle.dns_tools.proofs.PrintedLines.{kept_source, handed_sink, handed_printed, line_printed, line_reported, bad_hex}
use Rattle.dns_tools.proofs.message.run_message.Goals as goal

pub returns-in-Err-clause-sink : goal.returns-in-Err-clause-sink
returns-in-Err-clause-sink g c = handed_sink _ c.in-Err.stop c.in-Err.ensures.stop

pub returns-in-Err-clause-printed : goal.returns-in-Err-clause-printed
returns-in-Err-clause-printed g c =
    handed_printed _ _ _ c.in-Err.stop c.in-Err.ensures.stop
    (λ e. c.in-Err.ensures.failed (ap Err e))

pub returns-in_err-write_all-clause-printed : goal.returns-in_err-write_all-clause-printed
returns-in_err-write_all-clause-printed g c =
    let stopped = c.from_residual-in_err-write_all in
    line_printed _ _ _ _ _ stopped.result c.in-Ok.ensures.read (search rules)
    (report_begun (PrintsMessage (hex_octets c.in-Ok.line)) _ stopped.result _ _
    stopped.ensures.1 (bad_hex _ c.in_default.ensures.none) c.in_err-write_all.ensures.err)

pub returns-in_default-clause-printed : goal.returns-in_default-clause-printed
returns-in_default-clause-printed g c =
    line_printed _ _ _ _ _ (Ok false) c.in-Ok.ensures.read tt
    (_, bad_hex _ c.in_default.ensures.none, (refl, c.in_ok-write_all.ensures.ok))

pub returns-clause-source : goal.returns-clause-source
returns-clause-source g c =
    kept_source _ _ c.print_octets.result c.in-Ok.ensures.counted c.print_octets.ensures.stop

pub returns-clause-printed : goal.returns-clause-printed
returns-clause-printed g c =
    line_printed _ _ _ _ _ c.print_octets.result c.in-Ok.ensures.read c.print_octets.ensures.stop
    (line_reported _ _ c.print_octets.result _ _ c.in-Some.ensures.some
    c.print_octets.ensures.printed)
