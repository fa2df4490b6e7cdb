use Rattle.dns_tools.proofs.Common.{false, Ok, inl, refl, PrintsOctets}
use Rattle.dns_tools.proofs.CheckedZone.{report_begun}
use Rattle.dns_tools.proofs.PrintedLines.{fault_reported, IsFaultReport}
use Rattle.dns_tools.proofs.message.print_octets.Goals as goal

pub returns-in_err-write_message-in-Ok-clause-printed :
    goal.returns-in_err-write_message-in-Ok-clause-printed
returns-in_err-write_message-in-Ok-clause-printed g c =
    report_begun
    (PrintsOctets c.args.octets.now) _ c.from_residual.result _ _ c.from_residual.ensures.1
    (inl (c.in-Ok.message, c.in-Ok.ensures.ok, refl)) c.in_err-write_message-in-Ok.ensures.err

pub returns-in_ok-write_message-in-Ok-clause-printed :
    goal.returns-in_ok-write_message-in-Ok-clause-printed
returns-in_ok-write_message-in-Ok-clause-printed g c = (
  _,
  inl (c.in-Ok.message, c.in-Ok.ensures.ok, refl),
  (refl, c.in_ok-write_message-in-Ok.ensures.ok),
)

pub returns-in_err-write_fault-in_default-clause-printed :
    goal.returns-in_err-write_fault-in_default-clause-printed
returns-in_err-write_fault-in_default-clause-printed g c =
    let fault = c.in-Err.fault in
    let stopped = c.from_residual-in_err-write_fault-in_default in
    fault_reported c.args.octets.now fault stopped.result _ _ c.in-Err.ensures.err
    c.in-Err.ensures.fault
    (report_begun (IsFaultReport fault) _ stopped.result _ _ stopped.ensures.1
    (c.in_default.not-NoMemory, refl) c.in_err-write_fault-in_default.ensures.err)

pub returns-in_ok-write_fault-in_default-clause-printed :
    goal.returns-in_ok-write_fault-in_default-clause-printed
returns-in_ok-write_fault-in_default-clause-printed g c =
    fault_reported c.args.octets.now c.in-Err.fault (Ok false) _ _ c.in-Err.ensures.err
    c.in-Err.ensures.fault
    (_, (c.in_default.not-NoMemory, refl), (refl, c.in_ok-write_fault-in_default.ensures.ok))
