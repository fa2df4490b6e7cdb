use Rattle.dns_name.proofs.Common.{arith}
use Rattle.dns_name.proofs.TextLemmas.{label_read_alone, PushesLabel-label}
use Rattle.dns_spec.proofs.General.Results.{fault_handed_on}
use Rattle.dns_name.proofs.text.push_label.Goals as goal

pub returns-in_err-push_octets-clause-err : goal.returns-in_err-push_octets-clause-err
returns-in_err-push_octets-clause-err c =
    fault_handed_on _ _ _ c.from_residual.ensures.1
    (label_read_alone _ _ _ _ _ c.in-Some.ensures.some c.in-Some.ensures.end
    c.as_slice.ensures.value c.in_err-push_octets.ensures.err)

pub returns-clause-ok : goal.returns-clause-ok
returns-clause-ok c = grind (arith, PushesLabel-label)
