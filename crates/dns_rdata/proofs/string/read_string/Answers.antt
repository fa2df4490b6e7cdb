use Rattle.dns_rdata.proofs.Common.{arith, length-append, eqb-true, eqb-false}
use Rattle.dns_rdata.proofs.StringLemmas.{StringSoFar-push, StringSoFar-iff, no_string, string_is_long, octet_at-shorter}
use Rattle.dns_spec.proofs.Common.{nil_from_length}
use Rattle.dns_rdata.proofs.string.read_string.Goals as goal

pub returns-in_err-octet-clause-none : goal.returns-in_err-octet-clause-none
returns-in_err-octet-clause-none c = grind (arith, no_string, eqb-false)

pub returns-then-is_full-clause-none : goal.returns-then-is_full-clause-none
returns-then-is_full-clause-none c = grind (arith, string_is_long, eqb-false, eqb-true)

pub octets-smaller : goal.octets-smaller
octets-smaller c = octet_at-shorter _ _ _ c.in_ok-octet.ensures

pub octets-preserved : goal.octets-preserved
octets-preserved c = grind (arith, StringSoFar-push, eqb-false, length-append)

pub returns-clause-some : goal.returns-clause-some
returns-clause-some c = grind (arith, StringSoFar-iff, nil_from_length, eqb-true)
