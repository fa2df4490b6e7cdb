use Rattle.dns_rdata.proofs.Common.{sym, ap, ◌∙◌, length, eqb-true, eqb-false}
use Rattle.dns_rdata.proofs.HexLemmas.{HexSoFar-push, HexSoFar-refuses, HexSoFar-end, front_shorter}
use Rattle.dns_spec.proofs.Common.{nil_from_length}
use Rattle.dns_rdata.proofs.hex.append_hex.Goals as goal

pub returns-in_default : goal.returns-in_default
returns-in_default c =
    HexSoFar-refuses _ _ _ _ c.octets.octets.items c.octets.invariant
    (λ e. eqb-false _ _ (sym c.is_empty.ensures ∙ c.octets-test.true) (ap length e))
    c.in_default.ensures

pub octets-smaller : goal.octets-smaller
octets-smaller c = front_shorter _ _ _ c.in-Some.ensures

pub octets-preserved : goal.octets-preserved
octets-preserved c =
    rw c.in_ok-push.ensures.items (HexSoFar-push _ _ _ _ _ _ c.octets.invariant c.in-Some.ensures)

pub returns : goal.returns
returns c =
    HexSoFar-end _ _ _ _ c.octets.invariant
    (nil_from_length _ (eqb-true _ _ (sym c.is_empty.ensures ∙ c.octets-test.false)))
