use Rattle.dns_name.proofs.Common.{◌≡◌, length, arith, sym, false, eqb-false, eqb-true, is_label_end}
use Rattle.dns_name.proofs.TextLemmas.{OctetThen-octet_at, OctetThen-shorter, ReadsLabel-push, ReadsLabel-full, no_label_read}
use Rattle.dns_name.proofs.text.label_text.Goals as goal

pub returns-in_err-octet-clause-none : goal.returns-in_err-octet-clause-none
returns-in_err-octet-clause-none c = λ _.
    let goes_on : is_label_end c.octets.rest.now ≡ false = sym c.octets-test.ensures in
    no_label_read _ _ _ c.octets.invariant goes_on c.in_err-octet.ensures

pub octets-smaller-then-not-is_full : goal.octets-smaller-then-not-is_full
octets-smaller-then-not-is_full c = grind (arith, OctetThen-shorter, OctetThen-octet_at)

pub octets-preserved-then-not-is_full : goal.octets-preserved-then-not-is_full
octets-preserved-then-not-is_full c = grind (arith, OctetThen-octet_at, eqb-false, ReadsLabel-push)

pub octets-smaller : goal.octets-smaller
octets-smaller c =
    let goes_on : is_label_end c.octets.rest.now ≡ false = sym c.octets-test.ensures in
    OctetThen-shorter _ _ _ (OctetThen-octet_at _ _ _ goes_on c.in_ok-octet.ensures)

pub octets-preserved : goal.octets-preserved
octets-preserved c =
    let goes_on : is_label_end c.octets.rest.now ≡ false = sym c.octets-test.ensures in
    let next = OctetThen-octet_at _ _ _ goes_on c.in_ok-octet.ensures in
    let full : length c.octets.octets.items ≡ 64 =
    eqb-true _ _ (sym c.if-not-is_full.ensures.value) in
    ReadsLabel-full _ _ _ _ _ c.octets.invariant next (omega arith)
