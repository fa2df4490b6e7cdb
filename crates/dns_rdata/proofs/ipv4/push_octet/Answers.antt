use Rattle.dns_rdata.proofs.Common.{arith, length-append}
use Rattle.dns_rdata.proofs.NumberLemmas.{three_digits}
use Rattle.dns_rdata.proofs.ipv4.push_octet.Goals as goal

pub unreachable-requires : goal.unreachable-requires
unreachable-requires c =
    let few = three_digits _ _ c.args.octet _ c.as_bytes-digits.ensures.value
    c.format.ensures.text c.from.ensures c.ranges.octet.fits in grind (arith, few)

pub returns-clause-short : goal.returns-clause-short
returns-clause-short c =
    let few = three_digits _ _ c.args.octet _ c.as_bytes-digits.ensures.value c.format.ensures.text
    c.from.ensures c.ranges.octet.fits in grind (arith, few, length-append)
