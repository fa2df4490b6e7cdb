use Rattle.dns_rdata.proofs.Ipv6TextLemmas.{push_one, push_two}
use Rattle.dns_rdata.proofs.ipv6_text.push_octet.Goals as goal

pub returns-then-octet-lt16-clause-text : goal.returns-then-octet-lt16-clause-text
returns-then-octet-lt16-clause-text c =
    push_one _ _ _ c.args.octet c.push.ensures.items c.hex_digit.ensures c.if-octet-lt16.true

pub returns-clause-text : goal.returns-clause-text
returns-clause-text c =
    push_two _ _ _ _ _ c.args.octet c.push-2.ensures.items c.push-3.ensures.items
    c.hex_digit-2.ensures c.hex_digit-3.ensures c.if-octet-lt16.false c.ranges.octet.fits
