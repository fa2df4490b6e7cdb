use Rattle.dns_rdata.proofs.Ipv6TextLemmas.{push_split}
use Rattle.dns_rdata.proofs.ipv6_text.push_group.Goals as goal

pub returns-clause-text : goal.returns-clause-text
returns-clause-text c =
    push_split _ _
    _ _ _ _ c.args.group c.push_octet-2.ensures.text c.push.ensures.items c.push-2.ensures.items
    c.hex_digit.ensures c.hex_digit-2.ensures c.if-high-eq0.false c.ranges.group.fits
