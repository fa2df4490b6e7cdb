use Rattle.dns_rdata.proofs.Common.{arith}
use Rattle.dns_rdata.proofs.Ipv6Lemmas.{eight_octets}
use Rattle.dns_rdata.proofs.ipv6.octets_of_groups.Goals as goal

pub returns : goal.returns
returns c =
    eight_octets c.args.groups.now _ _ _ _ _ _ _ _
    (omega (arith, c.in-len8.len_at_least, c.in-len8.len_below))
    c.to_be_bytes.ensures c.to_be_bytes-2.ensures
    c.to_be_bytes-3.ensures c.to_be_bytes-4.ensures c.to_be_bytes-5.ensures
    c.to_be_bytes-6.ensures c.to_be_bytes-7.ensures c.to_be_bytes-8.ensures
