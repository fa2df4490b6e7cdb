use Rattle.dns_rdata.proofs.Ipv6Lemmas.{GapSoFar-end}
use Rattle.dns_rdata.proofs.ipv6.split_at_gap.Goals as goal

pub returns : goal.returns
returns c = GapSoFar-end c.args.text.now c.indices.index c.indices.invariant c.indices-test.false
