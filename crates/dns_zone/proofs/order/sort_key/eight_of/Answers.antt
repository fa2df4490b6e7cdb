use Rattle.dns_zone.proofs.Common.{arith, get_or-take}
use Rattle.dns_zone.proofs.LabelKeys.{of_bytes}
use Rattle.dns_zone.proofs.order.sort_key.eight_of.Goals as goal

pub returns-in-Some : goal.returns-in-Some
returns-in-Some c = record {
  value = of_bytes c.args.octets.now c.in-Some.eight.now c.from_be_bytes.result
      c.from_be_bytes.ensures (λ i l. grind (arith, get_or-take));
  low = λ i. grind arith;
}

pub returns-in-None : goal.returns-in-None
returns-in-None c = record {
  value = of_bytes c.args.octets.now c.padded.result c.from_be_bytes-in-None.result
      c.from_be_bytes-in-None.ensures c.padded.ensures;
  low = λ i. grind arith;
}
