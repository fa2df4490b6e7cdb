use Rattle.dns_rdata.proofs.Common.{◌≤◌, length, arith, ◌∙◌, Octets, Valid, type_soa}
use Rattle.dns_rdata.proofs.BigNumbers.{four_long, number_in_last}
use Rattle.dns_rdata.proofs.SoaData.{soa-long}
use Rattle.dns_rdata.proofs.rdata.Rdata.soa_minimum.Goals as goal

four_there : (octets : Octets) → Valid type_soa octets → 4 ≤ length octets
four_there octets valid = let long = soa-long octets valid in omega (arith, long)

pub overflow_sub-octets : goal.overflow_sub-octets
overflow_sub-octets c = four_there c.args.octets.now c.requires

pub read_u32-requires : goal.read_u32-requires
read_u32-requires c =
    four_long c.args.octets.now 4 (omega arith) (four_there c.args.octets.now c.requires)

pub returns : goal.returns
returns c = c.read_u32.ensures
    ∙ number_in_last c.args.octets.now 4 (omega arith) (four_there c.args.octets.now c.requires)
