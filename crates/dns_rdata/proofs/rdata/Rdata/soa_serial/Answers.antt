use Rattle.dns_rdata.proofs.Common.{arith, ◌∙◌}
use Rattle.dns_rdata.proofs.BigNumbers.{four_long, number_in_last}
use Rattle.dns_rdata.proofs.SoaData.{soa-long}
use Rattle.dns_rdata.proofs.rdata.Rdata.soa_serial.Goals as goal

pub overflow_sub-octets : goal.overflow_sub-octets
overflow_sub-octets c = soa-long c.args.octets.now c.requires

pub read_u32-requires : goal.read_u32-requires
read_u32-requires c =
    four_long c.args.octets.now 20 (omega arith) (soa-long c.args.octets.now c.requires)

pub returns : goal.returns
returns c = c.read_u32.ensures
    ∙ number_in_last c.args.octets.now 20 (omega arith) (soa-long c.args.octets.now c.requires)
