use Rattle.dns_rdata.proofs.PartLemmas.{names_left, few_parts}
use Rattle.dns_rdata.proofs.rdata.Rdata.parts.Goals as goal

pub returns-clause-names : goal.returns-clause-names
returns-clause-names c = names_left c.fields_of_type.result.now c.args.octets.now

pub returns-clause-count : goal.returns-clause-count
returns-clause-count c =
    few_parts c.args.rtype.0 c.fields_of_type.result.now c.args.octets.now c.fields_of_type.ensures
