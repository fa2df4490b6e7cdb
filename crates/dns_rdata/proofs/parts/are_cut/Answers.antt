use Rattle.dns_rdata.proofs.Common.{sym, ◌∙◌, arith}
use Rattle.dns_rdata.proofs.PartLemmas.{cut_none, more_are_cut, no_fields_left}
use Rattle.dns_rdata.proofs.parts.are_cut.Goals as goal

pub returns-in_default-first_part : goal.returns-in_default-first_part
returns-in_default-first_part c = grind (arith, cut_none)

pub fields-preserved : goal.fields-preserved
fields-preserved c = grind (arith, more_are_cut)

pub returns : goal.returns
returns c = c.is_empty.ensures ∙ sym (c.fields.invariant
    ∙ no_fields_left c.fields.fields.now c.fields.rest.now c.in_default.ensures.cases)
