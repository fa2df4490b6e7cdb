use Rattle.dns_rdata.proofs.Common.{rules, sym, ◌≤◌, subst, length, Valid, lowered_data}
use Rattle.dns_rdata.proofs.PartLemmas.{length-lower_case}
use Rattle.dns_rdata.proofs.PartsLoop.{walked, one_lowered, all_lowered}
use Rattle.dns_rdata.proofs.rdata.Rdata.lowered.Goals as goal

pub append_lowered-requires : goal.append_lowered-requires
append_lowered-requires c = (walked _ _ _ c.parts.invariant.names c.in-Some.ensures.steps).borrowed

pub parts-preserved : goal.parts-preserved
parts-preserved c =
    let w = walked _ _ _ c.parts.invariant.names c.in-Some.ensures.steps in
    record {
      names = w.names;
      whole = one_lowered
          _ _ c.in-Some.part _ _ _ w.are c.parts.invariant.whole c.in_ok-append_lowered.ensures;
    }

pub invariant_of-result : goal.invariant_of-result
invariant_of-result c =
    subst (λ d. length d ≤ 65535)
    (sym (all_lowered _ _ _ c.in_default.ensures.steps.0 c.parts.invariant.whole))
    (length-lower_case c.args.rtype.0 c.args.octets.now (search rules))

pub returns-clause-valid : goal.returns-clause-valid
returns-clause-valid c =
    subst (Valid c.args.rtype.0)
    (sym (all_lowered _ _ _ c.in_default.ensures.steps.0 c.parts.invariant.whole))
    (lowered_data c.args.rtype.0 c.args.octets.now (search rules)).0

pub returns-clause-value : goal.returns-clause-value
returns-clause-value c =
    (search rules, all_lowered _ _ _ c.in_default.ensures.steps.0 c.parts.invariant.whole)
