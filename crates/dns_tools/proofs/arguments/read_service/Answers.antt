use Rattle.dns_tools.proofs.Common.{rules, sym, ◌∙◌}
use Rattle.dns_tools.proofs.LastArguments.{three_texts, service_parts}
use Rattle.dns_tools.proofs.arguments.read_service.Goals as goal

pub returns-in_err-read_transport-clause-none : goal.returns-in_err-read_transport-clause-none
returns-in_err-read_transport-clause-none g c e t address n asked =
    let texts = three_texts g.S.AsStr.text c.args.front.now _ _ _ c.in-len3.len_at_least
    c.in-len3.len_below c.transport-item.is c.address-item.is c.turns-item.is in
    let parts = service_parts _ _ _ t address n (sym texts ∙ asked.words) in
    c.read_transport.ensures.none (search rules) t (c.as_str-2.ensures ∙ parts.0)
