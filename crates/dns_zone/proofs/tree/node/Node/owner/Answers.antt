use Rattle.dns_zone.proofs.Common.{sym, ap, ◌∙◌, subst, refl, inl, folded, same, ResourceRecord, Among, filter_test}
use Rattle.dns_zone.proofs.NameOrder.{same-is}
use Rattle.dns_spec.proofs.General.Tests.{first_rest}
use Rattle.dns_zone.proofs.tree.node.Node.owner.Goals as goal

pub returns-clause-name : goal.returns-clause-name
returns-clause-name c =
    let z = c.args.self.now.zone in
    let n = c.args.self.now.name in
    let r = c.in_ok-first.first.now in
    let rest = first_rest r c.own.result.now c.in_ok-first.ensures.value in
    let here = subst (Among r) (sym rest.1 ∙ c.own.ensures.own) (inl refl) in
    let own = filter_test (λ (s : ResourceRecord). same s.owner n) r z.records here in
    sym c.owner.ensures.lower ∙ ap folded c.owner.ensures.value ∙ same-is r.owner n own
    ∙ c.own.ensures.node.lower
