use Rattle.dns_zone.proofs.Common.{rules, ◌==◌, sym, ap, ◌∙◌, subst, filter, ResourceRecord, AreOfType}
use Rattle.dns_zone.proofs.NodeSets.{of_type_is, are_of_type, sets_kept}
use Rattle.dns_zone.proofs.tree.node.Node.set.Goals as goal

pub set_ref-requires : goal.set_ref-requires
set_ref-requires c =
    let z = c.args.self.now.zone in
    let n = c.args.self.now.name in
    let t = c.args.rtype.0 in
    let of_t = filter (λ (r : ResourceRecord). r.rtype == t) in
    subst AreOfType
    (sym (c.of_type.ensures ∙ ap of_t c.own.ensures.own
    ∙ of_type_is z c.own.ensures.node.built n t)) (are_of_type z c.own.ensures.node.built n t)

pub returns-clause-set : goal.returns-clause-set
returns-clause-set c = search (rules, of_type_is)

pub returns-clause-rtype : goal.returns-clause-rtype
returns-clause-rtype c =
    let n = c.args.self.now in
    (sets_kept n.zone c.own.ensures.node.built n.name c.args.rtype.0 c.own.ensures.node.lower
    c.set_ref.result (returns-clause-set c)).0

pub returns-clause-kept : goal.returns-clause-kept
returns-clause-kept c =
    let n = c.args.self.now in
    (sets_kept n.zone c.own.ensures.node.built n.name c.args.rtype.0 c.own.ensures.node.lower
    c.set_ref.result (returns-clause-set c)).1
