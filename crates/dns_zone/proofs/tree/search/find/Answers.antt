use Rattle.dns_zone.proofs.Common.{rules, ◌≡◌, ◌≤◌, ℕ, length, map, sym, ◌∙◌, subst, arith, to_ascii_lowercase, child_rows}
use Rattle.dns_zone.proofs.NameTree.{label-tie}
use Rattle.dns_zone.proofs.NodeRows.{are_children}
use Rattle.dns_zone.proofs.FoundChild.{Searching, start, half, compared, go_left, go_right, none_left}
use Rattle.dns_zone.proofs.tree.search.find.Goals as goal

pub halves-init : goal.halves-init
halves-init c =
    let few : length (child_rows c.args.children.now) ≤ 100000 =
    let children = (are_children _ _ c.requires.at).few in
    let records = c.requires.at.kept.built.few in omega arith in
    search (rules, start)

pub halves-preserved-in-Less : goal.halves-preserved-in-Less
halves-preserved-in-Less c =
    let s = c.halves.invariant.searching in
    let half = half _ _ _ _ _ _ s in
    compared _ _ _ c.halves.invariant c.halves-test.true c.order.ensures.counted
    (go_right _ _ _ (are_children _ _ c.requires.at).rising _ _ _ s _
    (sym c.order.ensures.order ∙ c.in-Less.is) (omega arith) (omega arith))

pub halves-preserved : goal.halves-preserved
halves-preserved c =
    let s = c.halves.invariant.searching in
    let less = c.halves-test.true in
    let half = half _ _ _ _ _ _ s in
    compared _ _ _ c.halves.invariant less c.order.ensures.counted
    (go_left _ _ _ (are_children _ _ c.requires.at).rising _ _ _ s _
    (sym c.order.ensures.order ∙ c.in-Greater.is) (omega arith) (omega arith) (omega arith))

pub returns-in-Equal-clause-found : goal.returns-in-Equal-clause-found
returns-in-Equal-clause-found c = search (rules, label-tie)

pub returns-clause-none : goal.returns-clause-none
returns-clause-none c h =
    let rs = c.args.children.now.tree.zone.records in
    let children = child_rows c.args.children.now in
    let label = map to_ascii_lowercase c.args.label.now in
    let count = c.halves.invariant.count in
    let s = c.halves.invariant.searching in
    let order = s.order in
    let past = c.halves-test.false in
    let level : c.halves.high ≡ c.halves.low = omega arith in
    none_left rs children label (are_children _ _ c.requires.at).rising c.halves.low count
    (subst (λ (high : ℕ). Searching rs children label c.halves.low high count) level s)
