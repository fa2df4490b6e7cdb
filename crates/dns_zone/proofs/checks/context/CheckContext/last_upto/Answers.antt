use Rattle.dns_zone.proofs.Common.{◌≡◌, ◌-◌, ◌<◌, suc, map, List, sym, ap, ◌∙◌, subst, arith, Octets, DomainName, at_or_below, name_order, ZoneContents, Rises, owner_of, IsLastUpto, IsCheckContext, CheckedName}
use Rattle.dns_zone.proofs.CheckedNames.{upto_parted, upto_some, found_there}
use Rattle.dns_zone.proofs.ReportedNames.{checked_rise}
use Rattle.dns_zone.proofs.checks.context.CheckContext.last_upto.Goals as goal
use Rattle.dns_zone.proofs.checks.context.CheckContext.last_upto.Goals.{After-count_upto-index}

rises : (z : ZoneContents) (own : Octets) (names : List CheckedName) → IsCheckContext z own names
    → Rises name_order (map (owner_of z) names)
rises z own names context = subst (Rises name_order) (sym context.names_are.all) (checked_rise z)

-- some checked name, the origin, is not after the target
some : (c : After-count_upto-index) → 0 < c.count_upto-index.result
some c =
    let are = c.self.invariant.names_are in
    upto_some _ c.self.inside.names.now are.each (rises _ _ _ c.self.invariant) c.args.target.now
    c.requires.lower c.key.result.now c.key.ensures c.count_upto-index.result
    c.count_upto-index.ensures are.all c.self.invariant.lower
    (ap (λ (z : ZoneContents). at_or_below c.args.target.now z.origin) c.self.view_is
    ∙ c.requires.inside)

pub count_upto-index-requires : goal.count_upto-index-requires
count_upto-index-requires c =
    upto_parted _ c.self.inside.names.now c.self.invariant.names_are.each
    (rises _ _ _ c.self.invariant) c.args.target.now c.requires.lower
    c.key.result.now c.key.ensures

pub overflow_sub-index : goal.overflow_sub-index
overflow_sub-index c =
    let s = some (goal.at.overflow_sub-index c).After-count_upto-index in
    omega (arith, s)

pub bounds-self-inside-index : goal.bounds-self-inside-index
bounds-self-inside-index c =
    let s = some (goal.at.bounds-self-inside-index c).After-count_upto-index in
    let bound = c.count_upto-index.ensures.bound in omega (arith, s, bound)

in_zone : (x y : ZoneContents) (n : DomainName) (d : CheckedName) → x ≡ y → IsLastUpto x n d
    → IsLastUpto y n d
in_zone x y n d e h = subst (λ z. IsLastUpto z n d) e h

pub returns-clause-last : goal.returns-clause-last
returns-clause-last c =
    let s = some (goal.at.returns-clause-last c).After-count_upto-index in
    let k = c.count_upto-index.result in
    let next : k ≡ suc (k - 1) = omega (arith, s) in
    in_zone _ _ _ _ c.self.view_is
    (found_there _ c.self.inside.names.now c.self.invariant.names_are.each
    (rises _ _ _ c.self.invariant) c.args.target.now c.requires.lower
    c.key.result.now c.key.ensures k c.count_upto-index.ensures
    c.self.invariant.names_are.all (k - 1) next _)
