use Rattle.dns_answer.proofs.Common.{rules, inr, ◌≡◌, List, take, take_all, ◌<◌, length, ◌&&◌, sym, ap, ap₂, ◌∙◌, subst, arith, ZoneContents, target, filter_map, list_all, Octets, Took, target_at, target_nodes, target_misses, side_takes}
use Rattle.dns_answer.proofs.Taking.{Took-none, Took-then, Took-within}
use Rattle.dns_answer.proofs.Offering.{Offers-is, Offers-empty, Offers-then}
use Rattle.dns_answer.proofs.TargetLaws.{side_items-none, side_items-more, Took-more, Took-rest, Offers-rest, all-more}
use Rattle.dns_answer.proofs.addresses.offer_addresses.Goals as goal

pub targets-init : goal.targets-init
targets-init g c = search (rules, Offers-empty, side_items-none, Took-none)

pub targets-preserved : goal.targets-preserved
targets-preserved g c =
    let inv = c.targets.invariant in
    let z = c.args.steps.now.zone in
    let p = side_takes c.args.side in
    let set = c.args.set.now in
    let i = c.targets.i in
    let inside : i < length set.rdata =
    omega (arith, c.targets-test.true, c.len-i-end.ensures.value) in
    let o = target_at i set in
    let one = c.offer_target-all.ensures in
    let offered = rw inv.took.zone at one.offers in
    let taken = subst (λ (y : ZoneContents). Took c.targets.steps c.offer_target-all.new.steps
    (target_nodes y p o) (target_misses p o)) inv.took.zone one.took in
    record {
      offers = Offers-is _ _ _ _ (side_items-more z p set i inside)
          (Offers-then _ _ _ _ _ inv.offers offered);
      took = Took-more z p set i inside inv.took taken;
      bound = Took-within (omega arith) (omega arith) (Took-then inv.bound one.bound);
      all = ap₂ (λ a b. a && b) inv.all one.meant ∙ sym (all-more p set i inside);
    }

pub returns-clause-took : goal.returns-clause-took
returns-clause-took g c = search (rules, Took-rest)

pub returns-clause-all : goal.returns-clause-all
returns-clause-all g c =
    let set = c.args.set.now in
    let whole : take c.targets.i set.rdata ≡ set.rdata =
    take_all c.targets.i set.rdata
    (omega (arith, c.targets-test.false, c.len-i-end.ensures.value)) in
    inr (c.targets.invariant.all ∙ ap (λ (ds : List Octets). list_all (side_takes c.args.side)
    (filter_map (λ (d : Octets). target set.rtype d) ds)) whole)

pub returns-then-is_full-clause-offers : goal.returns-then-is_full-clause-offers
returns-then-is_full-clause-offers g c =
    Offers-rest c.args.steps.now.zone (side_takes c.args.side) c.args.set.now c.targets.i
    c.args.builder.now c.targets.builder
    (sym c.if-is_full.ensures) c.targets.invariant.offers

pub returns-then-is_full-clause-took : goal.returns-then-is_full-clause-took
returns-then-is_full-clause-took g c = search (rules, Took-rest)
