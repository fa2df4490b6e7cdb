use Rattle.dns_answer.proofs.Common.{rules, ◌≡◌, List, [], sym, ap, ◌∙◌, Some, DomainName, length-is_name, State, Offers, target_at, target_items, targets_of_first, side_takes}
use Rattle.dns_answer.proofs.Taking.{Took-within}
use Rattle.dns_answer.proofs.Offering.{Offers-empty}
use Rattle.dns_answer.proofs.TargetLaws.{items-untaken, items-stood, depth-few}
use Rattle.dns_answer.proofs.addresses.offer_target.Goals as goal
use Rattle.dns_answer.proofs.addresses.offer_target.Goals.{In-Some}
use Rattle.dns_answer.proofs.addresses.offer_target.Given as given

pub returns-in_default-clause-offers : goal.returns-in_default-clause-offers
returns-in_default-clause-offers g c =
    let is = sym c.target.ensures.value ∙ c.in_default.is in
    let p = side_takes c.args.side in
    Offers-empty _
    (ap (target_items c.args.steps.now.zone p (targets_of_first c.args.i c.args.set.now)) is)

module _ (g : given.Over) (c : In-Some g) where
  abbrev earlier : List DomainName
  earlier = targets_of_first c.args.i c.args.set.now

  -- nothing is offered for a target that gives no items
  nothing : target_items c.args.steps.now.zone (side_takes c.args.side) earlier
      (Some c.in-Some.target) ≡ [] → {w : State} → Offers w w (target_items c.args.steps.now.zone
      (side_takes c.args.side) earlier (target_at c.args.i c.args.set.now))
  nothing none =
      Offers-empty _ (ap (target_items c.args.steps.now.zone (side_takes c.args.side) earlier)
      (sym c.target.ensures.value ∙ c.in-Some.is) ∙ none)

pub returns-then-not-takes-clause-offers : goal.returns-then-not-takes-clause-offers
returns-then-not-takes-clause-offers g c =
    let at = (goal.at.returns-then-not-takes-clause-offers g c).In-Some in
    nothing g at (items-untaken c.args.steps.now.zone (side_takes c.args.side) (earlier g at)
    c.in-Some.target (sym c.if-not-takes.ensures))

pub returns-then-not-stood_before-clause-bound : goal.returns-then-not-stood_before-clause-bound
returns-then-not-stood_before-clause-bound g c =
    let few = depth-few c.args.steps.now.zone c.in-Some.target
    (length-is_name c.in-Some.target c.in-Some.ensures.is_name) in
    search (rules, Took-within, few)

pub returns-else-not-stood_before-clause-offers : goal.returns-else-not-stood_before-clause-offers
returns-else-not-stood_before-clause-offers g c =
    let at = (goal.at.returns-else-not-stood_before-clause-offers g c).In-Some in
    nothing g at (items-stood c.args.steps.now.zone (side_takes c.args.side) (earlier g at)
    c.in-Some.target (sym c.if-not-stood_before.ensures))
