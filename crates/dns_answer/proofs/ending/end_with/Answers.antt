use Rattle.dns_answer.proofs.Common.{rules, true, false, [], sym, ap, subst, length, answer, filter, all_names, asked_item, side_items, side_nodes, Took}
use Rattle.dns_answer.proofs.LongPaths.{start_at_apex}
use Rattle.dns_answer.proofs.TargetLaws.{reached_from_apex}
use Rattle.dns_answer.proofs.Offering.{Offers-is}
use Rattle.dns_answer.proofs.Endings.{Ends-positive, Offers-none}
use Rattle.dns_answer.proofs.EndingSets.{targets_of_set}
use Rattle.dns_answer.proofs.ending.end_with.Goals as goal

pub offer_addresses-requires : goal.offer_addresses-requires
offer_addresses-requires g c =
    let start = start_at_apex _ false _ c.requires.apex in
    let reaches = reached_from_apex _ _ all_names c.requires.apex in
    search rules

pub returns-then-eq-clause-ends : goal.returns-then-eq-clause-ends
returns-then-eq-clause-ends g c = λ n begun offers.
    let z = c.args.steps.now.zone in
    let set = c.args.set.now in
    let ts = targets_of_set answer n set.ttl set true
    (search rules) in
    Ends-positive z (asked_item n set) offers
    (Offers-is _ _ _ _ (ap (side_items z all_names []) (sym ts)) c.offer_addresses.ensures.offers)
    c.ended-verdict.ensures

pub returns-then-eq-clause-took : goal.returns-then-eq-clause-took
returns-then-eq-clause-took g c = λ n.
    let z = c.args.steps.now.zone in
    let set = c.args.set.now in
    let ts = targets_of_set answer n set.ttl set true
    (search rules) in
    subst (λ ms. Took c.args.steps.now c.offer_addresses.new.steps (side_nodes z all_names ms)
    (length (filter all_names ms))) (sym ts) c.offer_addresses.ensures.took

pub returns-else-eq-3-clause-ends : goal.returns-else-eq-3-clause-ends
returns-else-eq-3-clause-ends g c = λ n begun offers.
    let set = c.args.set.now in
    Ends-positive c.args.steps.now.zone (asked_item n set) offers
    (Offers-none c.args.steps.now.zone _ (targets_of_set answer n set.ttl set false
    (search rules)))
    c.ended-verdict.ensures
