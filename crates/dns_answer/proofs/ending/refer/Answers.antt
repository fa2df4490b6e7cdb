use Rattle.dns_answer.proofs.Common.{rules, ◌≡◌, true, false, subst, sym, at_or_below, Reaches, inside, not_inside, IsApex, refl, ap, ◌∙◌, false≢true, is_some, ZoneContents, rrset, type_ns, set_of, set_targets}
use Rattle.dns_answer.proofs.Endings.{Ends-referred, cut-has_servers, start_at_cut, Offers-others, Took-referred}
use Rattle.dns_answer.proofs.LongPaths.{start_at_apex}
use Rattle.dns_answer.proofs.TargetLaws.{reached_from_apex}
use Rattle.dns_answer.proofs.Taking.{Took-none}
use Rattle.dns_answer.proofs.ending.refer.Goals as goal

pub unreachable-requires : goal.unreachable-requires
unreachable-requires g c =
    let below = c.requires.cut.1 in
    false≢true (ap is_some c.in_default.ensures.set
    ∙ ap (λ (z : ZoneContents). is_some (set_of (rrset z c.args.cut.now.name type_ns))) below.zone
    ∙ cut-has_servers c.args.steps.now.zone c.requires.cut.0 c.args.cut.now.name below.cut)

-- the paths to targets at or below the cut begin there, all others at the apex
pub offer_addresses-are_all_inside-requires : goal.offer_addresses-are_all_inside-requires
offer_addresses-are_all_inside-requires g c =
    let start = start_at_cut _ _ _ c.requires.cut.1 c.in-Some-owner.ensures.node in
    let z = c.args.steps.now.zone in
    let reaches : Reaches z c.args.cut.now.name (inside c.in-Some-owner.owner) = λ m takes under.
    subst (λ n. at_or_below m n ≡ true) c.in-Some-owner.ensures.name takes in
    search rules

pub offer_addresses-requires : goal.offer_addresses-requires
offer_addresses-requires g c =
    let zone = c.offer_addresses-are_all_inside.ensures.took.zone in
    let top = subst (λ z. IsApex z c.args.apex.now) (sym zone) c.requires.apex in
    let start = start_at_apex _ false _ top in
    let reaches = reached_from_apex _ _ (not_inside c.in-Some-owner.owner) top in
    search rules

pub returns-then-not-are_all_inside-clause-ends : goal.returns-then-not-are_all_inside-clause-ends
returns-then-not-are_all_inside-clause-ends g c =
    let set = c.in-Some.ensures in
    let first = c.offer_addresses-are_all_inside in
    let named = c.in-Some-owner.ensures.name in
    Ends-referred _ _ c.in-Some.servers c.requires.cut.1.zone set.set set.rtype set.kept
    (rw (named, c.ttl.ensures) at c.offer.ensures)
    (rw named at first.ensures.offers)
    (rw (first.ensures.took.zone, named) at c.offer_addresses.ensures.offers) refl refl
    c.is_full-is_truncated.ensures

pub returns-then-not-are_all_inside-clause-took : goal.returns-then-not-are_all_inside-clause-took
returns-then-not-are_all_inside-clause-took g c =
    let set = c.in-Some.ensures in
    let named = c.in-Some-owner.ensures.name in
    Took-referred _ _ c.in-Some.servers c.requires.cut.1.zone set.set set.rtype set.kept
    _ c.offer_addresses-are_all_inside.ensures.took.zone
    (rw named at c.offer_addresses-are_all_inside.ensures.took)
    (rw named at c.offer_addresses.ensures.took)

-- if all targets are at or below the cut, or the reply is full, no other addresses are offered
pub returns-else-not-are_all_inside-clause-ends : goal.returns-else-not-are_all_inside-clause-ends
returns-else-not-are_all_inside-clause-ends g c =
    let set = c.in-Some.ensures in
    let first = c.offer_addresses-are_all_inside in
    let named = c.in-Some-owner.ensures.name in
    let others = Offers-others c.args.steps.now.zone c.in-Some-owner.owner first.new.builder
    (set_targets c.in-Some.servers) _ first.ensures.all c.if-not-are_all_inside.false in
    Ends-referred _ _ c.in-Some.servers c.requires.cut.1.zone set.set set.rtype set.kept
    (rw (named, c.ttl.ensures) at c.offer.ensures)
    (rw named at first.ensures.offers) (rw named at others) refl refl c.is_full-is_truncated.ensures

pub returns-else-not-are_all_inside-clause-took : goal.returns-else-not-are_all_inside-clause-took
returns-else-not-are_all_inside-clause-took g c =
    let set = c.in-Some.ensures in
    Took-referred _ _ c.in-Some.servers c.requires.cut.1.zone set.set set.rtype set.kept
    c.args.steps.now.zone refl
    (rw c.in-Some-owner.ensures.name at c.offer_addresses-are_all_inside.ensures.took) Took-none
