use Rattle.dns_rdata.proofs.Common.{sym, ◌∙◌, refl, take, ◌+◌, eqb-false}
use Rattle.dns_rdata.proofs.Ipv6Lemmas.{GroupsSoFar-push, refused_before_colon, refused_last, all_groups}
use Rattle.dns_spec.proofs.Common.{take_rest}
use Rattle.dns_rdata.proofs.ipv6.read_groups.Goals as goal

pub returns-then-not-push_group : goal.returns-then-not-push_group
returns-then-not-push_group c =
    let ensures = c.if-not-push_group.ensures in
    refused_before_colon _ _
    (take c.in-Some.end c.groups.rest.now) _ c.push_group.new.groups.items _ c.groups.invariant
    (eqb-false _ _ (sym c.is_empty.ensures ∙ c.if-is_empty.false)) c.in-Some.ensures refl
    (ensures.pushed, ensures.value)

pub groups-preserved : goal.groups-preserved
groups-preserved c =
    let ensures = c.if-not-push_group.ensures in
    rw (take_rest c.groups.rest.now (c.in-Some.end + 1))
    (GroupsSoFar-push _ _ (take c.in-Some.end c.groups.rest.now)
    _ _ _ c.groups.invariant c.in-Some.ensures refl (ensures.pushed, ensures.value))

pub returns-then-not-push_group-2 : goal.returns-then-not-push_group-2
returns-then-not-push_group-2 c =
    let ensures = c.if-not-push_group-2.ensures in
    refused_last _ _ _ c.push_group-2.new.groups.items c.groups.invariant
    (eqb-false _ _ (sym c.is_empty.ensures ∙ c.if-is_empty.false)) c.in_default.ensures
    (ensures.pushed, ensures.value)

pub returns : goal.returns
returns c =
    let ensures = c.if-not-push_group-2.ensures in
    all_groups _ _ _ _ c.groups.invariant (eqb-false _ _ (sym c.is_empty.ensures
    ∙ c.if-is_empty.false)) c.in_default.ensures (ensures.pushed, ensures.value)
