use Rattle.dns_answer.proofs.Common.{◌≡◌, ◌<◌, length, [], ◌∷◌, refl, sym, ap, ◌∙◌, subst, arith, false≢true, ZoneContents, most_aliases, positive, referral_to, ZoneNode, chain_rest, Says, TookRest, ending, asked_item, AreRecords, names_of, aliases_left}
use Rattle.dns_answer.proofs.Taking.{Took-none}
use Rattle.dns_answer.proofs.Offering.{Offers-nothing}
use Rattle.dns_answer.proofs.Endings.{Ends-positive, Offers-none}
use Rattle.dns_answer.proofs.ChainSteps.{ends-cut, ends-nothing, no-alias_cut}
use Rattle.dns_answer.proofs.SeekSteps.{sought-on, may-follow, names-more, names-count, no-alias, ends-none, ends-asked, has-alias, alias-ends, alias-goes_on}
use Rattle.dns_answer.proofs.chain.seek_one.Goals as goal

pub returns-in-Cut : goal.returns-in-Cut
returns-in-Cut g c =
    let name = c.in-Cut.cut.name in
    let cut = c.in-Cut.ensures.found.cut in
    let zone = c.look_up.ensures.took.zone in
    record {
      seeks = sought-on _ _ _ _ _ _ (ends-cut _ _ _ _ _ name cut) c.in-Cut.ensures.took
          (subst (λ y. TookRest c.look_up.new.steps c.refer.new.steps
          (ending y (referral_to y name))) zone c.refer.ensures.took)
          (Offers-nothing _) (rw zone at c.refer.ensures.ends);
      own = λ r. sym
          (no-alias_cut c.args.steps.now.zone c.args.qtype c.args.sought.now.name name cut);
    }

pub returns-in-Nothing : goal.returns-in-Nothing
returns-in-Nothing g c =
    let found = c.in-Nothing.ensures.found in
    let denied = rw (ap (λ (v : ZoneNode). v.zone) c.requires.apex.node) at c.deny.ensures in
    record {
      seeks = sought-on _ _ _ _ _ _ (ends-nothing _ _ _ _ _ found.no_cut found.none)
          c.in-Nothing.ensures.took Took-none (Offers-nothing _) denied;
      own = λ r. absurd (false≢true (sym denied.referral ∙ r));
    }

pub returns-in_default : goal.returns-in_default
returns-in_default g c =
    let records = subst (AreRecords c.args.steps.now.zone c.args.sought.now.name)
    (sym c.or_start-node.ensures) c.in-Records.ensures.found in
    let shown = c.in_default.ensures.shown in
    let denied =
    rw (ap (λ (v : ZoneNode). v.zone) c.requires.apex.node) at c.deny-in_default.ensures in
    record {
      seeks = sought-on _ _ _ _ _ _ (ends-none _ _ _ _ _ records shown)
          c.in-Records.ensures.took Took-none (Offers-nothing _) denied;
      own = λ r. sym (no-alias _ c.args.qtype (names_of c.args.earlier.now) _ _ records shown.0);
    }

pub returns-then-not-is_alias : goal.returns-then-not-is_alias
returns-then-not-is_alias g c =
    let s = c.args.sought.now.name in
    let set = c.in-Some.set in
    let records = subst (AreRecords c.args.steps.now.zone s) (sym c.or_start-node.ensures)
    c.in-Records.ensures.found in
    let shown = rw c.if-not-is_alias.true at c.in-Some.ensures.shown in
    let offered = rw c.ttl.ensures at c.offer.ensures in
    let zone = c.look_up.ensures.took.zone in
    record {
      seeks = sought-on _ _ _ _ _ _
          (ends-asked _ _ _ _ _ records set c.in-Some.ensures.kept shown) c.in-Records.ensures.took
          (subst (λ y. TookRest c.look_up.new.steps c.end_with.new.steps
          (ending y (positive (asked_item s set)))) zone (c.end_with.ensures.took s))
          (Offers-nothing _) (rw zone at (c.end_with.ensures.ends s c.args.builder.now offered));
      own = λ r. sym (no-alias _ c.args.qtype (names_of c.args.earlier.now) _ _ records shown.0);
    }

pub returns-in_default-next_sought : goal.returns-in_default-next_sought
returns-in_default-next_sought g c =
    let z = c.args.steps.now.zone in
    let records = subst (AreRecords z c.args.sought.now.name) (sym c.or_start-node.ensures)
    c.in-Records.ensures.found in
    let shown = rw c.if-not-is_alias.false at c.in-Some.ensures.shown in
    let origin : c.origin.result.now ≡ z.origin = c.origin.ensures.value
    ∙ ap (λ (y : ZoneContents). y.origin) c.look_up.ensures.took.zone in
    let next = rw origin at c.in_default-next_sought.ensures in
    let ended = c.ended.ensures in
    record {
      seeks = sought-on _ _ _ _ _ _
          (alias-ends _ _ _ _ _ records c.in-Some.set c.in-Some.ensures.kept shown next)
          c.in-Records.ensures.took Took-none (rw c.ttl.ensures at c.offer.ensures)
          (Ends-positive z [] (Offers-nothing _) (Offers-none z [] refl) ended);
      own = λ r. absurd (false≢true (sym ended.referral ∙ r));
    }

pub returns : goal.returns
returns g c =
    let z = c.args.steps.now.zone in
    let s = c.args.sought.now.name in
    let earlier = c.args.earlier.now in
    let before = names_of earlier in
    let set = c.in-Some.set in
    let m = c.in-Some-next_sought.target in
    let records = subst (AreRecords z s) (sym c.or_start-node.ensures) c.in-Records.ensures.found in
    let kept = c.in-Some.ensures.kept in
    let shown = rw c.if-not-is_alias.false at c.in-Some.ensures.shown in
    let first = c.in-Records.ensures.took in
    let origin : c.origin.result.now ≡ z.origin = c.origin.ensures.value
    ∙ ap (λ (y : ZoneContents). y.origin) first.zone in
    let next = rw origin at c.in-Some-next_sought.ensures in
    let rest = λ (y : ZoneContents). chain_rest y c.args.qtype (aliases_left (s ∷ before))
    (s ∷ before) m.name in
    let more : length earlier < most_aliases = omega (arith, next.0, names-count earlier) in
    record {
      more = more;
      may = may-follow c.requires first more next.2 next.3;
      alias = has-alias _ c.args.qtype before _ _ records set kept shown;
      completes = λ last end v after.
          let after = rw (names-more earlier c.args.sought.now) at after in
          sought-on _ _ _ _ (asked_item s set) (rest z)
          (alias-goes_on _ _ _ _ _ records set kept shown m next) first
          (subst (λ y. TookRest c.look_up.new.steps end (rest y)) first.zone after.took)
          (rw c.ttl.ensures at c.offer.ensures)
          (subst (λ y. Says c.offer.new.self last (rest y) v) first.zone after.says);
    }
