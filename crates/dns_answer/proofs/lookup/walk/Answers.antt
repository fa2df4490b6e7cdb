use Rattle.dns_answer.proofs.Common.{rules, ◌≡◌, true, ◌-◌, refl, ◌∙◌, arith, false≢true, IsWireForm-wire, labels_of_spelled, ends_at_cuts}
use Rattle.dns_answer.proofs.PathSteps.{missing-child, cut-at_child, there-at_child}
use Rattle.dns_answer.proofs.LongPaths.{cut-whole, missing-whole, start-deep, there-above, under-origin, label-before}
use Rattle.dns_answer.proofs.lookup.walk.Goals as goal

pub put_starts-requires-clause-form : goal.put_starts-requires-clause-form
put_starts-requires-clause-form c = search (rules, IsWireForm-wire)

pub put_starts-requires-clause-labels : goal.put_starts-requires-clause-labels
put_starts-requires-clause-labels c = search (rules, labels_of_spelled)

pub labels-init : goal.labels-init
labels-init c =
    let deep = start-deep _ _ _ c.args.sought.now c.requires.start c.requires.below in
    record {
      there = there-above _ _ _ _ c.requires.start c.requires.below;
      fewer = omega arith;
      zone = refl;
      from = omega arith;
      visits = omega (arith, deep);
      comparisons = omega arith;
    }

pub label_after-label-requires-clause-inside : goal.label_after-label-requires-clause-inside
label_after-label-requires-clause-inside c = search (rules, labels_of_spelled)

pub returns-in_default-clause-way : goal.returns-in_default-clause-way
returns-in_default-clause-way c =
    let octets = c.octets-octets.ensures in
    let label = label-before _ _ _ c.labels.before
    (labels_of_spelled _ _ octets.value octets.is_name)
    c.labels-test.true c.label_after-label.ensures in
    missing-whole _ _ _ (c.labels.before - 1) _ _ (rw label
    (missing-child _ _ _ _ _ _ _ c.labels.invariant.there c.or_start.ensures
    (λ there. false≢true (c.in_default.ensures.child.1 there))))

pub returns-then-is_some-clause-way : goal.returns-then-is_some-clause-way
returns-then-is_some-clause-way c =
    let inv = c.labels.invariant in
    let octets = c.octets-octets.ensures in
    let label = label-before _ _ _ c.labels.before
    (labels_of_spelled _ _ octets.value octets.is_name)
    c.labels-test.true c.label_after-label.ensures in
    let ends : ends_at_cuts c.args.cuts ≡ true = search rules in (
      ends,
      cut-whole _ (c.labels.before - 1) _ _ (rw label (cut-at_child _ _ _ _ _ _ _ _ inv.there
          (λ _. under-origin _ _ _ _ c.requires.start c.requires.below _ inv.fewer)
          c.or_start.ensures c.in-Some.ensures.node ends (search rules))),
    )

pub labels-preserved : goal.labels-preserved
labels-preserved c =
    let inv = c.labels.invariant in
    let down = c.in-Some.ensures in
    let octets = c.octets-octets.ensures in
    let label = label-before _ _ _ c.labels.before
    (labels_of_spelled _ _ octets.value octets.is_name)
    c.labels-test.true c.label_after-label.ensures in
    record {
      there = rw label (there-at_child _ _ _ _ _ _ _ _ inv.there
          (λ _. under-origin _ _ _ _ c.requires.start c.requires.below _ inv.fewer)
          c.or_start.ensures down.node (down.child.0 refl) (search rules));
      fewer = omega (arith, inv.fewer);
      zone = down.same_zone ∙ inv.zone;
      from = omega (arith, down.visits, inv.from);
      visits = omega (arith, down.visits, inv.visits, c.labels-test.true);
      comparisons = omega (arith, down.visits, down.bound, inv.comparisons);
    }
