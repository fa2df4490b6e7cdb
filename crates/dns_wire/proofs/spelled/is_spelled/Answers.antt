use Rattle.dns_wire.proofs.Common.{rules, arith, ap, sym, ◌∙◌, length}
use Rattle.dns_wire.proofs.SpelledLemmas.{spelled_end, root_alone, spelled_label, spelled_jump, spelled_whole, named_after}
use Rattle.dns_wire.proofs.spelled.is_spelled.Goals as goal

pub returns-in-End-clause-yes : goal.returns-in-End-clause-yes
returns-in-End-clause-yes c = λ yes n e ok.
    let root = rw c.in-End.is at c.in-Ok.ensures.step in
    let m = c.steps.invariant.named n e ok in
    c.steps.invariant.forth
    ((spelled_end root).0 (m.1 ∙ root_alone m.0 (ap length (sym m.1) ∙ search rules)))

pub returns-in-End-clause-no : goal.returns-in-End-clause-no
returns-in-End-clause-no c = grind (arith, spelled_end)

pub steps-preserved-in-Label : goal.steps-preserved-in-Label
steps-preserved-in-Label c =
    let there = rw c.in-Label.is at c.in-Ok.ensures.step in
    let i = c.steps.invariant in
    let whole = rw c.octets.ensures.value at c.in-Some.ensures.some in
    let both = spelled_label {s = c.steps.run} _ there whole in
    let begun = i.begun in
    rw c.octets-in-Label.ensures.value (record {
      forth = λ h. i.forth (both.0 h);
      back = λ h. both.1 (i.back h);
      named = λ n e ok. let m = i.named n e ok in named_after _ _ there.some whole m.0 m.1 m.2;
      begun = omega (arith, begun);
    })

pub returns-in_default-after_label-clause-no : goal.returns-in_default-after_label-clause-no
returns-in_default-after_label-clause-no c = grind arith

pub returns-then-has_at-clause-yes : goal.returns-then-has_at-clause-yes
returns-then-has_at-clause-yes c = λ yes n e ok.
    let there = rw c.in-Jump.is at c.in-Ok.ensures.step in
    let m = c.steps.invariant.named n e ok in
    c.steps.invariant.forth ((spelled_jump there).0
    (spelled_whole (c.has_at.ensures c.if-has_at.true) m.0 m.1 m.2))

pub steps-preserved : goal.steps-preserved
steps-preserved c =
    let there = rw c.in-Jump.is at c.in-Ok.ensures.step in
    let i = c.steps.invariant in
    record {
      forth = λ h. i.forth ((spelled_jump there).0 h);
      back = λ h. (spelled_jump there).1 (i.back h);
      named = i.named;
      begun = omega arith;
    }
