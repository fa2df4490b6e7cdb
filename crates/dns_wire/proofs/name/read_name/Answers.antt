use Rattle.dns_wire.proofs.Common.{false, ◌≡◌, is_name, IsName-is_name, refl, arith, true≢false, sym, length, ◌≤◌, ◌∷◌, [], ◌++◌, slice_get_within, wire}
use Rattle.dns_wire.proofs.Runs.{reading_ends, reading_stops, reading_label, label_too_long, reading_jumps, end_fits, reading_stopped, reading_too_long}
use Rattle.dns_wire.proofs.name.read_name.Goals as goal

pub returns-in_err-step_at-clause-none : goal.returns-in_err-step_at-clause-none
returns-in_err-step_at-clause-none c _ =
    reading_stops c.steps.invariant.reading (c.in_err-step_at.ensures.none refl)

pub returns-in-End-clause-name : goal.returns-in-End-clause-name
returns-in-End-clause-name c =
    let step = rw c.in-End.is at c.in_ok-step_at.ensures.step in
    rw c.unwrap_or.ensures (reading_ends c.steps.invariant.reading step)

pub returns-in-End-clause-within : goal.returns-in-End-clause-within
returns-in-End-clause-within c = grind (arith, slice_get_within, end_fits)

pub returns-then-not-push-clause-none : goal.returns-then-not-push-clause-none
returns-then-not-push-clause-none c _ =
    let step = rw c.in-Label.is at c.in_ok-step_at.ensures.step in
    let long : (length (wire (c.steps.name ++ c.in-Label.label ∷ [])) ≤ 255) → ⊥ =
    λ fits. true≢false (sym (c.if-not-push.ensures.fits.1 fits)) in
    label_too_long c.in-Label.label c.steps.invariant.reading step (grind (arith, long))

pub steps-preserved-in-Label : goal.steps-preserved-in-Label
steps-preserved-in-Label c =
    let step = rw c.in-Label.is at c.in_ok-step_at.ensures.step in
    let push = c.if-not-push.ensures in
    record {
      reading = rw (push.pushed, c.octets-length.ensures.value)
          (reading_label c.in-Label.label c.steps.invariant.reading step
          (rw push.pushed at push.is_name));
      begun = c.steps.invariant.begun;
    }

pub steps-preserved : goal.steps-preserved
steps-preserved c =
    let step = rw c.in-Jump.is at c.in_ok-step_at.ensures.step in
    record {
      reading = rw c.unwrap_or-in-Jump.ensures
          (reading_jumps c.steps.invariant.reading step c.steps.invariant.begun);
      begun = omega (arith, step.before_run, c.steps.invariant.begun);
    }

pub returns-in_err-step_at-clause-fault : goal.returns-in_err-step_at-clause-fault
returns-in_err-step_at-clause-fault c = grind (arith, reading_stopped c.steps.invariant.reading)

pub returns-then-not-push-clause-fault : goal.returns-then-not-push-clause-fault
returns-then-not-push-clause-fault c =
    let step = rw c.in-Label.is at c.in_ok-step_at.ensures.step in
    let long : (length (wire (c.steps.name ++ c.in-Label.label ∷ [])) ≤ 255) → ⊥ =
    λ fits. true≢false (sym (c.if-not-push.ensures.fits.1 fits)) in
    let not_name : is_name (c.steps.name ++ c.in-Label.label ∷ []) ≡ false =
    grind (arith, IsName-is_name, long) in
    reading_too_long c.in-Label.label c.steps.invariant.reading step not_name
