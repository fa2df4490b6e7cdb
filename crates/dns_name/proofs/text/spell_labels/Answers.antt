use Rattle.dns_name.proofs.Common.{◌≡◌, [], length, ap, sym, nil_from_length, eqb-true, eqb-false}
use Rattle.dns_name.proofs.TextLemmas.{Reads-push, SpellsIff-none, SpellsIff-relative, SpellsIff-absolute, PushesLabel-shorter, spelled_as-fits, spelled_as-fault, absolute_fault, relative_fault, too_long}
use Rattle.dns_name.proofs.text.spell_labels.Goals as goal

pub returns-in_err-label_fits-clause-iff : goal.returns-in_err-label_fits-clause-iff
returns-in_err-label_fits-clause-iff c =
    let some : c.labels.rest.now ≡ [] → ⊥ =
    λ e. eqb-false _ _ (sym c.labels-test.ensures) (ap length e) in
    SpellsIff-none _ _ _ _ _ _ c.labels.invariant some _ c.in_err-label_fits.ensures.err
    (spelled_as-fault _ _ c.from_residual.ensures.0)

pub returns-in_default-clause-iff : goal.returns-in_default-clause-iff
returns-in_default-clause-iff c =
    SpellsIff-relative _ _ _ _ _ _ _ _ _ _ _ _ c.labels.invariant c.in_ok-label_fits.ensures.ok
    (nil_from_length _ c.in_default.ensures.cases) c.append-fits.ensures
    (spelled_as-fits _ _ _ _ _ c.check_fits.ensures)

pub returns-in_default-clause-which : goal.returns-in_default-clause-which
returns-in_default-clause-which c =
    too_long _ _ _ _ c.check_fits.ensures (relative_fault _ _ _ _ _ _ _ _ c.labels.invariant
    c.in_ok-label_fits.ensures.ok c.requires.some (nil_from_length _ c.in_default.ensures.cases))

pub labels-smaller : goal.labels-smaller
labels-smaller c =
    PushesLabel-shorter _ _ _ _ _ _ _ c.in_ok-label_fits.ensures.ok c.in-Some.ensures.cases.0

pub labels-preserved : goal.labels-preserved
labels-preserved c = Reads-push
    _ _ _ _ _ _ _ _ _ _ c.labels.invariant c.in_ok-label_fits.ensures.ok c.in-Some.ensures.cases.0

pub returns-clause-iff : goal.returns-clause-iff
returns-clause-iff c =
    SpellsIff-absolute _ _ _ _ _ _ _ c.labels.invariant
    (nil_from_length _ (eqb-true _ _ (sym c.labels-test.ensures)))
    (spelled_as-fits _ _ _ _ _ c.check_fits-2.ensures)

pub returns-clause-which : goal.returns-clause-which
returns-clause-which c =
    too_long _ _ _ _ c.check_fits-2.ensures (absolute_fault _ _ _ _ _ c.labels.invariant
    c.requires.some (nil_from_length _ (eqb-true _ _ (sym c.labels-test.ensures))))
