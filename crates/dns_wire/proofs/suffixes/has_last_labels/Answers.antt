use Rattle.dns_wire.proofs.Common.{◌∙◌, ◌++◌, ◌∷◌, sym, ap, length, false≢true, eq-eqb, wire}
use Rattle.dns_wire.proofs.AskedLemmas.{last_label, last_here}
use Rattle.dns_spec.proofs.DomainNames.WireNames.{wire_split}
use Rattle.dns_wire.proofs.suffixes.has_last_labels.Goals as goal

pub labels-preserved : goal.labels-preserved
labels-preserved c =
    last_label _ c.labels.invariant c.in-Some.ensures.some c.labels-test.true

pub returns-then-not-ends_with-clause-no : goal.returns-then-not-ends_with-clause-no
returns-then-not-ends_with-clause-no c = λ _ n front t l e ok whole is.
    let x = wire_split front (l ∷ t) in
    c.ends_with.ensures.no c.if-not-ends_with.true x.0 (e ∙ ap wire whole ∙ x.1 ∙ ap (λ z. x.0 ++ z) is)

pub returns-clause-no : goal.returns-clause-no
returns-clause-no c = λ no n front t l e ok whole is.
    let over = c.labels-test.false in
    let here = last_here c.labels.invariant over n front t l e ok whole (ap length is) in
    false≢true (sym no
    ∙ eq-eqb (length c.labels.rest.now) (length c.args.suffix.now) (ap length (here ∙ is)))
