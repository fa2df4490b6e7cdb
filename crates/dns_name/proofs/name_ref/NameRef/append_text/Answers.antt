use Rattle.dns_name.proofs.Common.{◌≡◌, [], ◌∷◌, ◌++◌, ap, ◌∙◌, arith, length-append, Octets, label_text}
use Rattle.dns_name.proofs.WrittenLemmas.{NameSoFar-next, length-label_text}
use Rattle.dns_name.proofs.name_ref.NameRef.append_text.Goals as goal

appended : (text new octets l : Octets)
    → new ≡ text ++ label_text octets → octets ≡ l → new ≡ text ++ label_text l
appended text new octets l e f = e ∙ ap (λ k. text ++ label_text k) f

pub push-requires-in-labels : goal.push-requires-in-labels
push-requires-in-labels c =
    grind (arith, appended, length-append, length-label_text)

pub labels-preserved : goal.labels-preserved
labels-preserved c =
    let new =
    appended _ _ _ c.in-Some.label c.append_label.ensures c.octets-in-labels.ensures.value in
    NameSoFar-next _ _ _ _ _ _ _ c.labels.invariant c.in-Some.ensures.steps
    (c.push-in-labels.ensures ∙ ap (λ t. t ++ 46 ∷ []) new)
