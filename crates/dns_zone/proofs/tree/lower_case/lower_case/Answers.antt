use Rattle.dns_zone.proofs.Common.{refl, ap, ◌∙◌, true, arith, get_or, nat_eq, eqb-true, agree_below_at, to_ascii_lowercase, LOWER_CASE}
use Rattle.dns_zone.proofs.tree.lower_case.lower_case.Goals as goal

-- the table agrees with the definition at each octet, by computation
pub returns : goal.returns
returns c =
    eqb-true _ _ (agree_below_at
    (λ k. nat_eq (get_or LOWER_CASE k 0) (to_ascii_lowercase k)) (λ _. true) 256 c.from.result refl
    (omega (arith, c.from.ensures))) ∙ ap to_ascii_lowercase c.from.ensures
