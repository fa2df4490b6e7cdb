use Rattle.dns_tools.proofs.Common.{rules, ap, sym, ◌∙◌, ◌∷◌, map}
use Rattle.std.proofs.lemmas.Slice.Eq.{bytes_eq-Decides}
use Rattle.dns_tools.proofs.LastArguments.{after_once}
use Rattle.dns_tools.proofs.arguments.given_service.Goals as goal

pub returns-in_err-given_limit-in-Some-clause-usage :
    goal.returns-in_err-given_limit-in-Some-clause-usage
returns-in_err-given_limit-in-Some-clause-usage g c e a asked =
    let options = map g.S.AsStr.text c.in-Some.options.now in
    let is_once = sym c.as_str.ensures
    ∙ (bytes_eq-Decides _ _).0 (sym c.eq.ensures ∙ c.if-eq.true) in
    let after = after_once a options (ap (λ w. w ∷ options) (sym is_once)
    ∙ sym (ap (map g.S.AsStr.text) c.in-Some.ensures.cases.0) ∙ asked.words) in
    c.in_err-given_limit-in-Some.ensures.usage (search rules) after.0 after.1
