use Rattle.dns_rdata.proofs.Common.{refl, sym, ◌∙◌, eqb-true, eqb-false}
use Rattle.dns_rdata.proofs.Ipv4Lemmas.{Ipv4Iff-none, no_first, no_second, no_third, no_fourth, all_four, none_alone, more_than_one, one_alone}
use Rattle.dns_rdata.proofs.ipv4.read_ipv4.Goals as goal

pub returns-in_err-first : goal.returns-in_err-first
returns-in_err-first c =
    Ipv4Iff-none _ _ c.from_residual.ensures (no_first _ (c.in_err-first.ensures.none refl))

pub returns-in_err-second : goal.returns-in_err-second
returns-in_err-second c =
    Ipv4Iff-none _ _ c.from_residual-in_err-second.ensures
    (no_second _ _ _ c.in_ok-first.ensures.some (c.in_err-second.ensures.none refl))

pub returns-in_err-third : goal.returns-in_err-third
returns-in_err-third c =
    Ipv4Iff-none _ _ c.from_residual-in_err-third.ensures
    (no_third _ _ _ _ _ c.in_ok-first.ensures.some c.in_ok-second.ensures.some
    (c.in_err-third.ensures.none refl))

pub returns-in_err-fourth : goal.returns-in_err-fourth
returns-in_err-fourth c =
    Ipv4Iff-none _ _ c.from_residual-in_err-fourth.ensures
    (no_fourth _ _ _ _ _ _ _ c.in_ok-first.ensures.some c.in_ok-second.ensures.some
    c.in_ok-third.ensures.some (λ n said. none_alone _ c.in_err-fourth.ensures n said.0 said.1))

pub returns-then-not-is_empty : goal.returns-then-not-is_empty
returns-then-not-is_empty c =
    let more = eqb-false _ _ (sym c.is_empty.ensures ∙ c.if-not-is_empty.true) in
    Ipv4Iff-none _ _ refl
    (no_fourth _ _
    _ _ _ _ _ c.in_ok-first.ensures.some c.in_ok-second.ensures.some c.in_ok-third.ensures.some
    (λ n said. more_than_one _ _ _ c.in_ok-fourth.ensures more n said.0 said.1))

pub returns : goal.returns
returns c =
    let none = eqb-true _ _ (sym c.is_empty.ensures ∙ c.if-not-is_empty.false) in
    all_four _ _ _
    _ _ _ _ _ c.in_ok-first.ensures.some c.in_ok-second.ensures.some c.in_ok-third.ensures.some
    ((one_alone _ _ _ c.in_ok-fourth.ensures none c.in_ok-fourth.fourth).0 refl)
