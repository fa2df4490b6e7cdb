use Rattle.dns_rdata.proofs.Common.{rules, sym, ap, ◌∙◌, ◌+◌, subst, ◌≡◌, true, false, not}
use Rattle.std.specs.Option.{is_none}
use Rattle.dns_spec.specs.AllFaults.{FaultyUnknown}
use Rattle.dns_rdata.proofs.UnknownFaults.{word_not_hex, all_hex, stated}
use Rattle.dns_rdata.proofs.unknown.faulty_unknown.Goals as goal

pub returns-in-Some-first_not_hex-clause-value : goal.returns-in-Some-first_not_hex-clause-value
returns-in-Some-first_not_hex-clause-value c =
    let bare : not c.in-Some.first.now.is_quoted ≡ true = search rules in
    let some : is_none c.read_number.result ≡ false = search rules in
    let states = stated c.in-Some.first.now _ c.read_number.result
    (ap (λ w. w.raw) c.first.view_is) bare some c.read_number.ensures in
    let at = c.in-Some-first_not_hex in
    subst (λ all. FaultyUnknown all (at.index + 2)) (sym c.in-Some.ensures.cases.0)
    (word_not_hex c.in-Some.first.now c.in-Some.others.now _ states.1 _
    (sym c.first_not_hex.ensures.value ∙ at.is))

pub returns-in-None-clause-value : goal.returns-in-None-clause-value
returns-in-None-clause-value c =
    let bare : not c.in-Some.first.now.is_quoted ≡ true = search rules in
    let some : is_none c.read_number.result ≡ false = search rules in
    let states = stated c.in-Some.first.now _ c.read_number.result
    (ap (λ w. w.raw) c.first.view_is) bare some c.read_number.ensures in
    subst (λ all. FaultyUnknown all 0) (sym c.in-Some.ensures.cases.0)
    (all_hex c.in-Some.first.now c.in-Some.others.now _ states.1
    (sym c.first_not_hex.ensures.value ∙ c.in-None.is))
