use Rattle.dns_tools.proofs.Common.{arith, ap, ap₂, sym, subst, codes, ◌∙◌, map, Options, AreOptions, takes, check_app}
use Rattle.dns_tools.proofs.ClapOptions.{check_read, check_simple, flag_is}
use Rattle.dns_tools.proofs.arguments.given_flags.Goals as goal

pub returns-in_err-matches-clause-usage : goal.returns-in_err-matches-clause-usage
returns-in_err-matches-clause-usage g c e o asked =
    let ws = map g.S.AsStr.text c.args.options.now in
    let kind = c.in_err-matches.ensures.passes (ap (λ app. takes app ws)
    c.in_ok-check_command.ensures ∙ (check_read o ws asked).taken) in
    grind (arith, kind, e, c.from_residual-in_err-matches.ensures)

pub returns-clause-usage : goal.returns-clause-usage
returns-clause-usage g c e o asked =
    let ws = map g.S.AsStr.text c.args.options.now in
    let read = check_read o ws asked in
    let m = c.in_ok-matches.matches in
    let has = c.in_ok-matches.ensures.matches in
    let quiet = flag_is _ check_app ws m (codes "quiet") _ o.is_quiet
    c.in_ok-check_command.ensures has check_simple c.get_flag.ensures.value
    c.get_flag.ensures.other read.quiet_is in
    let print = flag_is _ check_app ws m (codes "print") _ o.is_printing
    c.in_ok-check_command.ensures has check_simple c.get_flag-2.ensures.value
    c.get_flag-2.ensures.other read.print_is in
    c.if-are_options.ensures.other (subst (λ (a : Options). AreOptions a ws)
    (ap₂ (λ q p. record { is_quiet = q; is_printing = p }) (sym quiet) (sym print)) asked)
