use Rattle.dns_tools.proofs.Common.{arith, ap, ap₂, true, codes, ◌∙◌, map, udp, tcp, one_of, matches_of, takes, once_app}
use Rattle.dns_tools.proofs.ClapOptions.{once_taken, once_simple, once_set, flag_is}
use Rattle.dns_tools.proofs.arguments.given_limit.Goals as goal
use Rattle.dns_tools.proofs.arguments.given_limit.Goals.{else-get_flag-via-then-get_flag+else-are_words, else-get_flag-via-else-get_flag}

pub returns-in_err-matches-clause-usage : goal.returns-in_err-matches-clause-usage
returns-in_err-matches-clause-usage g c e t asked =
    let kind = c.in_err-matches.ensures.passes
    (ap₂ takes c.in_ok-once_command.ensures asked ∙ once_taken t) in
    grind (arith, kind, e, c.from_residual-in_err-matches.ensures)

pub returns-clause-usage : goal.returns-clause-usage
returns-clause-usage g c e udp asked = c.if-are_words-2.ensures.other asked
returns-clause-usage g c e tcp asked =
    let set = flag_is _ once_app (map g.S.AsStr.text c.args.options.now) c.in_ok-matches.matches
    (codes "tcp") _ true c.in_ok-once_command.ensures c.in_ok-matches.ensures.matches once_simple
    c.get_flag.ensures.value c.get_flag.ensures.other
    (ap (λ ws. one_of (codes "tcp") (matches_of once_app ws)) asked ∙ once_set) in
    elim c.else-get_flag.branch [
      | else-get_flag-via-then-get_flag+else-are_words w ↦ w.if-are_words.ensures.other asked
      | else-get_flag-via-else-get_flag w ↦ grind (arith, set, w.if-get_flag.false)
    ]
