use Rattle.dns_wire.proofs.Common.{◌∙◌, ap, subst, arith, length, IsLastOf}
use Rattle.dns_wire.proofs.AskedLemmas.{before_is, asked_found, asked_none, two_octets}
use Rattle.dns_wire.proofs.suffixes.offset_before.Goals as goal

pub returns-clause-found : goal.returns-clause-found
returns-clause-found c = λ head.
    let name = before_is c.requires c.split_at.ensures.front c.split_at-2.ensures.back in
    let last = c.has_last_labels.ensures.yes c.if-not-has_last_labels.false in
    asked_found head c.args.suffix.now c.requires (omega (arith, c.if-suffix-lt2.false)) (omega
    (arith, last.0, ap length name)) (subst (λ o. IsLastOf o c.args.suffix.now) name last.1)

pub returns-then-suffix-lt2-clause-none : goal.returns-then-suffix-lt2-clause-none
returns-then-suffix-lt2-clause-none c = λ _. asked_none c.args.suffix.now c.requires
    (λ n front t l e ok whole is. let two = two_octets l t in
    let short = c.if-suffix-lt2.true in omega (arith, two, short, ap length is))

pub returns-then-not-has_last_labels-clause-none : goal.returns-then-not-has_last_labels-clause-none
returns-then-not-has_last_labels-clause-none c = λ _. asked_none c.args.suffix.now c.requires
    (λ n front
    t l e ok whole is. c.has_last_labels.ensures.no c.if-not-has_last_labels.true n front t l
    (before_is c.requires c.split_at.ensures.front c.split_at-2.ensures.back ∙ e) ok whole is)
