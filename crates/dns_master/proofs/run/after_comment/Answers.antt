use Rattle.dns_master.proofs.Common.{rules, ◌==◌, drop, ap, ◌∙◌}
use Rattle.dns_master.proofs.RunLemmas.{place-some, none-after}
use Rattle.dns_master.proofs.run.after_comment.Goals as goal

pub returns-in-Some : goal.returns-in-Some
returns-in-Some c = c.split_at.ensures.back ∙ ap (λ k. drop k c.args.text.now)
    (place-some (λ x. x == 10) c.args.text.now c.in-Some.index (search rules))

pub returns-in-None : goal.returns-in-None
returns-in-None c = none-after (λ x. x == 10) c.args.text.now (search rules)
