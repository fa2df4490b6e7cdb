use Rattle.dns_answer.proofs.Common.{rules}
use Rattle.dns_answer.proofs.TargetLaws.{any-more, stood-some, same-lower}
use Rattle.dns_answer.proofs.addresses.stood_before.Goals as goal

pub returns-then-eq : goal.returns-then-eq
returns-then-eq c = search (rules, same-lower, stood-some)

pub earlier-preserved : goal.earlier-preserved
earlier-preserved c = search (rules, any-more, same-lower)
