use Rattle.dns_zone.proofs.Common.{sym, arith, le-ltb}
use Rattle.dns_zone.proofs.SetTests.{sets_upto}
use Rattle.dns_zone.proofs.checks.owner.have_many_sets.Goals as goal

pub returns-then-own-le-MOST_SETS : goal.returns-then-own-le-MOST_SETS
returns-then-own-le-MOST_SETS c =
    sym (le-ltb 32 _ (omega (arith, sets_upto c.args.own.now, c.if-own-le-MOST_SETS.true)))
