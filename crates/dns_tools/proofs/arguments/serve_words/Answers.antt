use Rattle.dns_tools.proofs.Common.{rules}
use Rattle.dns_tools.proofs.LastArguments.{same_front}
use Rattle.dns_tools.proofs.arguments.serve_words.Goals as goal

pub returns-in_err-given_service-clause-usage : goal.returns-in_err-given_service-clause-usage
returns-in_err-given_service-clause-usage g c e a z asked =
    c.in_err-given_service.ensures.usage (search rules) a (record {
      words = same_front _ _ _ _ _ c.in-Some.ensures.some asked.zone_is;
      turns = asked.turns;
    })
