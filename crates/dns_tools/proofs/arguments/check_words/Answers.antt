use Rattle.dns_tools.proofs.Common.{rules, subst, AreOptions, map, options_of}
use Rattle.dns_tools.proofs.LastArguments.{same_front}
use Rattle.dns_tools.proofs.arguments.check_words.Goals as goal

pub returns-in_err-given_flags-clause-usage : goal.returns-in_err-given_flags-clause-usage
returns-in_err-given_flags-clause-usage g c e o z asked =
    c.in_err-given_flags.ensures.usage (search rules) o
    (subst (AreOptions o) (same_front _ _ _ _ _ asked.zone_is c.in-Some.ensures.some)
    asked.options_are)

pub returns-in_err-given_origin-clause-origin : goal.returns-in_err-given_origin-clause-origin
returns-in_err-given_origin-clause-origin g c e = record {
  meant = options_of c.in_ok-given_flags.field-0;
  zone = record { origin = c.in-Some.origin.now; file = c.in-Some.file.now };
  asked = record {
    front = map g.S.AsStr.text c.in-Some.options.now;
    options_are = c.in_ok-given_flags.ensures.ok;
    zone_is = c.in-Some.ensures.some;
  };
  bad = c.in_err-given_origin.ensures.err.1;
}
