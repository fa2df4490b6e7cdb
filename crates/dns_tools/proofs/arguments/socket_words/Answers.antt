use Rattle.dns_tools.proofs.Common.{rules, subst, EndWords, map, transport_of}
use Rattle.dns_tools.proofs.LastArguments.{same_front}
use Rattle.dns_tools.proofs.arguments.socket_words.Goals as goal

pub returns-in_default-clause-usage : goal.returns-in_default-clause-usage
returns-in_default-clause-usage g c e a z asked =
    c.in_default.ensures.none (search rules) _ z asked.zone_is

pub returns-in_default-transport_and_turns-clause-usage :
    goal.returns-in_default-transport_and_turns-clause-usage
returns-in_default-transport_and_turns-clause-usage g c e a z asked =
    c.in_default-transport_and_turns.ensures.none (search rules) a.transport a.turns
    (same_front _ _ _ _ _ c.in-Some.ensures.some asked.zone_is) asked.few.0 asked.few.1

pub returns-in_err-given_origin-clause-origin : goal.returns-in_err-given_origin-clause-origin
returns-in_err-given_origin-clause-origin g c e = record {
  meant = record {
    transport = transport_of c.in-Some-transport_and_turns.transport;
    turns = c.in-Some-transport_and_turns.turns;
  };
  zone = record { origin = c.in-Some.origin.now; file = c.in-Some.file.now };
  asked = record {
    few = (
      c.in-Some-transport_and_turns.ensures.some.1,
      c.in-Some-transport_and_turns.ensures.some.2,
    );
    zone_is = subst (λ front. EndWords (map g.S.AsStr.text c.args.words.now) front
        (record { origin = c.in-Some.origin.now; file = c.in-Some.file.now }))
        c.in-Some-transport_and_turns.ensures.some.0 c.in-Some.ensures.some;
  };
  bad = c.in_err-given_origin.ensures.err.1;
}
