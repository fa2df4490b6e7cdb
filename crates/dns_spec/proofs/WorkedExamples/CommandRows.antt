-- What the arguments of command lines ask for.
use Rattle.dns_spec.proofs.Common.{AskToCheck, AskToServe, List, Octets, Options, ZoneWords, [], by_turns, codes, digits, inr, lit≤, refl, true, udp, ◌++◌, ◌∷◌}

abbrev zone : ZoneWords
zone = record { origin = codes "example"; file = codes "zone" }

-- arguments, followed by ORIGIN and FILE
abbrev then_zone : List Octets → List Octets
then_zone front = front ++ codes "example" ∷ codes "zone" ∷ []

abbrev both : Options
both = record { is_quiet = true; is_printing = true }

command_rows :
    -- the checker, with both options
    AskToCheck (then_zone (codes "--print" ∷ codes "--quiet" ∷ [])) both zone
    -- the server, for turns over UDP
    × AskToServe (then_zone (codes "udp" ∷ codes "127.0.0.1:53" ∷ codes "1000000" ∷ []))
    (by_turns udp (codes "127.0.0.1:53") 1000000) zone
unfolding digits
command_rows = (
  record {
    front = codes "--print" ∷ codes "--quiet" ∷ [];
    options_are = inr refl;
    zone_is = record { words_are = refl; origin = refl; file = refl };
  },
  record {
    turns = (lit≤ tt, lit≤ tt);
    zone_is = record { words_are = refl; origin = refl; file = refl };
  },
)
