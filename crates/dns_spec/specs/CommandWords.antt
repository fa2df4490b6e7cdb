-- The arguments of the checker and of the servers, and what these arguments ask for. All of it is
-- this project's choice.
use Rattle.std.specs.Prelude.{⊤, ◌≡◌, ℕ, ◌≤◌, ◌⊎◌, Bool, false, not, List, [], ◌∷◌, ◌++◌, reverse, ◌==◌, if◌then◌else◌, IsTrue, codes, decimal}
use Rattle.dns_spec.specs.Names.{Octets}
use Rattle.dns_spec.specs.Report.{Options}

-- the argument begins with `-`
abbrev pub is_dashed : Octets → Bool
is_dashed [] = false
is_dashed (o ∷ word) = o == 45

-- the zone that a program is given: the arguments ORIGIN and FILE, as strings
pub record ZoneWords : Type 0 where
  pub origin : Octets
  pub file : Octets

-- the arguments are `front`, followed by ORIGIN and FILE, neither of which begins with `-`
pub record EndWords (words front : List Octets) (zone : ZoneWords) : Type 0 where
  pub words_are : words ≡ front ++ zone.origin ∷ zone.file ∷ []
  pub origin : IsTrue (not (is_dashed zone.origin))
  pub file : IsTrue (not (is_dashed zone.file))

-- the arguments for options, `--quiet` first; and the same arguments in either order
abbrev pub option_words : Options → List Octets
option_words options =
    (if options.is_quiet then codes "--quiet" ∷ [] else [])
    ++ (if options.is_printing then codes "--print" ∷ [] else [])

abbrev pub AreOptions : Options → List Octets → Type 0
AreOptions options words =
    (words ≡ option_words options) ⊎ (words ≡ reverse (option_words options))

-- `zonecheck [--quiet] [--print] ORIGIN FILE`
pub record AskToCheck (words : List Octets) (options : Options) (zone : ZoneWords) : Type 0 where
  pub front : List Octets
  pub options_are : AreOptions options front
  pub zone_is : EndWords words front zone

-- RFC 1035 4.2: UDP and TCP, which limit the size of a reply
pub data Transport : Type 0 where
  udp : Transport
  tcp : Transport

-- How the server is to serve: reply to each line of its input within the limit of a transport; or
-- handle a number of turns, datagrams over UDP or connections over TCP, at an address, given as a
-- string.
pub data ServiceAsked : Type 0 where
  by_lines : Transport → ServiceAsked
  by_turns : Transport → Octets → ℕ → ServiceAsked

-- the arguments for a service: `once`, `once --tcp`, `udp ADDR TURNS` or `tcp ADDR TURNS`
abbrev pub service_words : ServiceAsked → List Octets
service_words (by_lines udp) = codes "once" ∷ []
service_words (by_lines tcp) = codes "once" ∷ codes "--tcp" ∷ []
service_words (by_turns udp address turns) = codes "udp" ∷ address ∷ decimal turns ∷ []
service_words (by_turns tcp address turns) = codes "tcp" ∷ address ∷ decimal turns ∷ []

-- TURNS is 1 to 1,000,000
abbrev pub HasTurns : ServiceAsked → Type 0
HasTurns (by_lines transport) = ⊤
HasTurns (by_turns transport address turns) = (1 ≤ turns) × (turns ≤ 1000000)

-- `zoneserve once [--tcp] ORIGIN FILE` or `zoneserve udp|tcp ADDR TURNS ORIGIN FILE`
pub record AskToServe (words : List Octets) (service : ServiceAsked) (zone : ZoneWords)
    : Type 0 where
  pub turns : HasTurns service
  pub zone_is : EndWords words (service_words service) zone

-- what `zonesocket`, which is given its socket, is asked for: a transport and a number of turns
pub record SocketAsked : Type 0 where
  pub transport : Transport
  pub turns : ℕ

abbrev pub transport_word : Transport → Octets
transport_word udp = codes "udp"
transport_word tcp = codes "tcp"

-- `zonesocket udp|tcp TURNS ORIGIN FILE`
pub record AskAtSocket (words : List Octets) (asked : SocketAsked) (zone : ZoneWords)
    : Type 0 where
  pub few : (1 ≤ asked.turns) × (asked.turns ≤ 1000000)
  pub zone_is : EndWords words
      (transport_word asked.transport ∷ decimal asked.turns ∷ []) zone
