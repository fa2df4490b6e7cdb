-- When the arguments of a command line are accepted or refused.
use Rattle.std.specs.Prelude.{◌≡◌, ◌⊎◌, Bool, true, false, List, [], ◌∷◌, codes}
use Rattle.dns_spec.specs.Names.{Octets, DomainName, folded}
use Rattle.dns_spec.specs.NameText.{SpellsName}
use Rattle.dns_spec.specs.CommandWords.{ZoneWords, AskToCheck, Transport, udp, tcp, ServiceAsked, by_lines, by_turns, service_words, HasTurns, AskToServe, SocketAsked, AskAtSocket}
use Rattle.dns_answer.specs.declared.reply.Limit.{Limit}
use Rattle.dns_answer.specs.declared.reply.Limit.TheVariants as limits
use Rattle.dns_tools.specs.Checked.{options_of}
use Rattle.dns_tools.specs.declared.arguments.Service.{Service}
use Rattle.dns_tools.specs.declared.arguments.Service.TheVariants.{Once, Udp, Tcp}
use Rattle.dns_tools.specs.declared.arguments.CheckWords.{CheckWords}
use Rattle.dns_tools.specs.declared.arguments.ServeWords.{ServeWords}
use Rattle.dns_tools.specs.declared.arguments.SocketWords.{SocketWords}
use Rattle.dns_tools.specs.declared.stop.FaultText.{FaultText}
use Rattle.dns_tools.specs.declared.stop.FaultText.TheVariants.{Usage, BadOrigin, NoMemory}

-- the diagnostics for refused arguments
abbrev pub is_argument_fault : FaultText → Bool
is_argument_fault Usage = true
is_argument_fault BadOrigin = true
is_argument_fault NoMemory = true
is_argument_fault _ = false

-- the diagnostics that are possible before ORIGIN is read
abbrev pub IsRefusal : FaultText → Type 0
IsRefusal fault = (fault ≡ Usage) ⊎ (fault ≡ NoMemory)

-- the name that ORIGIN spells, relative to the root, in lower case
pub record IsOrigin (word : Octets) (origin : DomainName) : Type 0 where
  pub as_spelled : DomainName
  pub spelled : SpellsName [] word as_spelled
  pub lower : origin ≡ folded as_spelled

-- ORIGIN spells no name
abbrev pub IsNoOrigin : Octets → Type 0
IsNoOrigin word = (n : DomainName) → SpellsName [] word n → ⊥

-- the arguments ask for this zone: `Ask` holds for this FILE and for some ORIGIN that spells the
-- name
pub record IsCall (Ask : ZoneWords → Type 0) (name : DomainName) (file : Octets) : Type 0 where
  pub origin : Octets
  pub asked : Ask (record { origin = origin; file = file })
  pub origin_is : IsOrigin origin name

-- the arguments ask for something, but their ORIGIN is not a name
pub record HasBadOrigin {A : Type 0} (Ask : A → ZoneWords → Type 0) : Type 0 where
  pub meant : A
  pub zone : ZoneWords
  pub asked : Ask meant zone
  pub bad : IsNoOrigin zone.origin

-- the arguments ask for nothing
abbrev pub AskNothing : {A : Type 0} → (A → ZoneWords → Type 0) → Type 0
AskNothing {A} Ask = (a : A) (z : ZoneWords) → Ask a z → ⊥

-- the arguments ask the checker for this call
abbrev pub IsCheckCall : List Octets → CheckWords → Type 0
IsCheckCall words call = IsCall (AskToCheck words (options_of call.flags)) call.origin call.file.now

abbrev pub transport_of : Limit → Transport
transport_of limits.Udp = udp
transport_of limits.Tcp = tcp

-- the arguments after `once`
abbrev pub limit_words : Transport → List Octets
limit_words udp = []
limit_words tcp = codes "--tcp" ∷ []

-- the service that the parsed arguments ask for
abbrev pub service_of : Service → ServiceAsked
service_of (Once limit) = by_lines (transport_of limit)
service_of (Udp address turns) = by_turns udp address.now turns
service_of (Tcp address turns) = by_turns tcp address.now turns

-- the arguments before ORIGIN and FILE ask for this service
pub record IsService (front : List Octets) (a : ServiceAsked) : Type 0 where
  pub words : front ≡ service_words a
  pub turns : HasTurns a

abbrev pub IsServeCall : List Octets → ServeWords → Type 0
IsServeCall words call =
    IsCall (AskToServe words (service_of call.service)) call.origin call.file.now

-- what the parsed arguments ask the server of a given socket for, and that the arguments do so
abbrev pub socket_asked : SocketWords → SocketAsked
socket_asked call = record { transport = transport_of call.transport; turns = call.turns }

abbrev pub IsSocketCall : List Octets → SocketWords → Type 0
IsSocketCall words call =
    IsCall (AskAtSocket words (socket_asked call)) call.origin call.file.now
