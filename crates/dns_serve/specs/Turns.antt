-- The effect of receiving and sending a datagram on a device's lists of datagrams, and the effect
-- of a turn.
use Rattle.std.specs.Prelude.{⊤, ◌≡◌, ℕ, ◌≤◌, List, [], ◌∷◌, ◌++◌, take}
use Rattle.std.specs.Prelude.{Option, None, Some, Result, Ok, Err, Bool, true}
use Rattle.std.specs.Option.{is_some, option_to_list}
use Rattle.dns_spec.specs.Names.{Octets}
use Rattle.dns_spec.specs.Records.{ZoneContents}
use Rattle.dns_spec.specs.Query.{most_over_udp}
use Rattle.dns_spec.specs.Reply.{octets_of}
use Rattle.dns_serve.specs.declared.turn_fault.TurnFault.{TurnFault}
use Rattle.dns_serve.specs.declared.turn_fault.TurnFault.TheVariants.{ReceiveFailed, SendFailed}

-- a device's list of datagrams, if it is known, grew by the datagrams ds
abbrev pub Grows : Option (List Octets) → Option (List Octets) → List Octets → Type 0
Grows None new ds = ⊤
Grows (Some xs) None ds = ⊥
Grows (Some xs) (Some ys) ds = ys ≡ xs ++ ds

-- a device's list of datagrams, if it is known, did not change
abbrev pub KeepsAll : Option (List Octets) → Option (List Octets) → Type 0
KeepsAll old new = Grows old new []

-- RFC 1035 4.2.1: a datagram was received, and its first 512 octets are the first n in the buffer;
-- if the call failed, nothing was received.
pub record IsHanded (old new : Option (List Octets)) (n : ℕ) (buf : Octets) : Type 0 where
  pub datagram : Octets
  pub handed : Grows old new (datagram ∷ [])
  pub kept : take n buf ≡ take most_over_udp datagram
  pub within : n ≤ most_over_udp

abbrev pub Hands : {E : Type 0} → Option (List Octets) → Option (List Octets) → Result ℕ E → Octets
    → Type 0
Hands old new (Ok n) buf = IsHanded old new n buf
Hands old new (Err e) buf = KeepsAll old new

-- a datagram was sent; nothing is claimed if the call failed
abbrev pub Sends : {A E : Type 0} → Option (List Octets) → Option (List Octets) → Result A E
    → Octets → Type 0
Sends old new (Ok a) reply = Grows old new (reply ∷ [])
Sends old new (Err e) reply = ⊤

-- the reply of a zone over UDP, of at most 512 octets (RFC 1035 4.2.1)
abbrev pub reply_over_udp : ZoneContents → Octets → Option Octets
reply_over_udp z d = octets_of z d most_over_udp

-- the datagrams that a device had received and sent, before and after a turn
pub record Turn : Type 0 where
  pub had : Option (List Octets)
  pub has : Option (List Octets)
  pub sent : Option (List Octets)
  pub has_sent : Option (List Octets)

-- the turn of a device, from its lists before and after
abbrev pub turn : {D : Type 0} → (D → Option (List Octets)) → (D → Option (List Octets)) → D → D
    → Turn
turn received sent device device_then = record {
  had = received device;
  has = received device_then;
  sent = sent device;
  has_sent = sent device_then;
}

-- one datagram was received, and its reply was sent, if it gets one
pub record IsTurn (z : ZoneContents) (t : Turn) (replied : Bool) : Type 0 where
  pub datagram : Octets
  pub received : Grows t.had t.has (datagram ∷ [])
  pub answered : Grows t.sent t.has_sent (option_to_list (reply_over_udp z datagram))
  pub replied_is : replied ≡ is_some (reply_over_udp z datagram)

-- one datagram was received that gets a reply, and sending the reply failed
pub record IsUnsent (z : ZoneContents) (t : Turn) : Type 0 where
  pub datagram : Octets
  pub received : Grows t.had t.has (datagram ∷ [])
  pub due : is_some (reply_over_udp z datagram) ≡ true

-- what a turn has done, by its result
abbrev pub TurnOf : ZoneContents → Turn → Result Bool TurnFault → Type 0
TurnOf z t (Ok replied) = IsTurn z t replied
TurnOf z t (Err ReceiveFailed) = KeepsAll t.had t.has × KeepsAll t.sent t.has_sent
TurnOf z t (Err SendFailed) = IsUnsent z t
