-- The effect of several turns at a device, one after another.
use Rattle.std.specs.Prelude.{◌≡◌, ◌≤◌, ◌⊎◌, ℕ, zero, suc, List, Option, Result, Bool, true}
use Rattle.dns_spec.specs.Names.{Octets}
use Rattle.dns_spec.specs.Records.{ZoneContents}
use Rattle.dns_name.specs.Counted.{failures_after}
use Rattle.dns_serve.specs.Turns.{TurnOf}
use Rattle.dns_serve.specs.declared.turn_fault.TurnFault.{TurnFault}

-- The datagrams that a device has received and sent, if they are known, and the number of its
-- failed calls.
pub record DeviceState : Type 0 where
  pub received : Option (List Octets)
  pub sent : Option (List Octets)
  pub failures : ℕ

-- one turn with some outcome; a failed turn is one failure
pub record TakesTurn (z : ZoneContents) (old new : DeviceState) : Type 0 where
  pub outcome : Result Bool TurnFault
  pub turn : TurnOf z (record {
    had = old.received;
    has = new.received;
    sent = old.sent;
    has_sent = new.sent;
  }) outcome
  pub counted : new.failures ≡ failures_after old.failures outcome

-- n turns, one after another
abbrev pub TakesTurns : ZoneContents → ℕ → DeviceState → DeviceState → Type 0
TakesTurns z zero old new = new ≡ old
TakesTurns z (suc n) old new = (mid : DeviceState) × TakesTurns z n old mid × TakesTurn z mid new

-- n turns were taken, one after another, or fewer, if the server was asked to end
pub record EndsTurns (z : ZoneContents) (n : ℕ) (over : Bool) (old new : DeviceState) : Type 0 where
  pub taken : ℕ
  pub turns : TakesTurns z taken old new
  pub most : taken ≤ n
  pub all : (taken ≡ n) ⊎ (over ≡ true)
