-- What contracts state about a bound UDP socket.
use Rattle.std.specs.Prelude.{ℕ, Bool}

-- The number of failed calls; whether there is a sender to reply to; and whether the server was asked
-- to end.
pub record SocketState : Type 0 where
  pub failures : ℕ
  pub has_sender : Bool
  pub over : Bool
