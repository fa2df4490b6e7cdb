-- What connections have received and sent, and when they were served.
use Rattle.std.specs.Prelude.{⊤, ◌≡◌, ℕ, ◌+◌, ◌-◌, ◌==◌, List, [], ◌++◌, length, take, All, Bool, true, false}
use Rattle.std.specs.Prelude.{Option, Result, Ok, Err, MatchOption}
use Rattle.std.specs.Option.{option_map, option_to_list}
use Rattle.dns_spec.specs.Names.{Octets}
use Rattle.dns_spec.specs.Records.{ZoneContents}
use Rattle.dns_spec.specs.Stream.{frames, replies}
use Rattle.dns_serve.specs.Framing.{SessionState, HasTaken}
use Rattle.dns_serve.specs.Streams.{reply_over_tcp}

-- The octets that the server has received on a connection, and those that it has sent; and whether
-- the input is over: the last call that did not fail received no octet.
pub record Exchange : Type 0 where
  pub received : Octets
  pub sent : Octets
  pub over : Bool

-- a call received the first n octets of a buffer; if it failed, nothing
abbrev pub Receives : {E : Type 0} → Option Exchange → Option Exchange → Result ℕ E → Octets → Type 0
Receives old new (Ok n) buf = new ≡ option_map (λ e. record {
  received = e.received ++ take n buf;
  sent = e.sent;
  over = n == 0;
}) old
Receives old new (Err e) buf = new ≡ old

-- a call sent the first n of the octets; if it failed, none
abbrev pub Sends : {E : Type 0} → Option Exchange → Option Exchange → Result ℕ E → Octets → Type 0
Sends old new (Ok n) octets = new ≡ option_map (λ e. record {
  received = e.received;
  sent = e.sent ++ take n octets;
  over = e.over;
}) old
Sends old new (Err e) octets = new ≡ old

-- nothing was received or sent
abbrev pub IsFresh : Option Exchange → Type 0
IsFresh e = MatchOption e ⊤ (λ e. e ≡ record { received = []; sent = []; over = false })

-- A session has taken all octets received, except the pending ones at their end. Once the input is
-- over, none are pending, and all replies were sent.
pub record Serves (z : ZoneContents) (most : ℕ) (s : SessionState) (pending : Octets)
    (e : Exchange) : Type 0 where
  pub taken : Octets
  pub split : e.received ≡ taken ++ pending
  pub has_taken : HasTaken z most s taken e.sent
  pub ends : e.over ≡ true → (pending ≡ []) × (s.unsent ≡ [])

abbrev pub IsServing : ZoneContents → ℕ → SessionState → Octets → Option Exchange → Type 0
IsServing z most s pending e = MatchOption e ⊤ (Serves z most s pending)

-- RFC 1035 4.2.2: What was sent is a prefix of the replies to the messages of the frames received,
-- at most `most`. Once the input is over, it is all of these replies.
pub record WasServed (z : ZoneContents) (most : ℕ) (e : Exchange) : Type 0 where
  pub prefix : e.sent ≡ take (length e.sent) (replies (reply_over_tcp z) (frames most e.received))
  pub all : e.over ≡ true → e.sent ≡ replies (reply_over_tcp z) (frames most e.received)

abbrev pub IsServed : ZoneContents → ℕ → Option Exchange → Type 0
IsServed z most e = MatchOption e ⊤ (WasServed z most)

-- The number of connections that were accepted and not closed yet, and the exchanges of those that
-- were closed, in order, if they are known.
pub record SocketsState : Type 0 where
  pub connected : ℕ
  pub closed : List Exchange

-- a call accepted one connection more, unless it failed
abbrev pub accepted : {A E : Type 0} → Result A E → SocketsState → SocketsState
accepted (Ok a) s = record { connected = s.connected + 1; closed = s.closed }
accepted (Err e) s = s

-- one of the connections was closed, after this exchange
abbrev pub closed : Option Exchange → SocketsState → SocketsState
closed e s = record { connected = s.connected - 1; closed = s.closed ++ option_to_list e }

-- more exchanges have ended; each was served from the zone
pub record HasClosed (z : ZoneContents) (most : ℕ) (old new : List Exchange) : Type 0 where
  pub more : List Exchange
  pub closed : new ≡ old ++ more
  pub served : All (WasServed z most) more

-- Each connection that was accepted was closed, and served from the zone: at most `most` of its
-- messages were answered.
pub record HasServed (z : ZoneContents) (most : ℕ) (old new : SocketsState) : Type 0 where
  pub closed : HasClosed z most old.closed new.closed
  pub connected : new.connected ≡ old.connected
