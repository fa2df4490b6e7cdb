-- What a frame and a session hold of the octets that they have taken.
use Rattle.std.specs.Prelude.{◌≡◌, ℕ, ◌+◌, ◌-◌, ◌≤◌, ◌<◌, ◌^◌, ◌⊎◌, List, [], ◌++◌, All, length, take, nat_le, None, if◌then◌else◌}
use Rattle.std.specs.List.{flat_map}
use Rattle.dns_spec.specs.Names.{Octets}
use Rattle.dns_spec.specs.Records.{ZoneContents}
use Rattle.dns_spec.specs.Reading.{field16}
use Rattle.dns_spec.specs.Stream.{frame, first_frame, replies}
use Rattle.dns_serve.specs.Streams.{reply_over_tcp}

-- how many octets of a frame have come, and the first 514 of them
pub record FrameState : Type 0 where
  pub came : ℕ
  pub kept : Octets

-- how many octets of the length are missing, or, once it has come, how many of the message
abbrev pub missing_of : FrameState → ℕ
missing_of f = if nat_le 2 f.came then 2 + field16 f.kept 0 - f.came else 2 - f.came

-- The octets x of a stream have come. They are at most one frame.
pub record HasCome (f : FrameState) (x : Octets) : Type 0 where
  pub came : f.came ≡ length x
  pub kept : f.kept ≡ take 514 x
  pub within : 2 ≤ length x → length x ≤ 2 + field16 x 0
  pub low : All (λ o. o < 256) x

-- The frame that is arriving; the octets of replies that were not sent; how many octets of replies
-- are held, also those that were sent; and how many more messages are answered.
pub record SessionState : Type 0 where
  pub frame : FrameState
  pub unsent : Octets
  pub held : ℕ
  pub left : ℕ

-- nothing was taken, nothing is to be sent, and `most` messages are answered
pub record IsNew (most : ℕ) (s : SessionState) : Type 0 where
  pub frame : HasCome s.frame []
  pub unsent : s.unsent ≡ []
  pub held : s.held ≡ 0
  pub left : s.left ≡ most

-- RFC 1035 4.2.2: The octets x of a stream were taken. They are whole frames, then a part of the
-- next frame. What was sent, followed by what is unsent, is the replies to the messages of the
-- whole frames. At most `most` messages are answered.
pub record HasTaken (z : ZoneContents) (most : ℕ) (s : SessionState) (x sent : Octets) : Type 0
  where
    pub messages : List Octets
    pub part : Octets
    pub octets : x ≡ flat_map frame messages ++ part
    pub short : All (λ m. length m < 2 ^ 16) messages
    pub no_frame : first_frame part ≡ None
    pub has_come : HasCome s.frame part
    pub replied : sent ++ s.unsent ≡ replies (reply_over_tcp z) messages
    pub count : length messages + s.left ≡ most

-- the rest is the end of the octets
pub record IsEndOf (rest octets : Octets) : Type 0 where
  pub front : Octets
  pub split : octets ≡ front ++ rest

-- More octets were offered, and the first of them were taken. If any are left, there is no room for
-- them, since more than 16,384 octets of replies are held, or no more messages are answered. At
-- most 81,921 octets are ever held, 16,384 and one frame. The new replies are held, and no more.
pub record TakesMore (z : ZoneContents) (most : ℕ) (old new : SessionState)
    (x sent octets rest : Octets) : Type 0 where
  pub taken : Octets
  pub split : octets ≡ taken ++ rest
  pub has_taken : HasTaken z most new (x ++ taken) sent
  pub bound : new.held ≤ 81921
  pub held : new.held + length old.unsent ≡ old.held + length new.unsent
  pub over : (rest ≡ []) ⊎ ((16384 < new.held) ⊎ (new.left ≡ 0))
