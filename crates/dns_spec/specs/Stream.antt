-- Which messages a stream contains, each after its length, and what is written in reply to them.
use Rattle.std.specs.Prelude.{◌≡◌, ℕ, zero, suc, ◌+◌, ◌^◌, ◌<◌, Bool, List, [], ◌∷◌, ◌++◌, length, take, drop, nat_le, if◌then◌else◌}
use Rattle.std.specs.Prelude.{Option, None, Some}
use Rattle.std.specs.List.{flat_map}
use Rattle.dns_spec.specs.Names.{Octets}
use Rattle.dns_spec.specs.Reading.{field16}
use Rattle.dns_spec.specs.Layout.{octets16}

-- RFC 1035 4.2.2: over TCP a message follows its length in two octets
abbrev pub frame : Octets → Octets
frame m = octets16 (length m) ++ m

-- the octets begin with a whole frame
abbrev pub has_frame : Octets → Bool
has_frame x = nat_le (2 + field16 x 0) (length x)

-- the message of the first frame, and the octets after that frame
unfoldable pub first_frame : Octets → Option (Octets × Octets)
first_frame x =
    let n = field16 x 0 in
    if has_frame x then Some (take n (drop 2 x), drop n (drop 2 x)) else None

-- the messages of the first k of the whole frames with which the octets begin, or of all of them if
-- they are fewer than k; and the octets after these frames
unfoldable pub frames : ℕ → Octets → List Octets
frames zero x = []
frames (suc k) x = elim (first_frame x) [ None ↦ [] | Some r ↦ r.0 ∷ frames k r.1 ]

unfoldable pub after_frames : ℕ → Octets → Octets
after_frames zero x = x
after_frames (suc k) x = elim (first_frame x) [ None ↦ x | Some r ↦ after_frames k r.1 ]

-- The octets are a prefix of a frame, neither empty nor the whole frame: a stream that ends with
-- these octets was cut short.
pub record IsCutFrame (x : Octets) : Type 0 where
  pub message : Octets
  pub short : length message < 2 ^ 16
  pub missing : Octets
  pub whole : frame message ≡ x ++ missing
  pub some : 0 < length x
  pub cut : 0 < length missing

-- the frame of a reply; nothing for a message that gets no reply
abbrev pub reply_frame : Option Octets → Octets
reply_frame None = []
reply_frame (Some r) = frame r

-- what is written in reply to messages; `reply` gives the reply to each
abbrev pub replies : (Octets → Option Octets) → List Octets → Octets
replies reply = flat_map (λ m. reply_frame (reply m))
