-- When a builder has written a reply to which sets were offered, and how offering sets changes it.
use Rattle.std.specs.Prelude.{◌≡◌, Bool, List}
use Rattle.std.specs.Prelude.{Some}
use Rattle.dns_spec.specs.Layout.{Item}
use Rattle.dns_wire.specs.PartialMessage as wire
use Rattle.dns_wire.specs.PartialMessage.{IsPartial}
use Rattle.dns_wire.specs.QuickNumbers.{quick_number}
use Rattle.dns_answer.specs.OfferedReply as spec
use Rattle.dns_answer.specs.OfferedReply.{offered}

-- a builder: what is written of the reply, and whether a set did not fit
pub record State : Type 0 where
  pub message : wire.PartialMessage
  pub full : Bool

-- the builder has written this reply
pub record Holds (w : State) (d : spec.OfferedReply) : Type 0 where
  pub written : IsPartial quick_number (Some d.question) d.kept w.message
  pub limit : w.message.limit ≡ d.limit
  pub full : w.full ≡ d.full

-- From w to w', these sets are offered, in order.
pub record Offers (w w' : State) (is : List Item) : Type 0 where
  pub builder : (d : spec.OfferedReply) → Holds w d → Holds w' (offered d is)
  pub limit : w'.message.limit ≡ w.message.limit
