-- How a reply changes while one set after another is offered to it.
use Rattle.std.specs.Prelude.{ℕ, Bool, true, false, List, [], ◌∷◌, ◌++◌, nat_le, if◌then◌else◌}
use Rattle.std.specs.Prelude.{Some}
use Rattle.dns_spec.specs.Reading.{MessageQuestion}
use Rattle.dns_spec.specs.Layout.{Item}
use Rattle.dns_spec.specs.LayoutSize.{size}

-- A reply to a question while sets are offered to it: the sets that it contains, and whether some
-- set did not fit. After a set that did not fit, no set is tried.
pub record OfferedReply : Type 0 where
  pub question : MessageQuestion
  pub limit : ℕ
  pub kept : List Item
  pub full : Bool

-- the reply to a question before the first set
abbrev pub empty_reply : MessageQuestion → ℕ → OfferedReply
empty_reply q limit = record { question = q; limit = limit; kept = []; full = false }

-- the size of a reply with these sets
abbrev pub size_with : MessageQuestion → List Item → ℕ
size_with q sets = size (Some q) sets

-- a set is added if it fits and no earlier set was left out
abbrev pub offer : OfferedReply → Item → OfferedReply
offer d i =
    let next = d.kept ++ i ∷ [] in
    if d.full then d
    else if nat_le (size_with d.question next) d.limit then record d { kept = next }
    else record d { full = true }

unfoldable pub offered : OfferedReply → List Item → OfferedReply
offered d [] = d
offered d (i ∷ is) = offered (offer d i) is
