-- The layout as it would be if a pointer reached every place. This file may be skipped: a law
-- states that this layout and the real one are the same up to 16,384 octets.
use Rattle.std.specs.Prelude.{ℕ, ◌+◌, List, ◌++◌, length}
use Rattle.std.specs.Prelude.{Option}
use Rattle.dns_spec.specs.Names.{Octets}
use Rattle.dns_spec.specs.Reading.{Header, MessageQuestion}
use Rattle.dns_spec.specs.Layout.{Item, records_of, place_of, records_by, asked_octets, asked_placed, reply_header}
use Rattle.dns_spec.specs.LayoutSize.{size_by}

-- each name shares the longest suffix that an earlier name has, at any place
unfoldable pub unbounded_layout : Header → Option MessageQuestion → List Item → Octets
unbounded_layout h q items =
    reply_header h q items ++ asked_octets q
    ++ records_by place_of (asked_placed q) (12 + length (asked_octets q)) (records_of items)

-- the size of this layout in octets
unfoldable pub unbounded_size : Option MessageQuestion → List Item → ℕ
unbounded_size = size_by place_of
