-- The size of a layout in octets, whatever its header.
use Rattle.std.specs.Prelude.{ℕ, ◌+◌, List, length}
use Rattle.std.specs.Prelude.{Option}
use Rattle.dns_spec.specs.Reading.{MessageQuestion}
use Rattle.dns_spec.specs.Layout.{Item, Lookup, records_of, records_by, shared_place, asked_octets, asked_placed}

-- the size of the layout in which `find` gives the places of shared suffixes
abbrev pub size_by : Lookup → Option MessageQuestion → List Item → ℕ
size_by find q items =
    let from = 12 + length (asked_octets q) in
    from + length (records_by find (asked_placed q) from (records_of items))

-- the size of the layout
unfoldable pub size : Option MessageQuestion → List Item → ℕ
size = size_by shared_place
