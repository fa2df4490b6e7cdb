-- Places in a text, as the definitions have them.
use Rattle.dns_spec.specs.EntryPlaces as places
use Rattle.dns_master.specs.declared.place.Span.{Span}

-- a place, as the definitions have it
abbrev pub shown_place : Span → places.Span
shown_place p = record { begins = p.begins; ends = p.ends }
