-- A list of faults as the code keeps it, and what the faults of a text are.
use Rattle.std.specs.Prelude.{◌≡◌, ◌≤◌, ◌⊎◌, Bool, List, [], ◌∷◌, ◌++◌, length, map, take, nat_lt, Option, if◌then◌else◌}
use Rattle.std.specs.Io.KnownBytes.{Consumes, IsAtEnd}
use Rattle.dns_spec.specs.Names.{Octets, DomainName}
use Rattle.dns_spec.specs.ZoneText.{Entry}
use Rattle.dns_spec.specs.Records.{ResourceRecord}
use Rattle.dns_spec.specs.Meaning.{most_records}
use Rattle.dns_spec.specs.EntryPlaces.{PlacedEntry, entries_to_end}
use Rattle.dns_spec.specs.AllFaults.{EntryFault, EntriesGive, AllFaults, most_listed}
use Rattle.dns_master.specs.EarlierForm.{LooksBack}
use Rattle.dns_master.specs.ListingForm.{placed, shown_fault}
use Rattle.dns_master.specs.declared.earlier.Earlier.{Earlier}
use Rattle.dns_master.specs.declared.scanned.ScannedEntry.{ScannedEntry}
use Rattle.dns_master.specs.declared.listing.Listing.{Listing}
use Rattle.dns_master.specs.declared.listing.FaultList.{FaultList}

-- the list has the first of these faults, and says whether there are more
pub record IsList (list : FaultList) (found : List EntryFault) : Type 0 where
  pub faults : map shown_fault list.faults.items ≡ take most_listed found
  pub more : list.has_more ≡ nat_lt most_listed (length found)

-- all faults of a text were listed, and the records of its other entries were added
pub record ListsText (o : DomainName) (text : Octets) (list : FaultList)
    (before after : List ResourceRecord) : Type 0 where
  pub found : List EntryFault
  pub given : List ResourceRecord
  pub are : AllFaults o text found given
  pub listed : IsList list found
  pub grown : after ≡ before ++ given
  pub few : length given ≤ most_records

-- the faults of the entries so far, with those of the entries `es` after them, are all faults
pub record ListedSoFar (o : DomainName) (octets past : Octets) (k : Earlier)
    (es : List PlacedEntry) (list : FaultList) (before now : List ResourceRecord) : Type 0 where
  pub earlier : List Entry
  pub known : LooksBack o earlier k
  pub found : List EntryFault
  pub given : List ResourceRecord
  pub listed : IsList list found
  pub grown : now ≡ before ++ given
  pub goes_on : (more : List EntryFault) (rs : List ResourceRecord)
      → EntriesGive o earlier es more rs
      → EntriesGive o [] (entries_to_end octets past) (found ++ more) (given ++ rs)

-- An entry was taken: its fault is listed, or its records were added. If reading doesn't go on, no
-- further entry counts.
abbrev pub TakesEntry : Listing → ScannedEntry → List ResourceRecord → Listing
    → List ResourceRecord → Bool → Type 0
TakesEntry old s now new now' goes_on =
    (o : DomainName) (octets past : Octets) (es : List PlacedEntry) (before : List ResourceRecord)
    → ListedSoFar o octets past old.earlier (placed s ∷ es) old.list before now
    → ListedSoFar o octets past new.earlier (if goes_on then es else []) new.list before now'

-- a source was read to its end, or up to one octet past the limit
pub record ReadsOctets (old new : Option Octets) (text : Octets) : Type 0 where
  pub consumed : Consumes old new text
  pub whole : IsAtEnd new ⊎ (length text ≡ 16777217)
