-- The faults of a text as the code lists them, and the reading of one entry.
use Rattle.std.specs.Prelude.{◌≡◌, ℕ, ◌-◌, ◌≤◌, List, ◌∷◌, Option, length, false}
use Rattle.dns_spec.specs.Names.{Octets, DomainName}
use Rattle.dns_spec.specs.ZoneText.{Entry, entry_words}
use Rattle.dns_spec.specs.Records.{ResourceRecord}
use Rattle.dns_spec.specs.FileFaults.{FileFault, no_owner, too_many_records}
use Rattle.dns_spec.specs.Meaning.{Nothing, OriginIs}
use Rattle.dns_spec.specs.EntryPlaces.{PlacedToken, PlacedEntry, placed_entry, read_entry, empty_place, entries_from, entries_to_end}
use Rattle.dns_spec.specs.EntryPlaces as places
use Rattle.dns_spec.specs.AllFaults.{place_after, HasFault, GivesOwn, EntriesGive, most_listed}
use Rattle.dns_spec.specs.AllFaults as all
use Rattle.dns_master.specs.Codes.{fault_of}
use Rattle.dns_master.specs.EarlierForm.{LooksBack, Passed, handed}
use Rattle.dns_master.specs.EntryForm.{shown_ending}
use Rattle.dns_master.specs.PlaceForm.{shown_place}
use Rattle.dns_master.specs.declared.earlier.Earlier.{Earlier}
use Rattle.dns_master.specs.declared.scanned.EntryFault.{EntryFault}
use Rattle.dns_master.specs.declared.scanned.ScannedEntry.{ScannedEntry}
use Rattle.dns_master.specs.declared.scanned.Judged.{Judged}
use Rattle.dns_master.specs.declared.scanned.Judged.TheVariants.{Gives, Faulty}

-- the tokens of the entry that begins a text, and how reading the entry ends; `text` is the end of
-- the octets that are examined, `total` in number
abbrev pub entry_read : ℕ → Octets → List PlacedToken × places.Ending
entry_read total text = read_entry (length text) false (total - length text) text

-- this entry, if `past` follows the examined octets
abbrev pub entry_at : ℕ → Octets → Octets → PlacedEntry
entry_at total past text = placed_entry total past text (entry_read total text)

-- the entry that was read, as the definitions have it
abbrev pub placed : ScannedEntry → PlacedEntry
placed s = entry_at (length s.octets.now) s.past.now s.rest.now

-- The entry that begins `rest` was read: its words, and how reading it ends. `rest` is the end of
-- the examined octets of the file.
pub record IsScanned (s : ScannedEntry) : Type 0 where
  pub words_are : entry_words (placed s).entry ≡ s.words.now
  pub ending_is : (entry_read (length s.octets.now) s.rest.now).1 ≡ shown_ending s.ending
  pub short : length s.rest.now ≤ length s.octets.now
  pub few : length s.octets.now ≤ 16777216

-- the place of a fault that is not lexical, if `i` words precede the one at fault
abbrev pub spot_by : FileFault → ℕ → ScannedEntry → places.Span
spot_by no_owner i s = empty_place (length s.octets.now - length s.rest.now)
spot_by too_many_records i s = empty_place (length s.octets.now - length s.rest.now)
spot_by fault i s = place_after i (placed s)

-- a fault, as the definitions have it
abbrev pub shown_fault : EntryFault → all.EntryFault
shown_fault f =
    record {
      fault = fault_of f.code;
      number = f.number;
      place = shown_place f.place;
      entry = f.entry;
    }

-- a fault of an entry that was read
abbrev pub fault_in : ScannedEntry → FileFault → Option ℕ → places.Span → all.EntryFault
fault_in s fault number place =
    record { fault = fault; number = number; place = place; entry = (placed s).begins }

-- an entry has no fault, and gives these records
pub record EntryOwn (o : DomainName) (earlier : List Entry) (e : Entry)
    (rs : List ResourceRecord) : Type 0 where
  pub given : GivesOwn o earlier e rs
  pub origin : Nothing (OriginIs o (e ∷ earlier)) → ⊥

-- what an entry gives, or its fault, after any earlier entries that lead to `k`; its record, if it
-- gives one, is `last`
abbrev pub Judges : Earlier → PlacedEntry → ResourceRecord → Judged → Type 0
Judges k e last (Gives is_record) =
    (o : DomainName) (earlier : List Entry) → LooksBack o earlier k
    → EntryOwn o earlier e.entry (handed is_record last)
Judges k e last (Faulty f) =
    (o : DomainName) (earlier : List Entry) → LooksBack o earlier k
    → HasFault o earlier e (shown_fault f)

-- an entry that was read is passed, after any earlier entries that lead to `old`
abbrev pub PassesEntry : Earlier → ScannedEntry → Earlier → Type 0
PassesEntry old s new =
    IsScanned s → (o : DomainName) (earlier : List Entry) → LooksBack o earlier old
    → Passed o earlier (placed s).entry new
