-- What a writer has written of a message so far.
use Rattle.std.specs.Prelude.{⊤, ◌≡◌, ◌↔◌, ℕ, ◌+◌, ◌*◌, ◌<◌, ◌≤◌, ◌^◌, Bool, List, [], ◌∷◌, ◌++◌, length, min, replicate, if◌then◌else◌, Option, IfSome, IsTrue}
use Rattle.std.specs.Bool.{OnTrue}
use Rattle.std.specs.Option.{option_to_list}
use Rattle.dns_spec.specs.Names.{Octets, DomainName}
use Rattle.dns_spec.specs.Sets.{RecordSet, records_at}
use Rattle.dns_spec.specs.Reading.{MessageQuestion}
use Rattle.dns_spec.specs.Layout as Messages
use Rattle.dns_spec.specs.Layout.{Item, Placed, Laid, records_of, in_section, is_section, asked_octets, asked_placed, answer, authority, additional}
use Rattle.dns_spec.specs.Laws.{IsAskable}
use Rattle.dns_wire.specs.Kept.{Kept}
use Rattle.dns_wire.specs.SuffixNumbers.{suffix_number}
use Rattle.dns_wire.specs.Writing.{IsAsked, asked_offsets, Holds, Follows, Layout, records_laid}
use Rattle.dns_wire.specs.declared.message.Counts.{Counts}
use Rattle.dns_wire.specs.declared.message_builder.Section.{Section}
use Rattle.dns_wire.specs.declared.message_builder.Section.TheVariants.{Answer, Authority, Additional}

abbrev pub section_of : Section → Messages.Section
section_of Answer = answer
section_of Authority = authority
section_of Additional = additional

-- k if the two sections are the same, else 0
abbrev pub counted : Messages.Section → Section → ℕ → ℕ
counted s section k = if is_section s (section_of section) then k else 0

-- the counts after adding k records to a section
abbrev pub with_counted : Counts → Section → ℕ → Counts
with_counted n section k = record {
  questions = n.questions;
  answers = n.answers + counted answer section k;
  authorities = n.authorities + counted authority section k;
  additionals = n.additionals + counted additional section k;
}

-- the counts of a message with this question and these sets
abbrev pub counts_of : Option MessageQuestion → List Item → Counts
counts_of q items = record {
  questions = length (option_to_list q);
  answers = length (in_section answer items);
  authorities = length (in_section authority items);
  additionals = length (in_section additional items);
}

-- the records of a set at an owner, in a section of a message
abbrev pub item_of : Section → DomainName → ℕ → RecordSet → Item
item_of section owner ttl set =
    record { section = section_of section; records = records_at owner ttl set }

-- the sets so far, followed by this set
abbrev pub with_set : List Item → Section → DomainName → ℕ → RecordSet → List Item
with_set items section owner ttl set = items ++ item_of section owner ttl set ∷ []

-- a message being written: its limit, its octets, which begin with room for a header, the offset
-- where its question's name ends, the offsets kept of names after the question, and the counts for
-- its header
pub record PartialMessage : Type 0 where
  pub limit : ℕ
  pub octets : Octets
  pub asked_end : ℕ
  pub kept : List Kept
  pub counts : Counts

abbrev pub partial_of : ℕ → Octets → ℕ → List Kept → Counts → PartialMessage
partial_of limit octets asked_end kept counts =
    record { limit = limit; octets = octets; asked_end = asked_end; kept = kept; counts = counts }

-- the empty message: only room for a header
abbrev pub empty_message : ℕ → PartialMessage
empty_message limit = record {
  limit = limit;
  octets = replicate 12 0;
  asked_end = 12;
  kept = [];
  counts = record { questions = 0; answers = 0; authorities = 0; additionals = 0 };
}

-- the offsets of the suffixes of the question's name, and those kept of later names
abbrev pub known_offsets : (Octets → ℕ) → PartialMessage → List Kept
known_offsets number d = asked_offsets number d.octets d.asked_end ++ d.kept

-- the message so far, with more octets at its end
abbrev pub with_octets : PartialMessage → Octets → PartialMessage
with_octets d o = record d { octets = d.octets ++ o }

-- the message so far has the names `ms`, and its offsets are kept with numbers that use this hash
abbrev pub HasNames : PartialMessage → (Octets → ℕ) → List Placed → Type 0
HasNames d head ms = Holds (suffix_number head) ms d.octets (known_offsets (suffix_number head) d)

-- What a step of writing preserves: octets and offsets are only appended, and everything else is as
-- it was.
pub record Grows (old new : PartialMessage) : Type 0 where
  pub octets : Follows old.octets new.octets
  pub kept : Follows old.kept new.kept
  pub asked : new.asked_end ≡ old.asked_end
  pub limit : new.limit ≡ old.limit
  pub counts : new.counts ≡ old.counts

-- What is laid out after the names `ms` is written if and only if it fits the limit. Its names can
-- then be shared too, like those in `ms`. That stays true if the earlier octets are replaced by as
-- many others that spell `ms`.
pub record IsWritten (number : Octets → ℕ) (ms : List Placed) (old new : PartialMessage) (laid : Laid)
    (fits : Bool) : Type 0 where
  pub exactly : IsTrue fits ↔ (length (old.octets ++ laid.written) ≤ old.limit)
  pub written : OnTrue fits (new.octets ≡ old.octets ++ laid.written)
  pub stands : OnTrue fits ((x : Octets) → length x ≡ length old.octets
      → Holds number ms x (known_offsets number old)
      → Holds number (ms ++ laid.names) (x ++ laid.written) (known_offsets number new))

-- A step that writes what `layout` gives after the names so far, provided that `known` holds for
-- them. The caller's hash gives the same numbers before and after the step.
pub record WritesAfter (known : List Placed → Type 0) (head head' : Octets → ℕ) (old new : PartialMessage)
    (layout : Layout) (fits : Bool) : Type 0 where
  pub grows : Grows old new
  pub same : head' ≡ head
  pub written : (ms : List Placed) → HasNames old head ms → known ms
      → IsWritten (suffix_number head) ms old new (layout ms (length old.octets)) fits

-- a step that writes what the layout gives after the names so far, whatever they are
abbrev pub Writes : (Octets → ℕ) → (Octets → ℕ) → PartialMessage → PartialMessage → Layout → Bool → Type 0
Writes = WritesAfter (λ ms. ⊤)

-- the names of the records so far, with their offsets
abbrev pub names_so_far : Option MessageQuestion → List Item → List Placed
names_so_far q items =
    asked_placed q
    ++ (records_laid (records_of items) (asked_placed q) (12 + length (asked_octets q))).names

-- The message so far is this question and these sets, laid out, and the question fits its fields.
pub record IsPartial (head : Octets → ℕ) (q : Option MessageQuestion) (items : List Item)
    (d : PartialMessage) : Type 0 where
  pub written : d.octets
      ≡ replicate 12 0 ++ asked_octets q
      ++ (records_laid (records_of items) (asked_placed q) (12 + length (asked_octets q))).written
  pub holds : HasNames d head (names_so_far q items)
  pub counts : d.counts ≡ counts_of q items
  pub askable : IfSome q IsAskable

-- What always holds for a builder with room for N offsets and `size` octets. Its limit is at most
-- `size`, and any question fits within it. The message never has more records than octets.
pub record IsWellKept (N size : ℕ) (d : PartialMessage) : Type 0 where
  pub least : 512 ≤ d.limit
  pub within : length d.octets ≤ d.limit
  pub fits : d.limit ≤ size
  pub short : d.limit < 2 ^ 16
  pub few : 2 * length d.kept ≤ length d.octets
  pub enough : min size 16384 ≤ 2 * N
  pub most : N ≤ 8192
  pub asked : IsAsked d.octets d.asked_end
  pub header : 12 ≤ length d.octets
  pub counts_fit : d.counts.answers + d.counts.authorities + d.counts.additionals ≤ length d.octets
