-- What reading an entry finds.
use Rattle.std.specs.Prelude.{◌≡◌, ℕ, ◌+◌, ◌≤◌, Option, Bool, true, false, ◌&&◌, not, List, length, map, take, None}
use Rattle.std.specs.List.{filter, filter_map}
use Rattle.std.specs.Option.{unwrap_or}
use Rattle.dns_spec.specs.Names.{Octets}
use Rattle.dns_spec.specs.DataText.{Word}
use Rattle.dns_spec.specs.ZoneText.{Token, is_line_end, open_after, word_of, extent_by}
use Rattle.dns_spec.specs.EntryPlaces.{PlacedToken, after_line, at_parenthesis, at_stop, is_misplaced, read_entry, ending_fault}
use Rattle.dns_spec.specs.EntryPlaces as places
use Rattle.dns_master.specs.declared.entry.Ending.{Ending}
use Rattle.dns_master.specs.declared.entry.Ending.TheVariants.{AfterLine, AtParenthesis, AtStop}
use Rattle.dns_master.specs.declared.entry.Step.{Step}
use Rattle.dns_master.specs.declared.entry.Step.TheVariants.{Misplaced, Over, Onward}

-- the step after a token that is read inside (true) or outside parentheses
abbrev pub StepIs : Bool → Token → Step → Type 0
StepIs is_open p Misplaced = is_misplaced is_open p ≡ true
StepIs is_open p Over = (is_misplaced is_open p ≡ false) × ((is_line_end p && not is_open) ≡ true)
StepIs is_open p (Onward now_open) =
    (is_misplaced is_open p ≡ false) × ((is_line_end p && not is_open) ≡ false)
    × (open_after is_open p ≡ now_open)

-- an ending, as the definitions have it
abbrev pub shown_ending : Ending → places.Ending
shown_ending (AfterLine rest) = after_line rest.now
shown_ending (AtParenthesis place) = at_parenthesis place.now
shown_ending (AtStop is_open rest) = at_stop is_open rest.now

-- the remaining tokens of an entry, read from a text inside (true) or outside parentheses, and how
-- reading ends; how many octets precede the text makes no difference
abbrev pub Reads : Bool → Octets → List Token → places.Ending → Type 0
Reads is_open text ps ending =
    (before k : ℕ) → length text ≤ k
    → (map (λ (p : PlacedToken). p.token) (read_entry k is_open before text).0 ≡ ps)
    × ((read_entry k is_open before text).1 ≡ ending)

abbrev pub token_words : List Token → List Word
token_words = filter_map word_of

abbrev pub line_ends : List Token → ℕ
line_ends ps = length (filter is_line_end ps)

-- the text at which reading an entry ends
abbrev pub rest_in : places.Ending → Octets
rest_in (after_line rest) = rest
rest_in (at_parenthesis place) = place
rest_in (at_stop is_open rest) = rest

-- an entry was read: its first `most` words, the number of its line ends, and how it ended
pub record EntryRead (text : Octets) (most : ℕ) (words : List Word) (lines : ℕ)
    (ending : places.Ending) : Type 0 where
  pub tokens : List Token
  pub reads : Reads false text tokens ending
  pub stored : words ≡ take most (token_words tokens)
  pub counted : lines ≡ line_ends tokens
  pub bound : length (token_words tokens) + lines + length (rest_in ending) ≤ length text

-- an entry is complete, and `rest` follows it
abbrev pub WholeBefore : Option Bool → places.Ending → Octets → Type 0
WholeBefore goes_on ending rest =
    (ending_fault (extent_by (unwrap_or goes_on true)) ending ≡ None) × (rest_in ending ≡ rest)
