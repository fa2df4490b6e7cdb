-- The entries of a zone file with their places, read to the end of the file: after an entry with a
-- lexical fault, reading begins anew at the next line.
use Rattle.std.specs.Prelude.{ℕ, zero, suc, ◌+◌, ◌-◌, Bool, true, false, ◌&&◌, ◌||◌, not, List, [], ◌∷◌, length, take, drop, nat_lt, map, ◌==◌, if◌then◌else◌}
use Rattle.std.specs.Prelude.{Option, None, Some}
use Rattle.std.specs.Bool.{xor}
use Rattle.std.specs.Option.{is_some, option_map_or}
use Rattle.std.specs.List.{filter_map, prefix_len}
use Rattle.dns_spec.specs.Names.{Octets}
use Rattle.dns_spec.specs.FileFaults.{FileFault, bad_parenthesis, too_long}
use Rattle.dns_spec.specs.ZoneText.{most_octets, Token, token_front, parenthesis, is_line_end, open_after, begins_line_end, Extent, extent_by, EntryStop, text_over, in_string, in_token, stop_at, stop_fault, Entry, word_of}

-- A place in a text: the number of octets before it, and the number of octets up to its end.
pub record Span : Type 0 where
  pub begins : ℕ
  pub ends : ℕ

-- a token and its place
pub record PlacedToken : Type 0 where
  pub token : Token
  pub place : Span

-- How reading an entry ends: after its line end, with the text after it; at a text that begins with
-- a misplaced parenthesis; or at a text with which no token begins, inside (true) or outside
-- parentheses.
pub data Ending : Type 0 where
  after_line : Octets → Ending
  at_parenthesis : Octets → Ending
  at_stop : Bool → Octets → Ending

-- an opening parenthesis inside parentheses, or a closing one outside them
abbrev pub is_misplaced : Bool → Token → Bool
is_misplaced is_open p = option_map_or (λ opens. not (xor opens is_open)) (parenthesis p) false

-- puts a token in front of the tokens that were read
abbrev pub after_token : PlacedToken
    → List PlacedToken × Ending → List PlacedToken × Ending
after_token p read = (p ∷ read.0, read.1)

-- RFC 1035 5.1: the tokens of an entry, up to and with its line end, and how reading it ends. The
-- text continues the entry, inside (true) or outside parentheses, and `before` octets precede the
-- text. At most k tokens are read; since each token has at least one octet, the length of the text
-- is enough.
unfoldable pub read_entry : ℕ → Bool → ℕ → Octets → List PlacedToken × Ending
read_entry zero is_open before text = ([], at_stop is_open text)
read_entry (suc k) is_open before text = elim (token_front text) [
  | None ↦ ([], at_stop is_open text)
  | Some r ↦
      let passed : ℕ = before + (length text - length r.1) in
      let placed : PlacedToken =
      record { token = r.0; place = record { begins = before; ends = passed } } in
      elim (is_misplaced is_open r.0) [
        | true ↦ ([], at_parenthesis text)
        | false ↦ elim (is_line_end r.0 && not is_open) [
          | true ↦ (placed ∷ [], after_line r.1)
          | false ↦ after_token placed (read_entry k (open_after is_open r.0) passed r.1)
        ]
      ]
]

-- the lexical fault of an entry, by how reading it ends
abbrev pub ending_fault : Extent → Ending → Option FileFault
ending_fault extent (after_line rest) = None
ending_fault extent (at_parenthesis place) = Some bad_parenthesis
ending_fault extent (at_stop is_open rest) = stop_fault extent is_open (stop_at rest)

-- the text from the first octet on that can't continue an entry, by why no token can be read
abbrev pub stop_octets : EntryStop → Octets
stop_octets text_over = []
stop_octets (in_string place) = place
stop_octets (in_token place) = place

-- the text after the line end of an entry, or from the octet on at which reading it stops
abbrev pub end_octets : Ending → Octets
end_octets (after_line rest) = rest
end_octets (at_parenthesis place) = place
end_octets (at_stop is_open rest) = stop_octets (stop_at rest)

-- the place of the octet that begins a text; a line end and the end of a text are empty places
abbrev pub octet_place : ℕ → Octets → Span
octet_place before text =
    record {
      begins = before;
      ends = if length text == 0 || begins_line_end text then before else 1 + before;
    }

-- an empty span
abbrev pub empty_place : ℕ → Span
empty_place before = record { begins = before; ends = before }

-- The place of a lexical fault: the first octet of `rest`, at which reading stops, or for `R15` the
-- first octet past the limit. Of the text `total` octets are examined, and `past` is the octet
-- after them, if there is one.
abbrev pub fault_place : ℕ → Octets → FileFault → Octets → Span
fault_place total past too_long rest = octet_place total past
fault_place total past fault rest = octet_place (total - length rest) rest

-- the text after its first LF
abbrev pub next_line : Octets → Octets
next_line text = drop (1 + prefix_len (λ o. not (o == 10)) text) text

-- where reading goes on after an entry: after its line end, or at the next line; nowhere at the
-- end of the text
abbrev pub text_after : Ending → Option Octets
text_after (after_line rest) = Some rest
text_after (at_parenthesis place) = Some (next_line place)
text_after (at_stop is_open []) = None
text_after (at_stop is_open (o ∷ rest)) = Some (next_line (stop_octets (stop_at (o ∷ rest))))

-- An entry and its places: where it begins; its words, in order; its end, which is before its line
-- end if it has one; and, for each lexical fault that it may have, the place of that fault.
pub record PlacedEntry : Type 0 where
  pub entry : Entry
  pub begins : ℕ
  pub words : List Span
  pub ends : ℕ
  pub stop : FileFault → Span

-- the place of a token that is a word or a quoted string
abbrev pub word_place : PlacedToken → Option Span
word_place p = if is_some (word_of p.token) then Some p.place else None

-- the number of octets before the last of these tokens
abbrev pub before_last : List PlacedToken → ℕ
before_last [] = 0
before_last (p ∷ []) = p.place.begins
before_last (p ∷ q ∷ ps) = before_last (q ∷ ps)

-- the number of octets before the end of an entry: before its line end, which is its last token, or
-- before the octet at which reading stops
abbrev pub before_end : ℕ → List PlacedToken → Ending → ℕ
before_end total ps (after_line rest) = before_last ps
before_end total ps ending = total - length (end_octets ending)

-- The entry that begins a text, from `read`: its tokens, and how reading it ended. `total` and
-- `past` are as in `entries_from`.
abbrev pub placed_entry : ℕ → Octets → Octets → List PlacedToken × Ending → PlacedEntry
placed_entry total past text read =
    record {
      entry =
          record {
            tokens = map (λ (p : PlacedToken). p.token) read.0;
            end_fault = ending_fault (extent_by (nat_lt 0 (length past))) read.1;
          };
      begins = total - length text;
      words = filter_map word_place read.0;
      ends = before_end total read.0 read.1;
      stop = λ fault. fault_place total past fault (end_octets read.1);
    }

-- The entries of a text, of which `total` octets are examined, and `past` is the first octet past
-- them, if there is one. The text is what is left of the examined octets. At most k entries are
-- read; since each but the last has at least one octet, one more than the octets is enough.
unfoldable pub entries_from : ℕ → ℕ → Octets → Octets → List PlacedEntry
entries_from zero total past text = []
entries_from (suc k) total past text =
    let read : List PlacedToken × Ending =
    read_entry (length text) false (total - length text) text in
    placed_entry total past text read ∷ elim (text_after read.1) [
      | None ↦ []
      | Some rest ↦ entries_from k total past rest
    ]

-- the entries of octets that are examined, with their places
abbrev pub entries_to_end : Octets → Octets → List PlacedEntry
entries_to_end octets past = entries_from (1 + length octets) (length octets) past octets

-- The entries of a text with their places. A text is examined only up to its limit.
abbrev pub placed_entries : Octets → List PlacedEntry
placed_entries text =
    entries_to_end (take most_octets text) (take 1 (drop most_octets text))
