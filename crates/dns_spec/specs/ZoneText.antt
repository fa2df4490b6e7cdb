-- The text of a zone file: its tokens, its entries, and the faults that are found before any word
-- is read.
use Rattle.std.specs.Prelude.{◌≡◌, ℕ, zero, suc, ◌+◌, Bool, true, false, ◌&&◌, ◌||◌, not, List, [], ◌∷◌, length, take, drop, nat_lt, ◌==◌, if◌then◌else◌, fold}
use Rattle.std.specs.Prelude.{Option, None, Some}
use Rattle.std.specs.Option.{unwrap_or}
use Rattle.std.specs.Bool.{xor}
use Rattle.std.specs.List.{prefix_len, filter_map}
use Rattle.std.specs.Char.{is_ascii_digit}
use Rattle.dns_spec.specs.Names.{Octets}
use Rattle.dns_spec.specs.NameText.{escape_left}
use Rattle.dns_spec.specs.DataText.{Word, is_word_octet, is_string_octet}
use Rattle.dns_spec.specs.FileFaults.{FileFault, bad_octet, bad_escape, unended_string, bad_parenthesis, too_long}

-- The most octets that a text may have (in this product).
abbrev pub most_octets : ℕ
most_octets = 16777216

-- RFC 1035 5.1: the tokens of a text. The octets of a word or a quoted string are as spelled, with
-- escapes but without quotation marks.
pub data Token : Type 0 where
  blank : Token
  comment : Token
  word : Octets → Token
  quoted_string : Octets → Token
  opening : Token
  closing : Token
  line_end : Token

-- a space or a tab
abbrev pub is_blank : ℕ → Bool
is_blank o = o == 32 || o == 9

-- If o, followed by the text, continues a word or a string: the number of octets of its escape
-- that follow o, 0 if o is not a backslash. `by_itself` accepts the octets that may appear
-- unescaped.
abbrev pub unit_left : (ℕ → Bool) → ℕ → Octets → Option ℕ
unit_left by_itself o text =
    if o == 92 then escape_left text else if by_itself o then Some 0 else None

-- the length of the longest prefix of the text that may be in a word or a string; the first k
-- octets belong to the current escape
unfoldable pub run_length : (ℕ → Bool) → ℕ → Octets → ℕ
run_length by_itself k [] = 0
run_length by_itself (suc k) (o ∷ text) = 1 + run_length by_itself k text
run_length by_itself zero (o ∷ text) =
    elim (unit_left by_itself o text) [ None ↦ 0 | Some k ↦ 1 + run_length by_itself k text ]

-- the length of the unquoted word that begins the text, 0 if no word begins it
abbrev pub word_length : Octets → ℕ
word_length text = run_length is_word_octet 0 text

-- the length of the string that begins the text after its quotation mark, up to the first octet
-- that can't continue it
abbrev pub string_length : Octets → ℕ
string_length text = run_length is_string_octet 0 text

-- after an opening quotation mark: the string up to the closing mark, and the text after the
-- closing mark
abbrev pub closed : Octets → Octets → Option (Token × Octets)
closed raw [] = None
closed raw (o ∷ text) = if o == 34 then Some (quoted_string raw, text) else None

abbrev pub quoted_front : Octets → Option (Token × Octets)
quoted_front text = closed (take (string_length text) text) (drop (string_length text) text)

-- the word that begins the text, and the text after it
abbrev pub unquoted_front : Octets → Option (Token × Octets)
unquoted_front text =
    if word_length text == 0 then None
    else Some (word (take (word_length text) text), drop (word_length text) text)

-- after CR: the line end, and the text after it
abbrev pub line_feed_front : Octets → Option (Token × Octets)
line_feed_front [] = None
line_feed_front (o ∷ text) = if o == 10 then Some (line_end, text) else None

-- RFC 1035 5.1: the token that begins the text, by its first octet, and the text after it. A blank
-- is the longest run of spaces and tabs, and a word the longest run of its octets; a comment
-- extends to the end of its line and may contain any octets.
abbrev pub token_front : Octets → Option (Token × Octets)
token_front [] = None
token_front (o ∷ text) =
    if is_blank o then Some (blank, drop (prefix_len is_blank text) text)
    else if o == 59 then Some (comment, drop (prefix_len (λ x. not (x == 10)) text) text)
    else if o == 34 then quoted_front text
    else if o == 40 then Some (opening, text)
    else if o == 41 then Some (closing, text)
    else if o == 10 then Some (line_end, text)
    else if o == 13 then line_feed_front text
    else unquoted_front (o ∷ text)

-- The text begins with these tokens, in order, followed by `rest`.
abbrev pub TokensThen : Octets → List Token → Octets → Type 0
TokensThen text [] rest = text ≡ rest
TokensThen text (p ∷ ps) rest =
    (others : Octets) × (token_front text ≡ Some (p, others)) × TokensThen others ps rest

-- true for an opening parenthesis, false for a closing one, and `None` for any other token
abbrev pub parenthesis : Token → Option Bool
parenthesis blank = None
parenthesis comment = None
parenthesis (word raw) = None
parenthesis (quoted_string raw) = None
parenthesis opening = Some true
parenthesis closing = Some false
parenthesis line_end = None

-- LF or CR LF; outside parentheses it ends an entry
abbrev pub is_line_end : Token → Bool
is_line_end line_end = true
is_line_end _ = false

-- whether a parenthesis is open after a token, by whether one was open before it
abbrev pub open_after : Bool → Token → Bool
open_after was_open p = unwrap_or (parenthesis p) was_open

-- puts a token in front of the first list
abbrev pub before_first : Token → List (List Token) → List (List Token)
before_first p [] = []
before_first p (e ∷ es) = (p ∷ e) ∷ es

-- RFC 1035 5.1: parentheses continue an entry over line ends, so an entry ends with its first line
-- end outside them. The tokens after the last such line end are the last of these lists.
abbrev pub cut_entries : Bool → List Token → List (List Token)
cut_entries is_open [] = [] ∷ []
cut_entries is_open (p ∷ ps) =
    elim (is_line_end p && not is_open) [
      | true ↦ (p ∷ []) ∷ cut_entries false ps
      | false ↦ before_first p (cut_entries (open_after is_open p) ps)
    ]

-- parentheses do not nest (in this product), so opening and closing ones alternate
abbrev pub take_turns : Bool → List Bool → Bool
take_turns is_open [] = true
take_turns is_open (opens ∷ marks) = xor opens is_open && take_turns opens marks

-- the parentheses among tokens, in order
abbrev pub parentheses : List Token → List Bool
parentheses = filter_map parenthesis

-- a parenthesis is still open after the tokens
abbrev pub is_open_at_end : List Token → Bool
is_open_at_end ps = fold open_after false ps

-- the text begins with LF or CR LF
abbrev pub begins_line_end : Octets → Bool
begins_line_end [] = false
begins_line_end (o ∷ []) = o == 10
begins_line_end (o ∷ p ∷ text) = o == 10 || (o == 13 && p == 10)

-- the octets are empty, CR, or a backslash with at most two digits after it (of any value): more
-- octets might complete CR LF or an escape
abbrev pub is_cut_short : Octets → Bool
is_cut_short [] = true
is_cut_short (o ∷ []) = o == 92 || o == 13
is_cut_short (o ∷ a ∷ []) = o == 92 && is_ascii_digit a
is_cut_short (o ∷ a ∷ b ∷ []) = o == 92 && is_ascii_digit a && is_ascii_digit b
is_cut_short (o ∷ a ∷ b ∷ c ∷ text) = false

-- the first octet is x
abbrev pub begins_with : ℕ → Octets → Bool
begins_with x [] = false
begins_with x (o ∷ text) = o == x

-- How much of a text is examined: all of it, or a prefix that more text follows.
pub data Extent : Type 0 where
  whole_text : Extent
  beginning : Extent

-- the extent, by whether the text goes on after the octets that are examined
abbrev pub extent_by : Bool → Extent
extent_by goes_on = if goes_on then beginning else whole_text

-- the extent of a text, of which at most `most_octets` octets are examined
abbrev pub extent_of : Octets → Extent
extent_of text = extent_by (nat_lt most_octets (length text))

-- Why no token begins at a place: the text is over; the quoted string that begins there ends
-- without a closing mark; or the octet there can't begin a token. `in_string` contains the octets
-- after the string, and `in_token` the octets from that place on.
pub data EntryStop : Type 0 where
  text_over : EntryStop
  in_string : Octets → EntryStop
  in_token : Octets → EntryStop

-- why no token begins at these octets
abbrev pub stop_at : Octets → EntryStop
stop_at [] = text_over
stop_at (o ∷ text) =
    if o == 34 then in_string (drop (string_length text) text) else in_token (o ∷ text)

-- `R02` for a backslash that begins no escape; else `R01`, an octet that is not allowed.
abbrev pub token_fault : Octets → FileFault
token_fault place = if begins_with 92 place then bad_escape else bad_octet

-- `R03` if the text or the line ends before the closing mark; else the fault of the next octets.
abbrev pub string_fault : Octets → FileFault
string_fault place =
    if length place == 0 || begins_line_end place then unended_string else token_fault place

-- The fault, or `R15` if the text goes on and its next octets might change the fault.
abbrev pub unless_cut_short : Extent → Octets → FileFault → FileFault
unless_cut_short whole_text place fault = fault
unless_cut_short beginning place fault = if is_cut_short place then too_long else fault

-- The fault of an entry that does not end with a line end; `is_open` is whether it ends inside
-- parentheses. At the end of the examined octets: `R15` if more text follows; else `R04` inside
-- parentheses, and no fault outside them. Before that: the fault of the octets at which no token
-- begins, or `R15` if they are cut short and more text follows.
abbrev pub stop_fault : Extent → Bool → EntryStop → Option FileFault
stop_fault whole_text is_open text_over = if is_open then Some bad_parenthesis else None
stop_fault beginning is_open text_over = Some too_long
stop_fault extent is_open (in_string place) =
    Some (unless_cut_short extent place (string_fault place))
stop_fault extent is_open (in_token place) =
    Some (unless_cut_short extent place (token_fault place))

-- An entry: its tokens, and the fault at its end, if any.
pub record Entry : Type 0 where
  pub tokens : List Token
  pub end_fault : Option FileFault

-- an entry that ends with its line end
abbrev pub ended : List Token → Entry
ended ps = record { tokens = ps; end_fault = None }

-- an entry that ends at `rest`, where no token begins
abbrev pub unended : Extent → Octets → List Token → Entry
unended extent rest ps =
    record { tokens = ps; end_fault = stop_fault extent (is_open_at_end ps) (stop_at rest) }

-- the entries of these lists of tokens; the last entry ends at `rest`, not with a line end
abbrev pub with_end : Extent → Octets → List (List Token) → List Entry
with_end extent rest [] = []
with_end extent rest (ps ∷ []) = unended extent rest ps ∷ []
with_end extent rest (ps ∷ qs ∷ es) = ended ps ∷ with_end extent rest (qs ∷ es)

-- The entries of octets that are a whole text, or a prefix of one: the tokens up to the first place
-- where no token begins, split into entries.
pub record EntriesOf (extent : Extent) (octets : Octets) (es : List Entry) : Type 0 where
  pub tokens : List Token
  pub rest : Octets
  pub spelled : TokensThen octets tokens rest
  pub at_end : token_front rest ≡ None
  pub entries : es ≡ with_end extent rest (cut_entries false tokens)

-- The entries of a text, examined only up to its limit.
abbrev pub Entries : Octets → List Entry → Type 0
Entries text es = EntriesOf (extent_of text) (take most_octets text) es

-- The first fault in the text of an entry, before any word is read: `R04`, a nested parenthesis or
-- a closing one without an opening one; else the fault at its end.
abbrev pub lexical_fault : Entry → Option FileFault
lexical_fault e =
    if take_turns false (parentheses e.tokens) then e.end_fault else Some bad_parenthesis

-- the word of a token that is a word or a quoted string
abbrev pub word_of : Token → Option Word
word_of blank = None
word_of comment = None
word_of (word raw) = Some (record { raw = raw; is_quoted = false })
word_of (quoted_string raw) = Some (record { raw = raw; is_quoted = true })
word_of opening = None
word_of closing = None
word_of line_end = None

-- the words of an entry, in order
abbrev pub entry_words : Entry → List Word
entry_words e = filter_map word_of e.tokens

-- the token is a blank
abbrev pub is_blank_token : Token → Bool
is_blank_token blank = true
is_blank_token _ = false

-- the tokens begin with a blank
abbrev pub begins_blank : List Token → Bool
begins_blank [] = false
begins_blank (p ∷ ps) = is_blank_token p
