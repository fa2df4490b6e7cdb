-- How the code's runs and tokens correspond to those of the definitions.
use Rattle.std.specs.Prelude.{◌≡◌, ℕ, Bool, Option, Some, None}
use Rattle.std.specs.Borrow.{Bor}
use Rattle.dns_spec.specs.Names.{Octets}
use Rattle.dns_spec.specs.ZoneText.{blank, comment, word, quoted_string, opening, closing, line_end}
use Rattle.dns_spec.specs.DataText.{is_word_octet, is_string_octet}
use Rattle.dns_spec.specs.ZoneText as text
use Rattle.dns_master.specs.declared.run.RunKind.{RunKind}
use Rattle.dns_master.specs.declared.run.RunKind.TheVariants.{Word as WordRun, String as StringRun}
use Rattle.dns_master.specs.declared.token.Token.{Token}
use Rattle.dns_master.specs.declared.token.Token.TheVariants.{Blank, Comment, Word, Quoted, Opening, Closing, LineEnd}

-- the octets that may appear unescaped in a run
abbrev pub by_itself : RunKind → ℕ → Bool
by_itself WordRun = is_word_octet
by_itself StringRun = is_string_octet

abbrev pub shown_token : Token → text.Token
shown_token Blank = blank
shown_token Comment = comment
shown_token (Word raw) = word raw.now
shown_token (Quoted raw) = quoted_string raw.now
shown_token Opening = opening
shown_token Closing = closing
shown_token LineEnd = line_end

-- a function returned the token with which a text begins, and the text after the token; or None if
-- no token begins the text
abbrev pub Begins : Option (Token × Bor Octets) → Option (text.Token × Octets) → Type 0
Begins None front = front ≡ None
Begins (Some x) front = front ≡ Some (shown_token x.0, x.1.now)
