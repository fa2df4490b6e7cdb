use Rattle.dns_rdata.proofs.Common.{◌≡◌, ◌↔◌, ℕ, ◌==◌, Bool, true, false, not, sym, OnTrue, list_any, Octets, SpellsString}
use Rattle.dns_rdata.proofs.StringLemmas.{plain_string}
use Rattle.dns_rdata.proofs.string.is_plain_string.Goals as goal

by_backslash : (b : Bool) (text : Octets) → b ≡ list_any (λ (o : ℕ). o == 92) text
    → OnTrue (not b) ((s : Octets) → SpellsString text s ↔ (s ≡ text))
by_backslash true text e = search
by_backslash false text e = plain_string text (sym e)

pub returns-then-word-le-MOST_STRING_OCTETS-clause-itself :
    goal.returns-then-word-le-MOST_STRING_OCTETS-clause-itself
returns-then-word-le-MOST_STRING_OCTETS-clause-itself c =
    by_backslash _ c.args.word.now c.contains.ensures.value
