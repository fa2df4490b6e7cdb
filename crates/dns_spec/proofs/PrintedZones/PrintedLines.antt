-- The line of a record is read as the record's words and a line end.
use Rattle.dns_spec.proofs.Common.{◌≡◌, ℕ, ◌<◌, Bool, true, false, ◌&&◌, Some, None, Option, List, [], ◌∷◌, ◌++◌, map, length, nat_lt, refl, sym, subst, arith, append_assoc, codes, decimal, rules, and_parts, ltb-true, option_map, unwrap_or, list_all, prefix_len, filter_map, join_with_byte, Octets, name_text, TypeRow, row_of, numbered_type, type_text, Word, is_word_octet, plain, word_text, written_words, data_text, stands_alone, ResourceRecord, Token, blank, line_end, is_blank, TokensThen, cut_entries, parentheses, word_of, IsReadRecord, record_line, AllByRecursion}
use Rattle.dns_spec.proofs.DataWords.BareWords.{Bare, bare_append, bare_decimal}
use Rattle.dns_spec.proofs.DataWords.StandingWords.{TakenWhole, Standing, bare_standing, decimal_standing, name_standing}
use Rattle.dns_spec.proofs.DataWords.FormsAgain.{small_labels, some_labels}
use Rattle.dns_spec.proofs.DataWords.SaidAgain.{words_alone, words_whole}
use Rattle.dns_spec.proofs.ZoneTexts.ReadWords.{word_token, word_read, no_blank, blank_read, space_ends, line_ends}
use Rattle.dns_spec.proofs.General.Tests.{entry_passes}

-- the words of a record's line
abbrev pub first_words : ResourceRecord → List Word
first_words r = plain (name_text r.owner) ∷ plain
    (decimal r.ttl) ∷ plain (codes "IN") ∷ plain (type_text r.rtype) ∷ []

abbrev pub line_words : ResourceRecord → List Word
line_words r = first_words r ++ written_words r.rtype r.rdata

-- the tokens of words with spaces between them, and of a line end
abbrev pub words_tokens : List Word → List Token
words_tokens [] = line_end ∷ []
words_tokens (w ∷ []) = word_token w ∷ line_end ∷ []
words_tokens (w ∷ v ∷ ws) = word_token w ∷ blank ∷ words_tokens (v ∷ ws)

-- words with a space after each, followed by these tokens
abbrev pub led : List Word → List Token → List Token
led [] ps = ps
led (w ∷ ws) ps = word_token w ∷ blank ∷ led ws ps

abbrev pub line_tokens : ResourceRecord → List Token
line_tokens r = led (first_words r) (words_tokens (written_words r.rtype r.rdata))

-- a word that does not end early and is read whole
record Read (w : Word) : Type 0 where
  alone : stands_alone w ≡ true
  whole : TakenWhole w

standing_read : (w : Word) → Standing w → Read w
standing_read w s = record { alone = s.alone; whole = s.whole }

all_read : (ws : List Word) → list_all stands_alone ws ≡ true → AllByRecursion TakenWhole ws
    → AllByRecursion Read ws
all_read [] alone whole = tt
all_read (w ∷ ws) alone whole =
    let p = and_parts (stands_alone w) (list_all stands_alone ws) alone in
    (record { alone = p.0; whole = whole.0 }, all_read ws p.1 whole.1)

-- the tokens of a text that does not begin with a blank
record Reads (text : Octets) (ps : List Token) (rest : Octets) : Type 0 where
  tokens : TokensThen text ps rest
  first : prefix_len is_blank text ≡ 0

word_then : (w : Word) (ps : List Token) (text rest : Octets) → Read w
    → Reads text ps rest → Reads (word_text w ++ 32 ∷ text) (word_token w ∷ blank ∷ ps) rest
word_then w ps text rest r more = record {
  tokens = (
    32 ∷ text,
    word_read w 32 text r.alone r.whole (space_ends text),
    (text, blank_read text more.first, more.tokens),
  );
  first = no_blank w (32 ∷ text) r.alone;
}

words_then : (ws : List Word) (rest : Octets) → AllByRecursion Read ws
    → Reads (join_with_byte 32 (map word_text ws) ++ 10 ∷ rest) (words_tokens ws) rest
words_then [] rest reads = record { tokens = (rest, refl, refl); first = refl }
words_then (w ∷ []) rest reads = record {
  tokens = (
    10 ∷ rest,
    word_read w 10 rest reads.0.alone reads.0.whole (line_ends rest),
    (rest, refl, refl),
  );
  first = no_blank w (10 ∷ rest) reads.0.alone;
}
words_then (w ∷ v ∷ ws) rest reads =
    search (rules, append_assoc, word_then, (words_then (v ∷ ws) rest reads.1))

-- the first words of a line
abbrev is_bare_text : Octets → Bool
is_bare_text x = nat_lt 0 (length x) && list_all is_word_octet x

bare_tested : (x : Octets) → list_all is_word_octet x ≡ true → Bare x
bare_tested [] all = tt
bare_tested (o ∷ x) all =
    let p = and_parts (is_word_octet o) (list_all is_word_octet x) all in (p.0, bare_tested x p.1)

mnemonic_bare : (t : ℕ) (made : TypeRow) → row_of t ≡ Some made → is_bare_text made.mnemonic ≡ true
mnemonic_bare t made e = grind (arith, entry_passes)

type_standing : (t : ℕ) → t < 65536 → Standing (plain (type_text t))
type_standing t small = go (row_of t) refl
  where
    go : (r : Option TypeRow) → row_of t ≡ r → Standing
        (plain (unwrap_or (option_map (λ (row : TypeRow). row.mnemonic) r) (numbered_type t)))
    go None e = bare_standing (numbered_type t) (omega arith) (bare_append (codes "TYPE")
        (decimal t) (bare_tested (codes "TYPE") refl) (bare_decimal t (omega (arith, small))))
    go (Some made) e =
        let p = and_parts (nat_lt 0 (length made.mnemonic))
        (list_all is_word_octet made.mnemonic) (mnemonic_bare t made e) in
        search (rules, bare_standing, ltb-true, bare_tested)

first_read : (r : ResourceRecord) → IsReadRecord r → AllByRecursion Read (first_words r)
first_read r h = (
  standing_read (plain (name_text r.owner))
      (name_standing r.owner (small_labels r.owner h.owner_octets) (some_labels r.owner h.owner)),
  (
    standing_read (plain (decimal r.ttl)) (decimal_standing r.ttl (omega (arith, h.ttl))),
    (
      standing_read
          (plain (codes "IN")) (bare_standing (codes "IN") (omega arith) (refl, (refl, tt))),
      (standing_read (plain (type_text r.rtype)) (type_standing r.rtype h.rtype), tt),
    ),
  ),
)

-- a line with a text after it
line_split : (n t y d rest : Octets) → (n ++ codes " " ++ t ++ codes " IN " ++ y ++ codes " " ++ d
    ++ codes "\n") ++ rest ≡ n ++ 32 ∷ (t ++ 32 ∷ (codes "IN" ++ 32 ∷ (y ++ 32 ∷ (d ++ 10 ∷ rest))))
line_split n t y d rest = simp append_assoc

line_read : (r : ResourceRecord) (rest : Octets)
    → IsReadRecord r → Reads (record_line r ++ rest) (line_tokens r) rest
unfolding data_text
line_read r rest h =
    let ws = written_words r.rtype r.rdata in
    let data_read = words_then ws rest (all_read ws (words_alone r.rtype
    r.rdata h.rdata_octets h.rdata) (words_whole r.rtype r.rdata h.rdata_octets h.rdata)) in
    let (owner, (ttl, (class, (rtype, _)))) = first_read r h in
    subst (λ t. Reads t (line_tokens r) rest) (sym (line_split
    (name_text r.owner) (decimal r.ttl) (type_text r.rtype) (data_text r.rtype r.rdata) rest))
    (word_then (plain (name_text r.owner)) _ _ rest owner
    (word_then (plain (decimal r.ttl)) _ _ rest ttl
    (word_then (plain (codes "IN")) _ _ rest class
    (word_then (plain (type_text r.rtype)) _ _ rest rtype data_read))))

pub line_pieces_read : (r : ResourceRecord) (rest : Octets)
    → IsReadRecord r → TokensThen (record_line r ++ rest) (line_tokens r) rest
line_pieces_read r rest h = (line_read r rest h).tokens

-- what the tokens after a line's words give
cut_words : (ws : List Word) (ps : List Token)
    → cut_entries false (words_tokens ws ++ ps) ≡ words_tokens ws ∷ cut_entries false ps
cut_words [] ps = refl
cut_words (w ∷ []) ps = grind (arith, word_token)
cut_words (w ∷ v ∷ ws) ps = grind (arith, word_token, (cut_words (v ∷ ws) ps))

pub line_cut : (r : ResourceRecord) (ps : List Token)
    → cut_entries false (line_tokens r ++ ps) ≡ line_tokens r ∷ cut_entries false ps
line_cut r ps = grind (arith, cut_words)

words_parentheses : (ws : List Word) → parentheses (words_tokens ws) ≡ []
words_parentheses [] = refl
words_parentheses (w ∷ []) = grind (arith, word_token)
words_parentheses (w ∷ v ∷ ws) = grind (arith, word_token, (words_parentheses (v ∷ ws)))

pub line_parentheses : (r : ResourceRecord) → parentheses (line_tokens r) ≡ []
line_parentheses r = grind (arith, words_parentheses)

words_again : (ws : List Word) → filter_map word_of (words_tokens ws) ≡ ws
words_again [] = refl
words_again (w ∷ []) = grind (arith, word_token)
words_again (w ∷ v ∷ ws) = grind (arith, word_token, (words_again (v ∷ ws)))

pub line_words_again : (r : ResourceRecord) → filter_map word_of (line_tokens r) ≡ line_words r
line_words_again r = grind (arith, words_again)
