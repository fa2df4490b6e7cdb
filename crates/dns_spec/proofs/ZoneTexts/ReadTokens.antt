-- The words and strings in a text are octets below 256, since all their octets are printable or
-- tabs.
use Rattle.dns_spec.proofs.Common.{◌≡◌, ℕ, zero, suc, ◌+◌, Bool, true, false, not, ◌&&◌, Option, Some, None, List, [], ◌∷◌, take, refl, arith, filter_map, eqb-true, leb-true, none-some, same_Some, Octets, Token, blank, comment, word, quoted_string, opening, closing, line_end, escape_left, unit_left, run_length, TokensThen, is_line_end, open_after, before_first, cut_entries, Entry, with_end, Entries, word_of, entry_words, Extent, AllByRecursion}
use Rattle.dns_spec.proofs.ZoneTexts.ReadOctets.{Octet, SmallWord}

escape_left_small : (text : Octets) (k : ℕ) → escape_left text ≡ Some k
    → AllByRecursion Octet (take k text)
escape_left_small text k e = grind arith

unit_small : (p : ℕ → Bool) → ((o : ℕ) → p o ≡ true → Octet o) → (o : ℕ) (text : Octets) (k : ℕ)
    → unit_left p o text ≡ Some k → Octet o × AllByRecursion Octet (take k text)
unit_small p small o text k e = grind (arith, eqb-true, escape_left_small, same_Some, none-some)

one_more : (n o : ℕ) (text : Octets)
    → Octet o → AllByRecursion Octet (take n text) → AllByRecursion Octet (take (1 + n) (o ∷ text))
one_more n o text small more = grind (arith, AllByRecursion, Octet)

run_small : (p : ℕ → Bool) → ((o : ℕ) → p o ≡ true → Octet o) → (k : ℕ) (text : Octets)
    → AllByRecursion Octet (take k text) → AllByRecursion Octet (take (run_length p k text) text)
unfolding run_length
run_small p small k [] left = tt
run_small p small (suc k) (o ∷ text) left =
    one_more (run_length p k text) o text left.0 (run_small p small k text left.1)
run_small p small zero (o ∷ text) left =
    go (unit_left p o text) refl (λ k. run_small p small k text)
  where
    go : (u : Option ℕ) → unit_left p o text ≡ u
        → ((k : ℕ) → AllByRecursion Octet (take k text)
        → AllByRecursion Octet (take (run_length p k text) text)) → AllByRecursion
        Octet (take (elim u as (λ _. ℕ) [ None ↦ 0 | Some k ↦ 1 + run_length p k text ]) (o ∷ text))
    go None e after = tt
    go (Some k) e after = grind (arith, unit_small, one_more)

-- the words and strings of tokens are octets below 256
abbrev pub SmallToken : Token → Type 0
SmallToken blank = Unit {0}
SmallToken comment = Unit {0}
SmallToken (word raw) = AllByRecursion Octet raw
SmallToken (quoted_string raw) = AllByRecursion Octet raw
SmallToken opening = Unit {0}
SmallToken closing = Unit {0}
SmallToken line_end = Unit {0}

tokens_small : (text : Octets) (ps : List Token) (rest : Octets)
    → TokensThen text ps rest → AllByRecursion SmallToken ps
tokens_small text [] rest h = tt
tokens_small text (p ∷ ps) rest (others, e, h) =
    grind (arith, run_small, leb-true, eqb-true, (tokens_small others ps rest h))

cut_small : (is_open : Bool) (ps : List Token)
    → AllByRecursion SmallToken ps
    → AllByRecursion (AllByRecursion SmallToken) (cut_entries is_open ps)
cut_small is_open [] small = (tt, tt)
cut_small is_open (p ∷ ps) small =
    go (is_line_end p && not is_open) (λ opened. cut_small opened ps small.1)
  where
    go : (t : Bool)
        → ((opened : Bool) → AllByRecursion (AllByRecursion SmallToken) (cut_entries opened ps))
        → AllByRecursion (AllByRecursion SmallToken) (elim t as (λ _. List (List Token)) [
          | true ↦ (p ∷ []) ∷ cut_entries
              false ps
          | false ↦ before_first p (cut_entries (open_after is_open p) ps)
        ])
    go true later = ((small.0, tt), later false)
    go false later = grind arith

abbrev pub SmallEntry : Entry → Type 0
SmallEntry e = AllByRecursion SmallToken e.tokens

ended_small : (extent : Extent) (rest : Octets) (pss : List (List Token))
    → AllByRecursion (AllByRecursion SmallToken) pss
    → AllByRecursion SmallEntry (with_end extent rest pss)
ended_small extent rest [] small = tt
ended_small extent rest (ps ∷ []) small = (small.0, tt)
ended_small extent rest (ps ∷ qs ∷ pss) small =
    (small.0, ended_small extent rest (qs ∷ pss) small.1)

pub entries_small : (text : Octets) (es : List Entry) → Entries text es
    → AllByRecursion SmallEntry es
entries_small text es h = grind (arith, AllByRecursion, ended_small, cut_small, tokens_small)

-- the words of an entry are octets below 256
words_of_small : (ps : List Token) → AllByRecursion SmallToken ps
    → AllByRecursion SmallWord (filter_map word_of ps)
words_of_small [] small = tt
words_of_small (blank ∷ ps) small = words_of_small ps small.1
words_of_small (comment ∷ ps) small = words_of_small ps small.1
words_of_small (word raw ∷ ps) small = (small.0, words_of_small ps small.1)
words_of_small (quoted_string raw ∷ ps) small = (small.0, words_of_small ps small.1)
words_of_small (opening ∷ ps) small = words_of_small ps small.1
words_of_small (closing ∷ ps) small = words_of_small ps small.1
words_of_small (line_end ∷ ps) small = words_of_small ps small.1

pub words_small : (e : Entry) → SmallEntry e → AllByRecursion SmallWord (entry_words e)
words_small e small = words_of_small e.tokens small
