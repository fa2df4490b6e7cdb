-- Reading an entry token by token: the tokens so far, followed by the remaining ones, are those of
-- the entry.
use Rattle.dns_master.proofs.Common.{◌≡◌, ◌<◌, ℕ, ◌+◌, ◌≤◌, Bool, true, false, cond, List, [], ◌∷◌, ◌++◌, length, length-append, take, take_all, refl, sym, ap, ◌∙◌, subst, arith, append_assoc, append-nil, Some, None, Octets, Word, Token, token_front, is_line_end, word_of, filter, cons_option, front-shorter, Reads, StepIs, token_words, line_ends, EntryRead, is_blank, drop, prefix_len}
use Rattle.std.proofs.lemmas.List.{length-take, take-append-le}
use Rattle.dns_spec.specs.ZoneText.{blank}
use Rattle.dns_spec.specs.EntryPlaces.{Ending, is_misplaced}
use Rattle.dns_spec.proofs.General.Options.{cons_option-append}
use Rattle.dns_master.specs.EntryForm.{rest_in}
use Rattle.dns_master.specs.declared.entry.Step.TheVariants.{Onward}
use Rattle.dns_master.proofs.RunLemmas.{blank-first}
use Rattle.dns_master.proofs.EntryFacts.{reads-on}

pub words-append : (ps qs : List Token) → token_words (ps ++ qs) ≡ token_words ps ++ token_words qs
words-append [] qs = refl
words-append (p ∷ ps) qs =
    grind (arith, cons_option, word_of, cons_option-append, token_words, (words-append ps qs))

cond-more : (b : Bool) (n m k : ℕ) → n ≡ m + k → cond b (1 + n) n ≡ cond b (1 + m) m + k
cond-more true n m k e = omega (arith, e)
cond-more false n m k e = e

length-cond : (b : Bool) (p : Token) (ps : List Token)
    → length (cond b (p ∷ ps) ps) ≡ cond b (1 + length ps) (length ps)
length-cond true p ps = omega arith
length-cond false p ps = refl

pub lines-append : (ps qs : List Token) → line_ends (ps ++ qs) ≡ line_ends ps + line_ends qs
lines-append [] qs = omega (arith)
lines-append (p ∷ ps) qs =
    grind (arith, length-cond, is_line_end, filter, cond-more, line_ends, (lines-append ps qs))

-- a token has at most one word or line end
one-each : (p : Token) → length (token_words (p ∷ [])) + line_ends (p ∷ []) ≤ 1
one-each p = grind arith

-- a misplaced parenthesis ends no line
pub wrong-lines : (b : Bool) (p : Token) → is_misplaced b p ≡ true → line_ends (p ∷ []) ≡ 0
wrong-lines b p e = grind arith

-- the first n words, after a token that is a word, which is stored if there are fewer than n; and
-- after a token that is not a word
module _ (n : ℕ) (stored all : List Word) (p : Token) (is : stored ≡ take n all) where
  pub word-stored : (w : Word) → word_of p ≡ Some w → length stored < n
      → stored ++ w ∷ [] ≡ take n (all ++ token_words (p ∷ []))
  word-stored w word few =
      let count = ap length is ∙ length-take n all in
      let whole = length-append all (w ∷ []) in
      ap (λ ws. ws ++ w ∷ []) (is ∙ take_all n all (omega (arith, few, count)))
      ∙ sym (take_all n (all ++ w ∷ []) (omega (arith, few, count, whole)))
      ∙ ap (λ o. take n (all ++ cons_option o [])) (sym word)

  pub word-left_out : n ≤ length stored → stored ≡ take n (all ++ token_words (p ∷ []))
  word-left_out full =
      let count = ap length is ∙ length-take n all in
      is ∙ sym (take-append-le n all (token_words (p ∷ [])) (omega (arith, full, count)))

  pub other-passed : word_of p ≡ None → stored ≡ take n (all ++ token_words (p ∷ []))
  other-passed none =
      is ∙ ap (take n) (sym (append-nil all))
      ∙ ap (λ o. take n (all ++ cons_option o [])) (sym none)

module _ (text : Octets) (most : ℕ) where
  -- the tokens so far, with their words and line ends; any way to read the remaining tokens
  -- completes them
  pub record EntrySoFar
      (is_open : Bool) (rest : Octets) (words : List Word) (lines : ℕ) : Type 0 where
    pub tokens : List Token
    pub whole : (ps : List Token) (ending : Ending)
        → Reads is_open rest ps ending → Reads false text (tokens ++ ps) ending
    pub stored : words ≡ take most (token_words tokens)
    pub counted : lines ≡ line_ends tokens
    pub bound : length (token_words tokens) + lines + length rest ≤ length text

  module _ (is_open : Bool) (rest : Octets) (words : List Word) (lines : ℕ)
      (so : EntrySoFar is_open rest words lines) where
    -- a token is read after which the entry goes on
    pub token-read : (now_open : Bool) (others : Octets) (p : Token) (words' : List Word)
        (lines' : ℕ) → token_front rest ≡ Some (p, others) → StepIs is_open p (Onward now_open)
        → words' ≡ take most (token_words so.tokens ++ token_words (p ∷ []))
        → lines' ≡ lines + line_ends (p ∷ []) → EntrySoFar now_open others words' lines'
    token-read now_open others p words' lines' front (sound, within, opens) stored counted =
        record {
          tokens = so.tokens ++ p ∷ [];
          whole = λ ps ending h.
              subst (λ xs. Reads false text xs ending) (sym (append_assoc so.tokens (p ∷ []) ps))
              (so.whole (p ∷ ps) ending (reads-on is_open rest others p front ps ending sound
              within (subst (λ b. Reads b others ps ending) (sym opens) h)));
          stored = stored ∙ ap (take most) (sym (words-append so.tokens (p ∷ [])));
          counted = counted ∙ ap (λ n. n + line_ends (p ∷ [])) so.counted
              ∙ sym (lines-append so.tokens (p ∷ []));
          bound =
              let words = ap length (words-append so.tokens (p ∷ []))
              ∙ length-append (token_words so.tokens) (token_words (p ∷ [])) in
              omega (
                arith,
                so.bound,
                words,
                counted,
                one-each p,
                front-shorter rest p others front,
              );
        }

    -- the entry ends with these tokens
    pub entry-over : (ps : List Token) (ending : Ending) (lines' : ℕ) → Reads is_open rest ps ending
        → words ≡ take most (token_words so.tokens ++ token_words ps)
        → lines' ≡ lines + line_ends ps
        → length (token_words ps) + line_ends ps + length (rest_in ending) ≤ length rest
        → EntryRead text most words lines' ending
    entry-over ps ending lines' reads stored counted fits =
        record {
          tokens = so.tokens ++ ps;
          reads = so.whole ps ending reads;
          stored = stored ∙ ap (take most) (sym (words-append so.tokens ps));
          counted = counted ∙ ap (λ n. n + line_ends ps) so.counted
              ∙ sym (lines-append so.tokens ps);
          bound =
              let words = ap length (words-append so.tokens ps)
              ∙ length-append (token_words so.tokens) (token_words ps) in
              omega (arith, so.bound, words, counted, fits);
        }

    -- ... with no more tokens
    pub entry-stopped : (ending : Ending) (lines' : ℕ) → Reads is_open rest [] ending
        → lines' ≡ lines → length (rest_in ending) ≤ length rest
        → EntryRead text most words lines' ending
    entry-stopped ending lines' reads counted fits =
        entry-over [] ending lines' reads
        (so.stored ∙ ap (take most) (sym (append-nil (token_words so.tokens))))
        (omega (arith, counted)) (omega (arith, fits))

    -- ... with the token `p`, which is not a word
    pub entry-ended : (others : Octets) (p : Token) (ending : Ending) (lines' : ℕ)
        → token_front rest ≡ Some (p, others) → Reads is_open rest (p ∷ []) ending
        → word_of p ≡ None → lines' ≡ lines + line_ends (p ∷ []) → rest_in ending ≡ others
        → EntryRead text most words lines' ending
    entry-ended others p ending lines' front reads none counted is =
        let left = ap length is in
        entry-over (p ∷ []) ending lines' reads (other-passed most words _ p so.stored none) counted
        (omega (arith, left, one-each p, front-shorter rest p others front))

  -- skipping the blanks at the front of `rest`, if there are any, passes one token
  pub blanks-passed : (is_open : Bool) (rest : Octets) (words : List Word)
      (lines : ℕ) → EntrySoFar is_open rest words lines
      → EntrySoFar is_open (drop (prefix_len is_blank rest) rest) words lines
  blanks-passed is_open [] words lines so = so
  blanks-passed is_open (o ∷ rest) words lines so = by_case (is_blank o) refl
    where
      by_case : (b : Bool) → is_blank o ≡ b → EntrySoFar is_open
          (drop (prefix_len is_blank (o ∷ rest)) (o ∷ rest)) words lines
      by_case false e = rw e so
      by_case true e = subst (λ t. EntrySoFar is_open t words lines) (blank-first o rest e)
          (token-read is_open (o ∷ rest) words lines so is_open
          (drop (prefix_len is_blank rest) rest) blank words lines (rw e refl)
          (refl, refl, refl) (other-passed most words _ blank so.stored refl) (omega arith))
