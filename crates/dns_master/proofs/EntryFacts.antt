-- Reading one entry as the definitions read it: token by token, and what this says of its tokens.
use Rattle.dns_master.proofs.Common.{◌≡◌, ◌≤◌, ℕ, zero, suc, ◌+◌, ◌-◌, Bool, true, false, ◌&&◌, ◌||◌, not, List, [], ◌∷◌, ◌++◌, length, take, list_any, ◌==◌, refl, sym, ap, ◌∙◌, subst, inl, inr, arith, Option, Some, None, MatchOption, false≢true, none-some, if◌then◌else◌, Octets, Token, quoted_string, line_end, closed, line_feed_front, token_front, TokensThen, is_line_end, open_after, parentheses, take_turns, is_blank, is_blank_token, begins_blank, front-shorter, front_kept, cut_none, Reads}
use mathlib.Core.Bool.{xor}
use Rattle.std.specs.Bool.{⊤}
use Rattle.std.proofs.Common.{subst₂}
use Rattle.dns_spec.specs.ZoneText.{opening, closing}
use Rattle.dns_spec.specs.EntryPlaces.{PlacedToken, Ending, after_line, at_parenthesis, at_stop, is_misplaced, after_token, before_end}
unfoldable use Rattle.dns_spec.specs.EntryPlaces.{read_entry}
use Rattle.dns_spec.proofs.ZoneTexts.EntryReading.{ReadsWell, tokens_of, reads_well}

pub opening_misplaced : (b : Bool) → is_misplaced b opening ≡ b
unfolding xor
opening_misplaced true = refl
opening_misplaced false = refl

pub closing_misplaced : (b : Bool) → is_misplaced b closing ≡ not b
unfolding xor
closing_misplaced true = refl
closing_misplaced false = refl

pub ruleset misplaced_steps = (opening_misplaced, closing_misplaced)

module _ (k : ℕ) (b : Bool) (before : ℕ) (text others : Octets) (p : Token)
    (front : token_front text ≡ Some (p, others)) where
  abbrev pub passed : ℕ
  passed = before + (length text - length others)

  abbrev pub placed : PlacedToken
  placed = record { token = p; place = record { begins = before; ends = passed } }

  pub goes_on : is_misplaced b p ≡ false → (is_line_end p && not b) ≡ false
      → read_entry (suc k) b before text
      ≡ after_token placed (read_entry k (open_after b p) passed others)
  unfolding read_entry
  goes_on sound within = rw (front, read_entry) (rw sound (rw within refl))

  pub stops_wrong : is_misplaced b p ≡ true
      → read_entry (suc k) b before text ≡ ([], at_parenthesis text)
  unfolding read_entry
  stops_wrong wrong = rw (front, read_entry) (rw wrong refl)

  pub ends_line : is_misplaced b p ≡ false → (is_line_end p && not b) ≡ true
      → read_entry (suc k) b before text ≡ (placed ∷ [], after_line others)
  unfolding read_entry
  ends_line sound ends = rw (front, read_entry) (rw sound (rw ends refl))

pub stops : (k : ℕ) (b : Bool) (before : ℕ) (text : Octets) → token_front text ≡ None
    → read_entry k b before text ≡ ([], at_stop b text)
unfolding read_entry
stops zero b before text e = refl
stops (suc k) b before text e = rw (e, read_entry) refl

-- if a token begins a text, at least one token is read
pub by-one : (text others : Octets) (p : Token) → token_front text ≡ Some (p, others)
    → (P : ℕ → Type 0) → ((k : ℕ) → length others ≤ k → P (suc k))
    → (k : ℕ) → length text ≤ k → P k
by-one text others p front P h zero few =
    absurd (omega (arith, front-shorter text p others front, few))
by-one text others p front P h (suc k) few =
    h k (omega (arith, front-shorter text p others front, few))

-- how the tokens that are read from a text follow from those that are read from the rest
module _ (b : Bool) (text others : Octets) (p : Token)
    (front : token_front text ≡ Some (p, others)) where
  pub reads-on : (ps : List Token) (ending : Ending) → is_misplaced b p ≡ false
      → (is_line_end p && not b) ≡ false → Reads (open_after b p) others ps ending
      → Reads b text (p ∷ ps) ending
  reads-on ps ending sound within reads before = by-one text others p front _ (λ k few.
      (let next = reads (passed k b before text others p front) k few in
      rw (goes_on k b before text others p front sound within) (ap (λ qs. p ∷ qs) next.0, next.1)))

  pub reads-wrong : is_misplaced b p ≡ true → Reads b text [] (at_parenthesis text)
  reads-wrong wrong before = by-one text others p front _ (λ k few.
      rw (stops_wrong k b before text others p front wrong) (refl, refl))

  pub reads-last : is_misplaced b p ≡ false → (is_line_end p && not b) ≡ true
      → Reads b text (p ∷ []) (after_line others)
  reads-last sound ends before = by-one text others p front _ (λ k few.
      rw (ends_line k b before text others p front sound ends) (refl, refl))

pub reads-stop : (b : Bool) (text : Octets) → token_front text ≡ None
    → Reads b text [] (at_stop b text)
reads-stop b text none before k few = rw (stops k b before text none) (refl, refl)

-- b is true if and only if there is a first token and it is a blank
FirstBlank : Bool → Option (Token × Octets) → Type 0
FirstBlank b front = MatchOption front (b ≡ false) (λ r. is_blank_token r.0 ≡ b)

choose : (c b : Bool) (x y : Option (Token × Octets))
    → (c ≡ true → FirstBlank b x) → (c ≡ false → FirstBlank b y) → FirstBlank b (if c then x else y)
unfolding FirstBlank
choose true b x y f g = f refl
choose false b x y f g = g refl

closed-blank : (b : Bool) (raw text : Octets) → b ≡ false → FirstBlank b (closed raw text)
unfolding FirstBlank
closed-blank b raw [] h = h
closed-blank b raw (o ∷ text) h = grind (arith, choose, Some, quoted_string, None)

line_feed-blank : (b : Bool) (text : Octets) → b ≡ false → FirstBlank b (line_feed_front text)
unfolding FirstBlank
line_feed-blank b [] h = h
line_feed-blank b (o ∷ text) h =
    choose (o == 10) b (Some (line_end, text)) None (λ _. sym h) (λ _. h)

first-blank : (text : Octets) → FirstBlank (list_any is_blank (take 1 text)) (token_front text)
unfolding FirstBlank
first-blank [] = refl
first-blank (o ∷ text) =
    subst (λ b. FirstBlank b (token_front (o ∷ text))) (any-one (is_blank o)) by_octet
  where
    any-one : (b : Bool) → b ≡ (b || false)
    any-one true = refl
    any-one false = refl

    by_octet : FirstBlank (is_blank o) (token_front (o ∷ text))
    by_octet = search (arith, choose, closed-blank, line_feed-blank)

blank-front : (text others : Octets) (p : Token) → token_front text ≡ Some (p, others)
    → is_blank_token p ≡ list_any is_blank (take 1 text)
unfolding FirstBlank
blank-front text others p e =
    subst (FirstBlank (list_any is_blank (take 1 text))) e (first-blank text)

none-front : (text : Octets) → token_front text ≡ None → false ≡ list_any is_blank (take 1 text)
unfolding FirstBlank
none-front text e =
    sym (subst (FirstBlank (list_any is_blank (take 1 text))) e (first-blank text))

-- an entry that has ended with its line end remains the same however the text goes on
abbrev Grows : Octets → Octets → List Token → Ending → Type 0
Grows more text ps (after_line rest) =
    (token_front text ≡ None → ⊥) × TokensThen (text ++ more) ps (rest ++ more)
Grows more text ps _ = ⊤

-- what an entry that was read has: parentheses that take turns, and a blank at its beginning if the
-- text has one there
pub record Facts (b : Bool) (text : Octets) (ps : List Token) (ending : Ending) : Type 0 where
  pub turns : take_turns b (parentheses ps) ≡ true
  pub begins : begins_blank ps ≡ list_any is_blank (take 1 text)
  pub grows : (more : Octets) → Grows more text ps ending

one_turn : (b : Bool) (p : Token) (ps : List Token) → is_misplaced b p ≡ false
    → take_turns (open_after b p) (parentheses ps) ≡ true
    → take_turns b (parentheses (p ∷ ps)) ≡ true
one_turn b p ps e h = grind arith

no_blank : (b : Bool) (p : Token) → is_misplaced b p ≡ true → false ≡ is_blank_token p
no_blank b p e = grind arith

module _ (b : Bool) (text others : Octets) (p : Token)
    (front : token_front text ≡ Some (p, others)) where
  some : token_front text ≡ None → ⊥
  some none = none-some (p, others) (sym none ∙ front)

  last-grows : (more : Octets) → (is_line_end p && not b) ≡ true
      → TokensThen (text ++ more) (p ∷ []) (others ++ more)
  last-grows more ends = elim (front_kept more text p others front) [
    | inl kept ↦ (others ++ more, kept, refl)
    | inr h ↦ absurd (false≢true (sym (ap (λ x. x && not b) h.1.inside) ∙ ends))
  ]

  more-grows : (more : Octets) (ps : List Token) (ending : Ending) → Grows more others ps ending
      → Grows more text (p ∷ ps) ending
  more-grows more ps (at_parenthesis place) h = tt
  more-grows more ps (at_stop now rest) h = tt
  more-grows more ps (after_line rest) h = elim (front_kept more text p others front) [
    | inl kept ↦ (some, (others ++ more, kept, h.1))
    | inr cut ↦ absurd (h.0 (cut_none others cut.0))
  ]

pub read-facts : (k : ℕ) (b : Bool) (before : ℕ) (text : Octets) → length text ≤ k
    → Facts b text (tokens_of (read_entry k b before text).0) (read_entry k b before text).1
unfolding read_entry
read-facts zero b before [] few = record { turns = refl; begins = refl; grows = λ more. tt }
read-facts zero b before (o ∷ text) few = absurd (omega (arith, few))
read-facts (suc k) b before text few =
    by_front (token_front text) refl (λ now passed others less. read-facts k now passed others less)
  where
    Read : Bool → Octets → List PlacedToken × Ending → Type 0
    Read now rest r = Facts now rest (tokens_of r.0) r.1

    by_front : (front : Option (Token × Octets)) → token_front text ≡ front
        → ((now : Bool) (passed : ℕ) (others : Octets) → length others ≤ k
        → Read now others (read_entry k now passed others))
        → Read b text (read_entry (suc k) b before text)
    by_front None e later = subst (Read b text) (sym (stops (suc k) b before text e))
        (record { turns = refl; begins = none-front text e; grows = λ more. tt })
    by_front (Some (p, others)) e later =
        by_step (is_misplaced b p) (is_line_end p && not b) refl refl
      where
        first : is_blank_token p ≡ list_any is_blank (take 1 text)
        first = blank-front text others p e

        by_step : (wrong ends : Bool) → is_misplaced b p ≡ wrong
            → (is_line_end p && not b) ≡ ends → Read b text (read_entry (suc k) b before text)
        by_step true ends is _ = subst (Read b text)
            (sym (stops_wrong k b before text others p e is)) (record {
              turns = refl;
              begins = no_blank b p is ∙ first;
              grows = λ more. tt;
            })
        by_step false true is line =
            subst (Read b text) (sym (ends_line k b before text others p e is line)) (record {
              turns = one_turn b p [] is refl;
              begins = first;
              grows = λ more. (some b text others p e, last-grows b text others p e more line);
            })
        by_step false false is line =
            let after = read_entry k (open_after b p) (passed k b before text others p e) others in
            let h = later (open_after b p) (passed k b before text others p e) others
            (omega (arith, front-shorter text p others e, few)) in
            subst (Read b text) (sym (goes_on k b before text others p e is line)) (record {
              turns = one_turn b p (tokens_of after.0) is h.turns;
              begins = first;
              grows = λ more.
                  more-grows b text others p e more (tokens_of after.0) after.1 (h.grows more);
            })

-- what an entry that the code read has
module _ (text : Octets) (ps : List Token) (ending : Ending) (reads : Reads false text ps ending)
  where
    abbrev same : (tokens_of (read_entry (length text) false 0 text).0 ≡ ps)
        × ((read_entry (length text) false 0 text).1 ≡ ending)
    same = reads 0 (length text) (omega arith)

    pub reads-facts : Facts false text ps ending
    reads-facts = subst₂ (Facts false text) same.0 same.1
        (read-facts (length text) false 0 text (omega arith))

    pub reads-well : ReadsWell false text ps ending
    reads-well = subst₂ (ReadsWell false text) same.0 same.1
        (reads_well (length text) false 0 text (omega arith))

-- a token before others does not change where the entry ends
pub same-end : (total : ℕ) (q : PlacedToken) (k : ℕ) (b : Bool) (before : ℕ) (text : Octets)
    → before_end total (q ∷ (read_entry k b before text).0) (read_entry k b before text).1
    ≡ before_end total (read_entry k b before text).0 (read_entry k b before text).1
unfolding read_entry
same-end total q zero b before text = refl
same-end total q (suc k) b before text = by_front (token_front text) refl
  where
    Same : List PlacedToken × Ending → Type 0
    Same r = before_end total (q ∷ r.0) r.1 ≡ before_end total r.0 r.1

    more-same : (p : PlacedToken) (ps : List PlacedToken) (ending : Ending) → Same (p ∷ ps, ending)
    more-same p ps (after_line rest) = refl
    more-same p ps (at_parenthesis place) = refl
    more-same p ps (at_stop b rest) = refl

    by_front : (front : Option (Token × Octets)) → token_front text ≡ front
        → Same (read_entry (suc k) b before text)
    by_front None e = subst Same (sym (stops (suc k) b before text e)) refl
    by_front (Some (p, others)) e =
        by_step (is_misplaced b p) (is_line_end p && not b) refl refl
      where
        by_step : (wrong ends : Bool) → is_misplaced b p ≡ wrong
            → (is_line_end p && not b) ≡ ends → Same (read_entry (suc k) b before text)
        by_step true ends is _ =
            subst Same (sym (stops_wrong k b before text others p e is)) refl
        by_step false true is line =
            subst Same (sym (ends_line k b before text others p e is line)) refl
        by_step false false is line =
            subst Same (sym (goes_on k b before text others p e is line))
            (more-same (placed k b before text others p e)
            (read_entry k (open_after b p) (passed k b before text others p e) others).0
            (read_entry k (open_after b p) (passed k b before text others p e) others).1)
