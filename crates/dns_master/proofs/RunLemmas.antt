-- How far a run goes, octet by octet and escape by escape.
use Rattle.dns_master.proofs.Common.{get_or, ◌≡◌, ℕ, zero, suc, sym, cond, ◌+◌, ◌≤◌, ◌<◌, Bool, true, false, [], ◌∷◌, length, take, drop, refl, ◌∙◌, ap, arith, Option, None, Some, ◌==◌, nat_eq, MatchOption, list_all, position, position_or_len, prefix_len, unwrap_or, and_parts, ltb-false, none-some, same_Some, prefix_len-le-length, Octets, is_blank, escape_left, unit_left, run_length, is_word_octet, is_string_octet, pointwise, same_text, drop_all, drop-drop, at_drop_more, counted_escape, escape-counted, by_itself, RunKind}
use Rattle.dns_master.specs.declared.run.RunKind.TheVariants.{Word as WordRun, String as StringRun}
use Rattle.dns_spec.proofs.DataWords.BareWords.{no_backslash}
use Rattle.dns_spec.proofs.ZoneTexts.ReadWords.{front_taken}
use Rattle.dns_spec.specs.ZoneText.{token_front, word}
use Rattle.std.proofs.lemmas.List.Folds.{prefix_len-append}
use Rattle.std.proofs.lemmas.List.Sums.{prefix_len_stops}
use Rattle.dns_spec.proofs.Common.{◌++◌, not}

-- the index of the first octet with a property
pub place-some : (p : ℕ → Bool) (text : Octets) (n : ℕ)
    → position p text ≡ Some n → n ≡ position_or_len p text
place-some p text n e = grind (arith, same_Some, none-some)

place-none : (p : ℕ → Bool) (text : Octets)
    → position p text ≡ None → length text ≡ position_or_len p text
place-none p text e = grind (arith, none-some, ltb-false, prefix_len-le-length)

pub none-after : (p : ℕ → Bool) (text : Octets)
    → position p text ≡ None → [] ≡ drop (position_or_len p text) text
none-after p text e = grind (arith, position_or_len, place-none, drop_all)

module _ (by : ℕ → Bool) where
  -- the k octets of an escape that are left are skipped
  skipped : (k : ℕ) (text : Octets)
      → k ≤ length text → run_length by k text ≡ k + run_length by 0 (drop k text)
  unfolding run_length
  skipped zero text h = omega (arith)
  skipped (suc k) [] h = absurd (omega (arith, h))
  skipped (suc k) (o ∷ text) h = grind (arith, run_length, (skipped k text (omega (arith, h))))

  by_unit : (o : ℕ) (text : Octets) (u : Option ℕ) → unit_left by o text ≡ u
      → run_length by 0 (o ∷ text) ≡ elim u [ None ↦ 0 | Some k ↦ 1 + run_length by k text ]
  unfolding run_length
  by_unit o text u e = grind (arith, None, Some, run_length)

  -- an octet that may appear in the run unescaped is counted, and the run goes on after it
  pub run-itself : (o : ℕ) (text : Octets)
      → (o == 92) ≡ false → by o ≡ true → run_length by 0 (o ∷ text) ≡ 1 + run_length by 0 text
  run-itself o text e h = by_unit o text (Some 0) (rw e (rw h refl))

  -- any other octet than a backslash ends the run
  pub run-end : (o : ℕ) (text : Octets)
      → (o == 92) ≡ false → by o ≡ false → run_length by 0 (o ∷ text) ≡ 0
  run-end o text e h = by_unit o text None (rw e (rw h refl))

  unit_of : (o : ℕ) (text : Octets) → (o == 92) ≡ true → unit_left by o text ≡ escape_left text
  unit_of o text e = rw e refl

  -- all octets of an escape are counted, and the run goes on after it
  pub run-escape : (o : ℕ) (text : Octets) → (o == 92) ≡ true
      → (counted_escape text == 0) ≡ false → counted_escape text ≤ length text → run_length by 0
      (o ∷ text) ≡ 1 + counted_escape text + run_length by 0 (drop (counted_escape text) text)
  run-escape o text e h fits = grind (arith, skipped, by_unit, unit_of, escape-counted)

  -- a backslash that begins no escape ends the run
  pub run-no_escape : (o : ℕ) (text : Octets)
      → (o == 92) ≡ true → (counted_escape text == 0) ≡ true → run_length by 0 (o ∷ text) ≡ 0
  run-no_escape o text e h = grind (arith, by_unit, None, unit_of, escape-counted)

  pub run-none : (text : Octets) → length text ≡ 0 → run_length by 0 text ≡ 0
  unfolding run_length
  run-none [] e = refl
  run-none (o ∷ text) e = absurd (omega (arith, e))

one_more : (i k : ℕ) → i + 1 + k ≡ i + (1 + k)
one_more i k = omega arith

-- a backslash never appears unescaped
pub no-backslash : (run : RunKind) (o : ℕ) → by_itself run o ≡ true → (o == 92) ≡ false
no-backslash WordRun o h = no_backslash is_word_octet o refl h
no-backslash StringRun o h = no_backslash is_string_octet o refl h

-- how the run goes on at a place
module _ (run : RunKind) (text : Octets) (i : ℕ) (inside : i < length text) where
  here : run_length (by_itself run) 0
      (drop i text) ≡ run_length (by_itself run) 0 (get_or text i 0 ∷ drop (i + 1) text)
  here = at_drop_more (run_length (by_itself run) 0) text i 0 inside

  pub here-itself : by_itself run (get_or text i 0) ≡ true → run_length
      (by_itself run) 0 (drop i text) ≡ 1 + run_length (by_itself run) 0 (drop (i + 1) text)
  here-itself h = grind (arith, here, run-itself, by_itself, get_or, no-backslash)

  pub here-end : by_itself run (get_or text i 0) ≡ false
      → (get_or text i 0 == 92) ≡ false → run_length (by_itself run) 0 (drop i text) ≡ 0
  here-end h e = here ∙ run-end (by_itself run) (get_or text i 0) (drop (i + 1) text) e h

  -- at a backslash whose escape has `k` octets after it
  module _ (others : Octets) (k : ℕ) (backslash : (get_or text i 0 == 92) ≡ true)
      (is : others ≡ drop (i + 1) text) (counted : k ≡ counted_escape others) where
    pub here-escape : (k == 0) ≡ false → k ≤ length others → run_length (by_itself run) 0
        (drop i text) ≡ 1 + k + run_length (by_itself run) 0 (drop (i + (1 + k)) text)
    here-escape some fits = grind (arith, here, run-escape, drop-drop, one_more)

    pub here-no_escape : (k == 0) ≡ true → run_length (by_itself run) 0 (drop i text) ≡ 0
    here-no_escape none = grind (arith, here, run-no_escape)

-- a run that begins with octets that may appear unescaped goes on after them
pub run-front : (run : RunKind) (n : ℕ) (text : Octets)
    → n ≤ length text → list_all (by_itself run) (take n text) ≡ true
    → run_length (by_itself run) 0 text ≡ n + run_length (by_itself run) 0 (drop n text)
run-front run zero text h e = omega arith
run-front run (suc n) [] h e = absurd (omega (arith, h))
run-front run (suc n) (o ∷ text) h e =
    let parts = and_parts (by_itself run o) (list_all (by_itself run) (take n text)) e in
    let first = run-itself (by_itself run) o text (no-backslash run o parts.0) parts.0 in
    let more = run-front run n text (omega (arith, h)) parts.1 in
    omega (arith, first, more)

-- skipping the blanks after the first blank skips all blanks
pub blank-first : (o : ℕ) (text : Octets) → is_blank o ≡ true
    → drop (prefix_len is_blank text) text ≡ drop (prefix_len is_blank (o ∷ text)) (o ∷ text)
blank-first o text e =
    let one : suc (prefix_len is_blank text) ≡ 1 + prefix_len is_blank text = omega arith in
    ap (λ k. drop k (o ∷ text)) (one ∙ ap (λ b. cond b (1 + prefix_len is_blank text) 0) (sym e))

blanks-passed : (n : ℕ) (text : Octets) → list_all is_blank (take n text) ≡ true
    → drop (prefix_len is_blank (drop n text)) (drop n text) ≡ drop (prefix_len is_blank text) text
blanks-passed zero text e = refl
blanks-passed (suc n) [] e = refl
blanks-passed (suc n) (o ∷ text) e =
    let parts = and_parts (is_blank o) (list_all is_blank (take n text)) e in
    blanks-passed n text parts.1 ∙ blank-first o text parts.0

-- skipping a prefix of spaces first, and then all blanks, leaves the same text as skipping all
-- blanks at once
pub spaces-passed : {R : Type 0} (now : R → Octets) (spaces : Octets) → list_all is_blank spaces
    ≡ true → (found : Option R) (text : R) → MatchOption found (pointwise nat_eq
    (take (length spaces) (now text)) spaces ≡ false) (λ x. (pointwise nat_eq (take (length spaces)
    (now text)) spaces ≡ true) × (now x ≡ drop (length spaces) (now text)) × (length (now x)
    + length spaces ≡ length (now text))) → drop (prefix_len is_blank (now (unwrap_or found text)))
    (now (unwrap_or found text)) ≡ drop (prefix_len is_blank (now text)) (now text)
spaces-passed now spaces all None text m = refl
spaces-passed now spaces all (Some x) text m =
    ap (λ t. drop (prefix_len is_blank t) t) m.1
    ∙ blanks-passed (length spaces) (now text) (ap
    (list_all is_blank) (same_text (take (length spaces) (now text)) spaces (sym m.0)) ∙ all)

-- the longest prefix of a text in which each octet has a property
module _ (p : ℕ → Bool) where
  twice : (text : Octets) → position_or_len (λ x. not (p x)) text ≡ prefix_len p text
  twice [] = refl
  twice (o ∷ text) = grind (arith, (twice text))

  pub front-place : (text : Octets) (found : Option ℕ) → found ≡ position (λ x. not (p x)) text
      → unwrap_or found (length text) ≡ prefix_len p text
  front-place text None e = place-none (λ x. not (p x)) text (sym e) ∙ twice text
  front-place text (Some n) e = place-some (λ x. not (p x)) text n (sym e) ∙ twice text

  -- a text of a group and others
  module _ (text group others : Octets) (is : text ≡ group ++ others) where
    pub front-ends : (n : ℕ) → Some n ≡ position (λ x. not (p x)) group → n ≡ prefix_len p text
    front-ends n e =
        let found = front-place group (Some n) e in
        let inside : n < length group = grind (arith, same_Some, none-some) in
        search (arith, prefix_len-append)

    pub front-goes_on : None ≡ position (λ x. not (p x)) group
        → prefix_len p text ≡ length group + prefix_len p others
    front-goes_on e =
        let all = front-place group None e in search (arith, prefix_len-append)

pub front-all : (p : ℕ → Bool) (text : Octets)
    → list_all p (take (prefix_len p text) text) ≡ true
front-all p [] = refl
front-all p (o ∷ text) = by_case (p o) refl (front-all p text)
  where
    one : 1 + prefix_len p text ≡ suc (prefix_len p text)
    one = omega arith

    by_case : (b : Bool) → p o ≡ b → list_all p (take (prefix_len p text) text) ≡ true
        → list_all p (take (cond (p o) (1 + prefix_len p text) 0) (o ∷ text)) ≡ true
    by_case true e more = rw e (rw one (rw e more))
    by_case false e more = rw e refl

-- a word without an escape extends to the end of the text, or to the first octet that no word may
-- contain
module _ (text : Octets) where
  abbrev count : ℕ
  count = prefix_len is_word_octet text

  on : run_length is_word_octet 0 text ≡ count + run_length is_word_octet 0 (drop count text)
  on = run-front WordRun count text (prefix_len-le-length is_word_octet text)
      (front-all is_word_octet text)

  pub word-to_end : length text ≤ prefix_len is_word_octet text
      → prefix_len is_word_octet text ≡ run_length is_word_octet 0 text
  word-to_end h =
      let none = run-none is_word_octet (drop count text) (ap length (drop_all count text h)) in
      omega (arith, on, none)

  pub word-stops : prefix_len is_word_octet text < length text
      → (get_or text (prefix_len is_word_octet text) 0 == 92) ≡ false
      → prefix_len is_word_octet text ≡ run_length is_word_octet 0 text
  word-stops h e =
      let none = here-end WordRun text count h (prefix_len_stops is_word_octet text 0 h) e in
      omega (arith, on, none)

-- a text that begins with a word octet begins with a word
pub word_first : (o : ℕ) (text : Octets) → is_word_octet o ≡ true
    → token_front (o ∷ text) ≡ Some (
      word (take (run_length is_word_octet 0 (o ∷ text)) (o ∷ text)),
      drop (run_length is_word_octet 0 (o ∷ text)) (o ∷ text),
    )
word_first o text h = grind (arith, run-itself, no-backslash, front_taken)
