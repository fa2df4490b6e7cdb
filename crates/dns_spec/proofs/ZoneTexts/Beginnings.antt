-- A text begins with the tokens of each of its prefixes, except for the last of these tokens, which
-- may continue in the text.
use Rattle.dns_spec.proofs.Common.{◌≡◌, ℕ, zero, suc, ◌+◌, ◌⊎◌, inl, inr, Bool, true, false, not, ◌==◌, Option, Some, None, [], ◌∷◌, ◌++◌, take, drop, refl, sym, ◌∙◌, ap, subst, arith, if◌then◌else◌, eqb-true, true≢false, false≢true, none-some, prefix_len, Octets, is_word_octet, Token, blank, comment, word, is_blank, unit_left, run_length, word_length, string_length, quoted_front, unquoted_front, line_feed_front, token_front, parenthesis, is_line_end, is_cut_short}
use Rattle.dns_spec.proofs.ZoneTexts.ReadWords.{front_taken}
use Rattle.dns_spec.proofs.General.Fronts.{drop_one, dropped_more, taken_more}
use Rattle.dns_spec.proofs.General.Tests.{prefix_more}

-- octets that are not cut short are not cut short either if the text goes on
pub uncut : (place more : Octets)
    → is_cut_short place ≡ false → is_cut_short (place ++ more) ≡ false
uncut place more h = grind arith

module _ (by : ℕ → Bool) where
  unit_more : (o : ℕ) (text more : Octets) → (unit_left by o text ≡ None
      → is_cut_short (o ∷ text) ≡ false) → unit_left by o (text ++ more) ≡ unit_left by o text
  unit_more o text more h = grind arith

  -- a run that ends where the text is not cut short ends there too if the text goes on
  pub run_more : (k : ℕ) (text more : Octets) → is_cut_short (drop (run_length by k text) text)
      ≡ false → run_length by k (text ++ more) ≡ run_length by k text
  unfolding run_length
  run_more zero [] more h = absurd (true≢false h)
  run_more (suc k) [] more h = absurd (true≢false h)
  run_more (suc k) (o ∷ text) more h =
      ap (λ n. 1 + n) (run_more k text more
      (ap is_cut_short (sym (drop_one (run_length by k text) o text)) ∙ h))
  run_more zero (o ∷ text) more h = go (unit_left by o text) refl (λ k. run_more k text more) h
    where
      Length : Octets → Option ℕ → ℕ
      Length t u = elim u as (λ _. ℕ) [ None ↦ 0 | Some k ↦ 1 + run_length by k t ]

      go : (u : Option ℕ) → unit_left by o text ≡ u
          → ((k : ℕ) → is_cut_short (drop (run_length by k text) text) ≡ false
          → run_length by k (text ++ more) ≡ run_length by k text) → is_cut_short (drop
          (elim u as (λ _. ℕ) [ None ↦ 0 | Some k ↦ 1 + run_length by k text ]) (o ∷ text)) ≡ false
          → elim (unit_left by o (text ++ more)) as (λ _. ℕ) [
            | None ↦ 0
            | Some k ↦ 1 + run_length by
                k (text ++ more)
          ] ≡ elim u as (λ _. ℕ) [ None ↦ 0 | Some k ↦ 1 + run_length by k text ]
      go None e later h = grind (arith, ℕ, Some, run_length, unit_more)
      go (Some k) e later h =
          grind (arith, ℕ, None, run_length, unit_more, none-some, is_cut_short, drop_one)

-- a token that more octets may continue: neither a parenthesis nor a line end
pub record Loose (t : Token) : Type 0 where
  pub unmarked : parenthesis t ≡ None
  pub inside : is_line_end t ≡ false

-- the octets from the place on at which the text can't continue, if no token begins it
abbrev pub stop_place : ℕ → Octets → Octets
stop_place o text = if o == 34 then drop (string_length text) text else o ∷ text

module _ (more : Octets) where
  -- what a text and a longer one begin with: the same token, or one that may continue; or none, if
  -- the text is not cut short
  Keeps : Octets → Option (Token × Octets) → Option (Token × Octets) → Type 0
  Keeps place None longer = is_cut_short place ≡ false → longer ≡ None
  Keeps place (Some r) longer =
      (longer ≡ Some (r.0, r.1 ++ more)) ⊎ ((is_cut_short r.1 ≡ true) × Loose r.0)

  choose : (place : Octets) (b : Bool) (x y x' y' : Option (Token × Octets))
      → (b ≡ true → Keeps place x x')
      → (b ≡ false → Keeps place y y') → Keeps place (if b then x else y) (if b then x' else y')
  choose place b x y x' y' h h1 = grind arith

  -- a token that extends over all octets that p accepts
  up_to : (place : Octets) (t : Token) (p : ℕ → Bool) (text : Octets)
      → Loose t → Keeps place (Some (t, drop (prefix_len p text) text))
      (Some (t, drop (prefix_len p (text ++ more)) (text ++ more)))
  unfolding Keeps
  up_to place t p text loose = grind (arith, Keeps, inr, inl, prefix_more, dropped_more)

  quoted_keeps : (text : Octets)
      → Keeps (drop (string_length text) text) (quoted_front text) (quoted_front (text ++ more))
  unfolding Keeps
  quoted_keeps text = grind (arith, run_more, taken_more, dropped_more)

  line_feed_keeps : (o : ℕ) (text : Octets)
      → (o == 13) ≡ true → Keeps (o ∷ text) (line_feed_front text) (line_feed_front (text ++ more))
  unfolding Keeps
  line_feed_keeps o text h = grind arith

  taken_keeps : (n : ℕ) (text : Octets) → word_length text ≡ suc n → Keeps text
      (Some (word (take (suc n) text), drop (suc n) text)) (unquoted_front (text ++ more))
  unfolding Keeps
  taken_keeps n text e = grind (arith, false≢true, run_more, front_taken, taken_more, dropped_more)

  word_keeps : (o : ℕ) (text : Octets)
      → Keeps (o ∷ text) (unquoted_front (o ∷ text)) (unquoted_front (o ∷ (text ++ more)))
  unfolding Keeps
  word_keeps o text = go (word_length (o ∷ text)) refl
    where
      go : (n : ℕ) → word_length (o ∷ text) ≡ n
          → Keeps (o ∷ text) (unquoted_front (o ∷ text)) (unquoted_front (o ∷ (text ++ more)))
      go zero e =
          subst (λ n. Keeps (o ∷ text)
          (if n == 0 then None else Some (word (take n (o ∷ text)), drop n (o ∷ text)))
          (unquoted_front (o ∷ (text ++ more)))) (sym e)
          (λ uncut.
          (let same : word_length (o ∷ (text ++ more)) ≡ 0 = run_more is_word_octet 0
          (o ∷ text) more (ap (λ n. is_cut_short (drop n (o ∷ text))) e ∙ uncut)
          ∙ e in ap (λ n. if n == 0 then None else Some
          (word (take n (o ∷ (text ++ more))), drop n (o ∷ (text ++ more)))) same))
      go (suc n) e = grind (arith, taken_keeps n (o ∷ text) e)

  front_keeps : (o : ℕ) (text : Octets)
      → Keeps (stop_place o text) (token_front (o ∷ text)) (token_front (o ∷ (text ++ more)))
  unfolding Keeps
  front_keeps o text =
      choose place (is_blank o) _ _ _ _ (λ _. up_to place blank is_blank text (record
      { unmarked = refl; inside = refl })) (λ _. choose place (o == 59) _ _ _ _ (λ _. up_to
      place comment (λ x. not (x == 10)) text (record { unmarked = refl; inside = refl })) (λ _.
      choose place (o == 34) _ _ _ _ (λ e. subst (λ p. Keeps p (quoted_front text) (quoted_front
      (text ++ more))) (sym (by_mark true e)) (quoted_keeps text)) (λ e. choose place (o == 40)
      _ _ _ _ (λ _. inl refl) (λ _. choose place (o == 41) _ _ _ _ (λ _. inl refl) (λ _. choose
      place (o == 10) _ _ _ _ (λ _. inl refl) (λ _. choose place (o == 13) _ _ _ _ (λ cr. subst
      (λ p. Keeps p (line_feed_front text) (line_feed_front (text ++ more))) (sym (by_mark false
      e)) (line_feed_keeps o text cr)) (λ _. subst (λ p. Keeps p (unquoted_front (o ∷ text))
      (unquoted_front (o ∷ (text ++ more)))) (sym (by_mark false e)) (word_keeps o text))))))))
    where
      place : Octets
      place = stop_place o text

      by_mark : (b : Bool)
          → (o == 34) ≡ b → place ≡ (if b then drop (string_length text) text else o ∷ text)
      by_mark b e = ap (λ b. if b then drop (string_length text) text else o ∷ text) e

  pub front_kept : (text : Octets) (t : Token) (others : Octets) → token_front text
      ≡ Some (t, others) → (token_front (text ++ more) ≡ Some (t, others ++ more))
      ⊎ ((is_cut_short others ≡ true) × Loose t)
  unfolding Keeps
  front_kept [] t others e = absurd (none-some (t, others) e)
  front_kept (o ∷ text) t others e = grind (arith, front_keeps o text)

  pub none_kept : (o : ℕ) (text : Octets) → token_front (o ∷ text) ≡ None
      → is_cut_short (stop_place o text) ≡ false → token_front (o ∷ (text ++ more)) ≡ None
  unfolding Keeps
  none_kept o text e = grind (arith, front_keeps o text)

-- if a text is cut short, no token begins
pub cut_none : (text : Octets) → is_cut_short text ≡ true → token_front text ≡ None
unfolding run_length
cut_none text h = grind (arith, eqb-true)
