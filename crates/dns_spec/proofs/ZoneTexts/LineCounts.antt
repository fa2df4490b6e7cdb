-- The line ends among the tokens of a text are its LFs.
use Rattle.dns_spec.proofs.Common.{◌≡◌, ℕ, zero, suc, ◌+◌, ◌<◌, Bool, true, false, cond, not, ◌==◌, List, [], ◌∷◌, ◌++◌, length, filter, filter-append, length-append, append_assoc, take, drop, take-append-drop, flat_map-cons, prefix_len, refl, sym, ap, ap₂, ◌∙◌, subst, arith, Option, Some, None, none-some, same_Some, eqb-true, leb-true, ne_eqb, Octets, escape_left, Token, line_end, is_blank, unit_left, run_length, word_length, string_length, closed, unquoted_front, line_feed_front, token_front, TokensThen, is_line_end, is_word_octet, is_string_octet, Entry, line_after, AllByRecursion}

-- the number of LFs
abbrev pub feeds : Octets → ℕ
feeds text = length (filter (λ o. o == 10) text)

pub feeds_append : (xs ys : Octets) → feeds (xs ++ ys) ≡ feeds xs + feeds ys
feeds_append xs ys = grind (arith, filter-append, length-append)

abbrev NoFeed : ℕ → Type 0
NoFeed o = (o == 10) ≡ false

none_feeds : (xs : Octets) → AllByRecursion NoFeed xs → feeds xs ≡ 0
none_feeds [] h = refl
none_feeds (x ∷ xs) h = rw (h.0) (none_feeds xs h.1)

one_more : (n o : ℕ) (text : Octets) → NoFeed o → AllByRecursion NoFeed (take n text)
    → AllByRecursion NoFeed (take (1 + n) (o ∷ text))
one_more n o text free more = grind (arith, AllByRecursion, NoFeed)

prefix_free : (p : ℕ → Bool) → ((o : ℕ) → p o ≡ true → NoFeed o) → (text : Octets)
    → AllByRecursion NoFeed (take (prefix_len p text) text)
prefix_free p free [] = tt
prefix_free p free (o ∷ text) = go (p o) refl (prefix_free p free text)
  where
    go : (b : Bool) → p o ≡ b → AllByRecursion NoFeed (take (prefix_len p text) text)
        → AllByRecursion NoFeed (take (cond b (1 + prefix_len p text) 0) (o ∷ text))
    go true e later = one_more (prefix_len p text) o text (free o e) later
    go false e later = tt

-- the octets of an escape are printable
abbrev Past : ℕ → Type 0
Past o = 10 < o

escape_past : (text : Octets) (k : ℕ) → escape_left text ≡ Some k
    → AllByRecursion Past (take k text)
escape_past text k e = grind arith

past_free : (xs : Octets) → AllByRecursion Past xs → AllByRecursion NoFeed xs
past_free [] h = tt
past_free (x ∷ xs) h = (ne_eqb x 10 (λ e. more_than x e h.0), past_free xs h.1)
  where
    more_than : (x : ℕ) → x ≡ 10 → 10 < x → ⊥
    more_than x e h = omega (arith, e, h)

escape_free : (text : Octets) (k : ℕ) → escape_left text ≡ Some k
    → AllByRecursion NoFeed (take k text)
escape_free text k e = past_free (take k text) (escape_past text k e)

unit_free : (p : ℕ → Bool) → ((o : ℕ) → p o ≡ true → NoFeed o) → (o : ℕ) (text : Octets) (k : ℕ)
    → unit_left p o text ≡ Some k → NoFeed o × AllByRecursion NoFeed (take k text)
unit_free p free o text k e = grind (arith, eqb-true, escape_free, same_Some, none-some)

run_free : (p : ℕ → Bool) → ((o : ℕ) → p o ≡ true → NoFeed o) → (k : ℕ) (text : Octets)
    → AllByRecursion NoFeed (take k text) → AllByRecursion NoFeed (take (run_length p k text) text)
unfolding run_length
run_free p free k [] left = tt
run_free p free (suc k) (o ∷ text) left =
    one_more (run_length p k text) o text left.0 (run_free p free k text left.1)
run_free p free zero (o ∷ text) left =
    go (unit_left p o text) refl (λ k. run_free p free k text)
  where
    go : (u : Option ℕ) → unit_left p o text ≡ u
        → ((k : ℕ) → AllByRecursion NoFeed (take k text)
        → AllByRecursion NoFeed (take (run_length p k text) text)) → AllByRecursion
        NoFeed (take (elim u as (λ _. ℕ) [ None ↦ 0 | Some k ↦ 1 + run_length p k text ]) (o ∷ text))
    go None e after = tt
    go (Some k) e after = grind (arith, unit_free, one_more)

-- the octets of the token that begins a text
pub record FrontOf (text : Octets) (p : Token) (others : Octets) : Type 0 where
  pub front : Octets
  pub is : text ≡ front ++ others
  pub lines : feeds front ≡ cond (is_line_end p) 1 0

word_free : (o : ℕ) → is_word_octet o ≡ true → NoFeed o
word_free o e = grind (arith, leb-true)

string_free : (o : ℕ) → is_string_octet o ≡ true → NoFeed o
string_free o e = grind (arith, leb-true)

blank_free : (o : ℕ) → is_blank o ≡ true → NoFeed o
blank_free o e = grind (arith, eqb-true)

-- what precedes the text after the token that begins a text, if one does
abbrev InFront : Octets → Option (Token × Octets) → Type 0
InFront text None = Unit {0}
InFront text (Some r) = FrontOf text r.0 r.1

choose : (text : Octets) (b : Bool) (x y : Option (Token × Octets))
    → (b ≡ true → InFront text x) → (b ≡ false → InFront text y) → InFront text (cond b x y)
choose text true x y f g = f refl
choose text false x y f g = g refl

-- the first octet, then n octets without LF
dropped : (p : Token) (o n : ℕ) (text : Octets) → is_line_end p ≡ false → NoFeed o
    → AllByRecursion NoFeed (take n text) → FrontOf (o ∷ text) p (drop n text)
dropped p o n text inside free more =
    record {
      front = o ∷ take n text;
      is = ap (λ xs. o ∷ xs) (sym (take-append-drop n text));
      lines = none_feeds (o ∷ take n text) (free, more) ∙ sym (ap (λ b. cond b 1 0) inside);
    }

one_octet : (p : Token) (o : ℕ) (text : Octets) → is_line_end p ≡ false → NoFeed o
    → FrontOf (o ∷ text) p text
one_octet p o text inside free = dropped p o 0 text inside free tt

-- a token whose first octet is this number
other_octet : (o k : ℕ) → (o == k) ≡ true → (k == 10) ≡ false → NoFeed o
other_octet o k e free = ap (λ x. x == 10) (eqb-true o k e) ∙ free

feed_in : (o : ℕ) (text : Octets) → (o == 10) ≡ true → FrontOf (o ∷ text) line_end text
feed_in o text e = record { front = o ∷ []; is = refl; lines = rw e refl }

after_return : (o : ℕ) (text : Octets) → (o == 13) ≡ true
    → InFront (o ∷ text) (line_feed_front text)
after_return o [] e = tt
after_return o (f ∷ text) e = choose (o ∷ f ∷ text) (f == 10) _ None
    (λ h. record {
      front = o ∷ f ∷ [];
      is = refl;
      lines = rw (other_octet o 13 e refl) (rw h refl);
    }) (λ h. tt)

quoted_in : (o : ℕ) (text : Octets) → (o == 34) ≡ true
    → (n : ℕ) → AllByRecursion NoFeed (take n text) → (rest : Octets) → drop n text ≡ rest
    → InFront (o ∷ text) (closed (take n text) rest)
quoted_in o text e n free [] is = tt
quoted_in o text e n free (q ∷ rest) is = choose (o ∷ text) (q == 34) _ None
    (λ h. record {
      front = (o ∷ take n text) ++ q ∷ [];
      is = grind (arith, take-append-drop, append_assoc);
      lines = grind (arith, feeds_append, none_feeds, other_octet);
    }) (λ h. tt)

word_in : (text : Octets) → InFront text (unquoted_front text)
word_in text = choose text (word_length text == 0) None _ (λ h. tt)
    (λ h. record {
      front = take (word_length text) text;
      is = sym (take-append-drop (word_length text) text);
      lines = grind (arith, none_feeds, run_free, word_free);
    })

in_front : (text : Octets) → InFront text (token_front text)
in_front [] = tt
in_front (o ∷ text) =
    choose (o ∷ text) (is_blank o) _ _
    (λ e. dropped _ o _ text refl (blank_free o e) (prefix_free is_blank blank_free text)) (λ a.
    choose (o ∷ text) (o == 59) _ _ (λ e. dropped _ o _ text refl (other_octet o 59 e refl)
    (prefix_free (λ x. not (x == 10)) (λ x h. not_feed (x == 10) h) text)) (λ b.
    choose (o ∷ text) (o == 34) _ _ (λ e. quoted_in o text e (string_length text)
    (run_free is_string_octet string_free 0 text tt) (drop (string_length text) text) refl) (λ c.
    choose (o ∷ text) (o == 40) _ _
    (λ e. one_octet _ o text refl (other_octet o 40 e refl)) (λ d.
    choose (o ∷ text) (o == 41) _ _
    (λ e. one_octet _ o text refl (other_octet o 41 e refl)) (λ f.
    choose (o ∷ text) (o == 10) _ _ (feed_in o text) (λ g.
    choose (o ∷ text) (o == 13) _ _ (after_return o text) (λ h. word_in (o ∷ text))))))))
  where
    not_feed : (b : Bool) → not b ≡ true → b ≡ false
    not_feed true e = sym e
    not_feed false e = refl

-- the octets of tokens, and their line ends
pub record TokensOf (text : Octets) (ps : List Token) (rest : Octets) : Type 0 where
  pub front : Octets
  pub is : text ≡ front ++ rest
  pub lines : feeds front ≡ length (filter is_line_end ps)

pub tokens_front : (text : Octets) (ps : List Token) (rest : Octets) → TokensThen text ps rest
    → TokensOf text ps rest
tokens_front text [] rest h = record { front = []; is = h; lines = refl }
tokens_front text (p ∷ ps) rest (others, e, h) =
    let first : FrontOf text p others = subst (InFront text) e (in_front text) in
    let more = tokens_front others ps rest h in
    record {
      front = first.front ++ more.front;
      is = first.is ∙ ap (λ xs. first.front ++ xs) more.is
          ∙ sym (append_assoc first.front more.front rest);
      lines = feeds_append first.front more.front ∙ ap₂ ◌+◌ first.lines more.lines
          ∙ counted (is_line_end p) ps;
    }
  where
    counted : (b : Bool) (ps : List Token) → cond b 1 0 + length (filter is_line_end ps)
        ≡ length (cond b (p ∷ filter is_line_end ps) (filter is_line_end ps))
    counted true ps = omega arith
    counted false ps = omega arith

-- the line on which the next entry begins
pub line_after_one_more : (e : Entry) (earlier : List Entry)
    → line_after (e ∷ earlier) ≡ length (filter is_line_end e.tokens) + line_after earlier
line_after_one_more e earlier = grind (arith, flat_map-cons, filter-append, length-append)
