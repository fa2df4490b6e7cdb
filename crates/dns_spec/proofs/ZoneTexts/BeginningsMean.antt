-- The fault of a prefix of a text, other than `too_long`, is the fault of the text.
use Rattle.dns_spec.proofs.Common.{append-nil, ◌≡◌, ℕ, ◌≤◌, ◌⊎◌, inl, inr, Bool, true, false, ◌&&◌, not, Option, Some, None, List, [], ◌∷◌, ◌++◌, map, length, drop, refl, sym, ◌∙◌, ap, subst, arith, false≢true, true≢false, none-some, cons_option, Octets, DomainName, ResourceRecord, FileFault, bad_parenthesis, too_long, faulty, gives, Meaning, records, fault_at, after, line_after, EntriesMean, Means, most_octets, extent_of, Token, token_front, TokensThen, parenthesis, parentheses, is_line_end, open_after, before_first, cut_entries, take_turns, is_open_at_end, is_cut_short, string_length, Extent, beginning, stop_at, string_fault, stop_fault, Entry, ended, unended, with_end, OctetsMean}
use mathlib.Core.Bool.{xor}
use Rattle.dns_spec.proofs.ZoneTexts.TextTokens.{has_tokens, tokens_cut, tokens_then}
use Rattle.dns_spec.proofs.ZoneTexts.Beginnings.{Loose, run_more, stop_place, front_kept, none_kept, cut_none}
use Rattle.dns_spec.proofs.General.Truths.{and_later}
use Rattle.dns_spec.proofs.General.Fronts.{looked_at, dropped_more}

-- the tokens `sure` with which a text begins, however it goes on: all tokens of its beginning, or
-- all but the last
record Settled (more text : Octets) (ts : List Token) (rest : Octets) : Type 0 where
  sure : List Token
  middle : Octets
  loose : List Token
  whole : ts ≡ sure ++ loose
  spelled : TokensThen (text ++ more) sure (middle ++ more)
  ends : ((loose ≡ []) × (middle ≡ rest))
      ⊎ ((t : Token) × (loose ≡ t ∷ []) × Loose t × (is_cut_short rest ≡ true))

last_loose : (more text others : Octets) (t : Token) (ts : List Token) (rest : Octets) → TokensThen
    others ts rest → is_cut_short others ≡ true → Loose t → Settled more text (t ∷ ts) rest
last_loose more text others t [] rest h cut loose =
    record {
      sure = [];
      middle = text;
      loose = t ∷ [];
      whole = refl;
      spelled = refl;
      ends = inr (t, refl, loose, ap is_cut_short (sym h) ∙ cut);
    }
last_loose more text others t (u ∷ ts) rest h cut loose = grind (arith, none-some, cut_none)

settled : (more text : Octets) (ts : List Token) (rest : Octets)
    → TokensThen text ts rest → Settled more text ts rest
settled more text [] rest h =
    record {
      sure = [];
      middle = text;
      loose = [];
      whole = refl;
      spelled = refl;
      ends = inl (refl, h);
    }
settled more text (t ∷ ts) rest (others, e, h) =
    go (front_kept more text t others e) (settled more others ts rest h)
  where
    go : (token_front (text ++ more) ≡ Some (t, others ++ more)) ⊎ ((is_cut_short others ≡ true)
        × Loose t) → Settled more others ts rest → Settled more text (t ∷ ts) rest
    go (inl kept) s = record {
      sure = t ∷ s.sure;
      middle = s.middle;
      loose = s.loose;
      whole = ap (λ us. t ∷ us) s.whole;
      spelled = (others ++ more, kept, s.spelled);
      ends = s.ends;
    }
    go (inr (cut, loose)) s = last_loose more text others t ts rest h cut loose

-- tokens in front of the first list
abbrev before_all : List Token → List (List Token) → List (List Token)
before_all [] es = es
before_all (t ∷ ts) es = before_first t (before_all ts es)

before_all-cons : (ts es : List Token) (ess : List (List Token))
    → before_all ts (es ∷ ess) ≡ (ts ++ es) ∷ ess
before_all-cons [] es ess = refl
before_all-cons (t ∷ ts) es ess = ap (before_first t) (before_all-cons ts es ess)

-- the entries into which tokens are split, whatever tokens follow: whole entries, and a part of one
record Cuts (is_open : Bool) (ts : List Token) : Type 0 where
  whole : List (List Token)
  part : List Token
  now_open : Bool
  cuts : (us : List Token)
      → cut_entries is_open (ts ++ us) ≡ whole ++ before_all part (cut_entries now_open us)

pub cut-on : (b : Bool) (t : Token) (ts : List Token) → (is_line_end t && not b) ≡ false
    → cut_entries b (t ∷ ts) ≡ before_first t (cut_entries (open_after b t) ts)
cut-on b t ts h = rw (h, cut_entries) refl

pub cut-off : (b : Bool) (t : Token) (ts : List Token)
    → (is_line_end t && not b) ≡ true → cut_entries b (t ∷ ts) ≡ (t ∷ []) ∷ cut_entries false ts
cut-off b t ts h = rw (h, cut_entries) refl

cuts_of : (b : Bool) (ts : List Token) → Cuts b ts
cuts_of b [] = record { whole = []; part = []; now_open = b; cuts = λ us. refl }
cuts_of b (t ∷ ts) = go (is_line_end t && not b) refl (λ c. cuts_of c ts)
  where
    within : (whole : List (List Token)) (part : List Token) (now_open : Bool)
        → (is_line_end t && not b) ≡ false → ((us : List Token) → cut_entries (open_after b t)
        (ts ++ us) ≡ whole ++ before_all part (cut_entries now_open us)) → Cuts b (t ∷ ts)
    within [] part now_open e cuts =
        record {
          whole = [];
          part = t ∷ part;
          now_open = now_open;
          cuts = λ us. cut-on b t (ts ++ us) e ∙ ap (before_first t) (cuts us);
        }
    within (first ∷ whole) part now_open e cuts =
        record {
          whole = (t ∷ first) ∷ whole;
          part = part;
          now_open = now_open;
          cuts = λ us. cut-on b t (ts ++ us) e ∙ ap (before_first t) (cuts us);
        }

    go : (ends : Bool)
        → (is_line_end t && not b) ≡ ends → ((c : Bool) → Cuts c ts) → Cuts b (t ∷ ts)
    go true e later =
        let c = later false in
        record {
          whole = (t ∷ []) ∷ c.whole;
          part = c.part;
          now_open = c.now_open;
          cuts = λ us. cut-off b t (ts ++ us) e ∙ ap (λ es. (t ∷ []) ∷ es) (c.cuts us);
        }
    go false e later = let c = later (open_after b t) in within c.whole c.part c.now_open e c.cuts

-- there is a first list
pub record First (ess : List (List Token)) : Type 0 where
  pub first : List Token
  pub others : List (List Token)
  pub is : ess ≡ first ∷ others

pub first_of_cut : (b : Bool) (ts : List Token) → First (cut_entries b ts)
first_of_cut b [] = record { first = []; others = []; is = refl }
first_of_cut b (t ∷ ts) = grind (arith, (first_of_cut (open_after b t) ts))

ended_then : (extent : Extent) (rest : Octets) (whole : List (List Token))
    (first : List Token) (others : List (List Token)) → with_end extent rest
    (whole ++ first ∷ others) ≡ map ended whole ++ with_end extent rest (first ∷ others)
ended_then extent rest [] first others = refl
ended_then extent rest (es ∷ []) first others = refl
ended_then extent rest (es ∷ fs ∷ whole) first others =
    ap (λ x. ended es ∷ x) (ended_then extent rest (fs ∷ whole) first others)

-- the fault of a meaning
fault_of : Meaning → Option FileFault
fault_of (records rs) = None
fault_of (fault_at fault line) = Some fault

after-fault : (rs : List ResourceRecord) (later : Meaning) (fault : FileFault) (line : ℕ)
    → fault_at fault line ≡ after rs later → later ≡ fault_at fault line
unfolding fault_of
after-fault rs later fault line h = grind arith

-- a misplaced parenthesis stays misplaced, whatever follows
turns_fail : (b : Bool) (ts us : List Token)
    → take_turns b (parentheses ts) ≡ false → take_turns b (parentheses (ts ++ us)) ≡ false
turns_fail b [] us h = absurd (true≢false h)
turns_fail b (t ∷ ts) us h = go (parenthesis t) h (λ c. turns_fail c ts us)
  where
    go : (mark : Option Bool) → take_turns b (cons_option mark (parentheses ts)) ≡ false
        → ((c : Bool) → take_turns c (parentheses ts) ≡ false → take_turns c (parentheses
        (ts ++ us)) ≡ false) → take_turns b (cons_option mark (parentheses (ts ++ us))) ≡ false
    go None h later = later b h
    go (Some opens) h later = and_later (xor opens b) _ _ (later opens) h

unmarked_end : (ts : List Token) (t : Token)
    → parenthesis t ≡ None → parentheses (ts ++ t ∷ []) ≡ parentheses ts
unmarked_end [] t e = ap (λ mark. cons_option mark []) e
unmarked_end (u ∷ ts) t e = ap (cons_option (parenthesis u)) (unmarked_end ts t e)

no_end : (ts : List Token) → parentheses (ts ++ []) ≡ parentheses ts
no_end ts = ap parentheses (append-nil ts)

-- the faults at the end of a beginning and of a longer text are the same, if the beginning is not
-- cut short
string_fault_more : (place more : Octets)
    → is_cut_short place ≡ false → string_fault (place ++ more) ≡ string_fault place
string_fault_more place more h = grind arith

string_stop_more : (text more : Octets) → is_cut_short (drop (string_length text) text) ≡ false
    → drop (string_length (text ++ more)) (text ++ more) ≡ drop (string_length text) text ++ more
string_stop_more text more whole = grind (arith, false≢true, run_more, dropped_more)

stop_more : (extent : Extent) (is_open now_open : Bool) (o : ℕ) (text more : Octets) (fault :
    FileFault) → is_cut_short (stop_place o text) ≡ false → stop_fault beginning is_open (stop_at (o
    ∷ text)) ≡ Some fault → stop_fault extent now_open (stop_at (o ∷ (text ++ more))) ≡ Some fault
stop_more extent is_open now_open o text more fault =
    grind (arith, string_stop_more, string_fault_more)

-- the first entries of a text keep their meaning, whatever entries follow
module _ (o : DomainName) (fault : FileFault) (line : ℕ) where
  entries_then : (earlier es xs ys : List Entry) → ((before : List Entry) → EntriesMean o before xs
      (fault_at fault line) → EntriesMean o before ys (fault_at fault line)) → EntriesMean o earlier
      (es ++ xs) (fault_at fault line) → EntriesMean o earlier (es ++ ys) (fault_at fault line)
  entries_then earlier [] xs ys tail h = tail earlier h
  entries_then earlier (e ∷ es) xs ys tail (faulty f, given, h) = (faulty f, given, h)
  entries_then earlier (e ∷ es) xs ys tail (gives rs, given, (later, h, is)) =
      let same = after-fault rs later fault line is in (
        gives rs,
        given,
        (
          fault_at fault line,
          entries_then (e ∷ earlier) es xs ys tail
              (subst (EntriesMean o (e ∷ earlier) (es ++ xs)) same h),
          refl,
        ),
      )

  -- why the last entry of a beginning is faulty
  record LastFault (earlier : List Entry) (ts : List Token) (rest : Octets) : Type 0 where
    line_is : line ≡ line_after earlier
    why : ((take_turns false (parentheses ts) ≡ false) × (fault ≡ bad_parenthesis))
        ⊎ ((take_turns false (parentheses ts) ≡ true)
        × (stop_fault beginning (is_open_at_end ts) (stop_at rest) ≡ Some fault))

  last_fault : (earlier : List Entry) (ts : List Token) (rest : Octets) → EntriesMean o earlier
      (unended beginning rest ts ∷ []) (fault_at fault line) → LastFault earlier ts rest
  last_fault earlier ts rest (given, g, k) = grind arith

  -- a first entry with a misplaced parenthesis
  wrong_first : (extent : Extent) (rest : Octets) (earlier : List Entry)
      (ts : List Token) (others : List (List Token)) → take_turns false (parentheses ts) ≡ false
      → fault ≡ bad_parenthesis → line ≡ line_after earlier
      → EntriesMean o earlier (with_end extent rest (ts ∷ others)) (fault_at fault line)
  wrong_first extent rest earlier ts [] turns is at = (
    faulty bad_parenthesis,
    rw turns refl,
    ap (λ f. fault_at f line) is ∙ ap (λ l. fault_at bad_parenthesis l) at,
  )
  wrong_first extent rest earlier ts (us ∷ others) turns is at = (
    faulty bad_parenthesis,
    rw turns refl,
    ap (λ f. fault_at f line) is ∙ ap (λ l. fault_at bad_parenthesis l) at,
  )

  stopped_last : (extent : Extent) (rest : Octets) (earlier : List Entry) (ts : List Token)
      → take_turns false (parentheses ts) ≡ true → stop_fault extent
      (is_open_at_end ts) (stop_at rest) ≡ Some fault → line ≡ line_after earlier
      → EntriesMean o earlier (unended extent rest ts ∷ []) (fault_at fault line)
  stopped_last extent rest earlier ts turns stop at =
      (faulty fault, rw turns (rw stop refl), ap (λ l. fault_at fault l) at)

-- the entries of tokens and of the tokens after them
cut_with : (extent : Extent) (rest : Octets) (ts us : List Token) (c : Cuts false ts)
    → with_end extent rest (cut_entries false (ts ++ us))
    ≡ map ended c.whole ++ with_end extent rest (before_all c.part (cut_entries c.now_open us))
cut_with extent rest ts us c =
    let f = first_of_cut c.now_open us in
    let shape : before_all c.part (cut_entries c.now_open us) ≡ (c.part ++ f.first) ∷ f.others =
    ap (before_all c.part) f.is ∙ before_all-cons c.part f.first f.others in
    ap (with_end extent rest) (c.cuts us ∙ ap (λ x. c.whole ++ x) shape)
    ∙ ended_then extent rest c.whole (c.part ++ f.first) f.others
    ∙ ap (λ x. map ended c.whole ++ with_end extent rest x) (sym shape)

module _ (o : DomainName) (earlier : List Entry) (fault : FileFault)
    (line : ℕ) (extent : Extent) (front more : Octets) (other : fault ≡ too_long → ⊥)
    (ts : List Token)
    (rest : Octets) (spelled : TokensThen front ts rest) (at_end : token_front rest ≡ None)
    (meant : EntriesMean o earlier
    (with_end beginning rest (cut_entries false ts)) (fault_at fault line)) where
  -- the last entry of the beginning, with the tokens `last`
  module _ (s : Settled more front ts rest) (c : Cuts false s.sure) (last : List Token)
      (is_last : before_all c.part (cut_entries c.now_open s.loose) ≡ last ∷ [])
      (same_marks : parentheses last ≡ parentheses c.part) where
    begun : EntriesMean o earlier
        (map ended c.whole ++ unended beginning rest last ∷ []) (fault_at fault line)
    begun =
        subst (λ es. EntriesMean o earlier es (fault_at fault line))
        (ap (λ x. with_end beginning rest (cut_entries false x)) s.whole ∙ cut_with beginning rest
        s.sure s.loose c ∙ ap (λ x. map ended c.whole ++ with_end beginning rest x) is_last)
        meant

    -- whatever tokens follow
    goes_on : (us : List Token) (end : Octets) → TokensThen (s.middle ++ more) us end
        → token_front end ≡ None → ((before : List Entry) → EntriesMean o before
        (unended beginning rest last ∷ []) (fault_at fault line) → EntriesMean o before
        (with_end extent end (before_all c.part (cut_entries c.now_open us))) (fault_at fault line))
        → OctetsMean o earlier extent (front ++ more) (fault_at fault line)
    goes_on us end h none tail =
        let spelled = tokens_then (front ++ more) (s.middle ++ more) end s.sure us s.spelled h in (
          with_end extent end (cut_entries false (s.sure ++ us)),
          tokens_cut extent (front ++ more) (s.sure ++ us) end spelled none,
          subst (λ es. EntriesMean o earlier es (fault_at fault line))
              (sym (cut_with extent end s.sure us c))
              (entries_then o fault line earlier
              (map ended c.whole) (unended beginning rest last ∷ []) _ tail begun),
        )

    -- a misplaced parenthesis in the last entry
    wrong : (us : List Token) (end : Octets) (before : List Entry) → take_turns false (parentheses
        last) ≡ false → fault ≡ bad_parenthesis → line ≡ line_after before → EntriesMean o before
        (with_end extent end (before_all c.part (cut_entries c.now_open us))) (fault_at fault line)
    wrong us end before turns is at =
        let f = first_of_cut c.now_open us in
        let shape : before_all c.part (cut_entries c.now_open us) ≡ (c.part ++ f.first) ∷ f.others =
        ap (before_all c.part) f.is ∙ before_all-cons c.part f.first f.others in
        let fails : take_turns false (parentheses c.part) ≡ false = grind arith in
        subst (λ x. EntriesMean o before (with_end extent end x) (fault_at fault line)) (sym shape)
        (wrong_first o fault line extent end before
        (c.part ++ f.first) f.others (turns_fail false c.part f.first fails) is at)

    -- the last entry has no fault at its end except `too_long`
    cut_short : ((is_open : Bool) → stop_fault beginning is_open (stop_at rest) ≡ Some too_long)
        → OctetsMean o earlier extent (front ++ more) (fault_at fault line)
    cut_short limit =
        let h = has_tokens (s.middle ++ more) in
        grind (arith, goes_on, by_why, last_fault)
      where
        by_why : (us : List Token) (end : Octets) (before : List Entry)
            → LastFault o fault line before last rest → EntriesMean o before (with_end extent end
            (before_all c.part (cut_entries c.now_open us))) (fault_at fault line)
        by_why us end before l = grind (arith, wrong)

    -- the last entry has another fault at its end, which is not cut short
    stuck : (x : ℕ) (xs : Octets) → rest ≡ x ∷ xs → s.middle ≡ rest → is_cut_short (stop_place x xs)
        ≡ false → OctetsMean o earlier extent (front ++ more) (fault_at fault line)
    stuck x xs shape middle whole =
        goes_on [] (s.middle ++ more) refl
        (ap (λ t. token_front (t ++ more)) (middle ∙ shape)
        ∙ none_kept more x xs (ap token_front (sym shape) ∙ at_end) whole)
        (λ before k. by_why before (last_fault o fault line before last rest k))
      where
        one_entry : before_all c.part (cut_entries c.now_open []) ≡ (c.part ++ []) ∷ []
        one_entry = before_all-cons c.part [] []

        by_why : (before : List Entry) → LastFault o fault line before last rest
            → EntriesMean o before (with_end extent (s.middle ++ more)
            (before_all c.part (cut_entries c.now_open []))) (fault_at fault line)
        by_why before l = elim l.why [
          | inl w ↦ wrong [] (s.middle ++ more) before w.0 w.1 l.line_is
          | inr w ↦
              (let turns : take_turns false (parentheses (c.part ++ [])) ≡ true =
              ap (take_turns false) (no_end c.part ∙ sym same_marks) ∙ w.0 in
              let stop : stop_fault extent (is_open_at_end (c.part ++ [])) (stop_at
              (s.middle ++ more)) ≡ Some fault = ap (λ t. stop_fault extent (is_open_at_end
              (c.part ++ [])) (stop_at (t ++ more))) (middle ∙ shape) ∙ stop_more extent
              (is_open_at_end last) (is_open_at_end (c.part ++ [])) x xs more fault whole
              (ap (λ t. stop_fault beginning (is_open_at_end last) (stop_at t)) (sym shape)
              ∙ w.1) in
              subst (λ x. EntriesMean o before
              (with_end extent (s.middle ++ more) x) (fault_at fault line)) (sym one_entry)
              (stopped_last o fault line extent
              (s.middle ++ more) before (c.part ++ []) turns stop l.line_is))
        ]

  by_rest : (s : Settled more front ts rest) (c : Cuts false s.sure) → s.loose ≡ []
      → s.middle ≡ rest → OctetsMean o earlier extent (front ++ more) (fault_at fault line)
  by_rest s c none middle = go rest refl
    where
      is_last : before_all c.part (cut_entries c.now_open s.loose) ≡ (c.part ++ []) ∷ []
      is_last = grind (arith, before_all-cons)

      by_place : (x : ℕ) (xs : Octets) (b : Bool) → rest ≡ x ∷ xs → is_cut_short
          (stop_place x xs) ≡ b → OctetsMean o earlier extent (front ++ more) (fault_at fault line)
      by_place x xs true shape cut =
          grind (arith, cut_short, is_last, no_end, stop_fault, beginning, stop_at)
      by_place x xs false shape whole = grind (arith, stuck, is_last, no_end, middle)

      go : (r : Octets)
          → rest ≡ r → OctetsMean o earlier extent (front ++ more) (fault_at fault line)
      go [] shape = grind (arith, cut_short, is_last, no_end, stop_fault, beginning, stop_at)
      go (x ∷ xs) shape = by_place x xs (is_cut_short (stop_place x xs)) shape refl

  by_loose : (s : Settled more front ts rest) (c : Cuts false s.sure) (t : Token)
      → s.loose ≡ t ∷ [] → Loose t
      → is_cut_short rest ≡ true → OctetsMean o earlier extent (front ++ more) (fault_at fault line)
  by_loose s c t is loose cut = grind (arith, before_all-cons, cut_short, unmarked_end)

  decided : OctetsMean o earlier extent (front ++ more) (fault_at fault line)
  decided =
      let s = settled more front ts rest spelled in
      let c = cuts_of false s.sure in
      elim s.ends [
        | inl h ↦ by_rest s c h.0 h.1
        | inr h ↦ by_loose s c h.0 h.1 h.2 h.3
      ]

pub beginning_decides : (o : DomainName)
    (earlier : List Entry) (extent : Extent) (front more : Octets) (fault : FileFault) (line : ℕ)
    → OctetsMean o earlier beginning front (fault_at fault line)
    → (fault ≡ too_long → ⊥) → OctetsMean o earlier extent (front ++ more) (fault_at fault line)
beginning_decides o earlier extent front more fault line (es, cut, meant) other =
    decided o earlier fault line extent front more other cut.tokens cut.rest cut.spelled cut.at_end
    (subst (λ es. EntriesMean o earlier es (fault_at fault line)) cut.entries meant)

pub text_decided : (o : DomainName) (front more : Octets) (fault : FileFault) (line : ℕ)
    → length front ≤ most_octets → OctetsMean o [] beginning front (fault_at fault line)
    → (fault ≡ too_long → ⊥) → Means o (front ++ more) (fault_at fault line)
text_decided o front more fault line short meant other =
    let found = looked_at most_octets front more short in
    subst (λ octets. OctetsMean o [] (extent_of (front ++ more)) octets (fault_at fault line))
    (sym found.1)
    (beginning_decides o [] (extent_of (front ++ more)) front found.0 fault line meant other)
