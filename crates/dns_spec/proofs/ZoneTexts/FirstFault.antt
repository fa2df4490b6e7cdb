-- The first of all faults of a text is the fault that the text means; without a fault, the text
-- means the records of its entries.
use Rattle.dns_spec.proofs.Common.{◌≡◌, ℕ, zero, suc, ◌+◌, ◌-◌, ◌<◌, inl, inr, Bool, true, false, cond, ◌==◌, List, [], ◌∷◌, ◌++◌, append_assoc, length, length-append, take, drop, take-append-drop, take-append_seam, refl, sym, ap, ap₂, ◌∙◌, subst, subst₂, length-drop, lt-ltb, arith, Option, Some, None, DomainName, Octets, ResourceRecord, most_octets, nat_lt, Token, TokensThen, parentheses, take_turns, cut_entries, string_length, Extent, whole_text, beginning, extent_by, EntriesOf, Entry, ended, unended, with_end, in_string, in_token, stop_at, stop_fault, lexical_fault, FileFault, bad_parenthesis, faulty, gives, EntryGives, fault_at, line_after, Means, OctetsMean, PlacedToken, Ending, after_line, at_parenthesis, at_stop, text_after, placed_entry, read_entry, entries_from, PlacedEntry, EntryFault, EntriesGive, AllFaults, line_at}
use Rattle.dns_spec.specs.Laws.{meaning_by}
use Rattle.dns_spec.proofs.ZoneTexts.TextTokens.{HasTokens, has_tokens, tokens_then}
use Rattle.dns_spec.proofs.ZoneTexts.BeginningsMean.{first_of_cut}
use Rattle.dns_spec.proofs.ZoneTexts.EntryReading.{LineRead, StopRead, WrongRead, WrongFirst, ReadsWell, tokens_of, reads_well}
use Rattle.dns_spec.proofs.ZoneTexts.LineCounts.{feeds, feeds_append, tokens_front, line_after_one_more}
use Rattle.dns_spec.proofs.ZoneTexts.SomeMeaning.{Known, known_more, nothing_known, sort_given, entry_sure}

-- the first of the entries into which a text is split, if reading it ends as it should
pub record FirstEntry (extent : Extent) (text : Octets) (e : Entry) : Type 0 where
  pub others : List Entry
  pub are : EntriesOf extent text (e ∷ others)

-- the rest of the entries after one that ends with its line end
pub ended_first : (extent : Extent) (text rest : Octets) (ts : List Token) (es : List Entry)
    → LineRead false text ts rest → EntriesOf extent rest es
    → EntriesOf extent text (ended ts ∷ es)
ended_first extent text rest ts es read more =
    record {
      tokens = ts ++ more.tokens;
      rest = more.rest;
      spelled = tokens_then text rest more.rest ts more.tokens read.spelled more.spelled;
      at_end = more.at_end;
      entries = ap (λ x. ended ts ∷ x) more.entries
          ∙ split (cut_entries false more.tokens) (first_of_cut false more.tokens).first
          (first_of_cut false more.tokens).others (first_of_cut false more.tokens).is
          ∙ ap (with_end extent more.rest) (sym (read.cuts more.tokens));
    }
  where
    split : (pss : List (List Token)) (first : List Token) (others : List (List Token))
        → pss ≡ first ∷ others
        → ended ts ∷ with_end extent more.rest pss ≡ with_end extent more.rest (ts ∷ pss)
    split pss first others e = grind arith

line_first : (extent : Extent) (text rest : Octets) (ts : List Token)
    → LineRead false text ts rest → FirstEntry extent text (ended ts)
line_first extent text rest ts read =
    let h = has_tokens rest in
    let es = with_end extent h.rest (cut_entries false h.tokens) in
    record {
      others = es;
      are = ended_first extent text rest ts es read (record {
        tokens = h.tokens;
        rest = h.rest;
        spelled = h.spelled;
        at_end = h.at_end;
        entries = refl;
      });
    }

pub stop_only : (extent : Extent) (text rest : Octets) (ts : List Token) (now : Bool)
    → StopRead false text ts now rest → EntriesOf extent text
    (record { tokens = ts; end_fault = stop_fault extent now (stop_at rest) } ∷ [])
stop_only extent text rest ts now read =
    record {
      tokens = ts;
      rest = rest;
      spelled = read.spelled;
      at_end = read.at_end;
      entries = grind (arith, stop_fault, stop_at, with_end);
    }

-- an entry with a misplaced parenthesis
pub record WrongEntry (extent : Extent) (text : Octets) : Type 0 where
  pub entry : Entry
  pub first : FirstEntry extent text entry
  pub fault : lexical_fault entry ≡ Some bad_parenthesis

pub wrong_entry : (extent : Extent) (text : Octets) (ts : List Token)
    → WrongRead false text ts → WrongEntry extent text
wrong_entry extent text ts read = by_others w.others w.cuts
  where
    h : HasTokens read.rest
    h = has_tokens read.rest

    w : WrongFirst false (ts ++ read.wrong ∷ h.tokens)
    w = read.wrong_first h.tokens

    spelled : TokensThen text (ts ++ read.wrong ∷ h.tokens) h.rest
    spelled =
        subst (λ xs. TokensThen text xs h.rest) (append_assoc ts (read.wrong ∷ []) h.tokens)
        (tokens_then text read.rest h.rest (ts ++ read.wrong ∷ [])
        h.tokens read.spelled h.spelled)

    by_others : (others : List (List Token))
        → cut_entries false (ts ++ read.wrong ∷ h.tokens) ≡ w.first ∷ others
        → WrongEntry extent text
    by_others [] cuts =
        record {
          entry = unended extent h.rest w.first;
          first = record {
            others = [];
            are = record {
              tokens = ts ++ read.wrong ∷ h.tokens;
              rest = h.rest;
              spelled = spelled;
              at_end = h.at_end;
              entries = ap (with_end extent h.rest) (sym cuts);
            };
          };
          fault = rw w.turns refl;
        }
    by_others (ps ∷ others) cuts =
        record {
          entry = ended w.first;
          first = record {
            others = with_end extent h.rest (ps ∷ others);
            are = record {
              tokens = ts ++ read.wrong ∷ h.tokens;
              rest = h.rest;
              spelled = spelled;
              at_end = h.at_end;
              entries = ap (with_end extent h.rest) (sym cuts);
            };
          };
          fault = rw w.turns refl;
        }

-- `beyond` is what follows the examined octets
module _ (o : DomainName) (octets past beyond : Octets) where
  abbrev pub extent : Extent
  extent = extent_by (nat_lt 0 (length past))

  -- what octets mean that follow these entries
  abbrev Mean : List Entry → Octets → List EntryFault → List ResourceRecord → Type 0
  Mean earlier x found rs = OctetsMean o earlier extent x (meaning_by (octets ++ beyond) found rs)

  line_here : (front x : Octets) → octets ≡ front ++ x
      → line_at (octets ++ beyond) (length octets - length x) ≡ 1 + feeds front
  line_here front x is =
      ap (λ t. 1 + feeds t)
      (subst (λ t. take (length t - length x) (t ++ beyond) ≡ front) (sym is)
      (ap₂ take (places (length-append front x)) (append_assoc front x beyond)
      ∙ take-append_seam front (x ++ beyond)))
    where
      places : length (front ++ x) ≡ length front + length x
          → length (front ++ x) - length x ≡ length front
      places e = omega (arith, e)

  abbrev pub wrong_one : List Token → Entry
  wrong_one ts = record { tokens = ts; end_fault = Some bad_parenthesis }

  faulty_first : (earlier : List Entry) (x : Octets) (e : Entry) (fault : FileFault) (line : ℕ)
      → FirstEntry extent x e → EntryGives o earlier e (faulty fault) → line ≡ line_after earlier
      → OctetsMean o earlier extent x (fault_at fault line)
  faulty_first earlier x e fault line first given is = grind arith

  -- a text whose first entry has a fault
  faulty_by : (earlier : List Entry) (x : Octets) (ps : List PlacedToken) (ending : Ending)
      (fault : FileFault) (line : ℕ) → ReadsWell false x (tokens_of ps) ending
      → EntryGives o earlier (placed_entry (length octets) past x (ps, ending)).entry (faulty fault)
      → line ≡ line_after earlier → OctetsMean o earlier extent x (fault_at fault line)
  faulty_by earlier x ps (after_line rest) fault line read given is =
      faulty_first earlier x _ fault line
      (line_first extent x rest (tokens_of ps) read) given is
  faulty_by earlier x ps (at_stop now rest) fault line read given is =
      faulty_first earlier x _ fault line
      (record { others = []; are = stop_only extent x rest (tokens_of ps) now read }) given is
  faulty_by earlier x ps (at_parenthesis place) fault line read given is =
      grind (arith, wrong_entry extent x (tokens_of ps) read)

  -- an entry with a lexical fault gives no records
  abbrev pub Lexical : Entry → Type 0
  Lexical e = (fault : FileFault) × (lexical_fault e ≡ Some fault)

  pub stops : (now : Bool) (c : ℕ) (rest : Octets)
      → (fault : FileFault) × (stop_fault extent now (stop_at (c ∷ rest)) ≡ Some fault)
  stops now c rest = go extent (c == 34)
    where
      go : (x : Extent) (b : Bool) → (fault : FileFault) × (stop_fault x now
          (cond b (in_string (drop (string_length rest) rest)) (in_token (c ∷ rest)))
          ≡ Some fault)
      go whole_text true = (_, refl)
      go whole_text false = (_, refl)
      go beginning true = (_, refl)
      go beginning false = (_, refl)

  pub lexical_stop : (ts : List Token) (end : Option FileFault)
      → (fault : FileFault) × (end ≡ Some fault)
      → Lexical (record { tokens = ts; end_fault = end })
  lexical_stop ts end (fault, is) = go (take_turns false (parentheses ts))
    where
      go : (b : Bool) → (f : FileFault) × (cond b end (Some bad_parenthesis) ≡ Some f)
      go true = (fault, is)
      go false = (bad_parenthesis, refl)

  -- an entry without a fault that ends with its line end
  sound_line : (earlier : List Entry) (x rest : Octets) (ts : List Token)
      (found : List EntryFault) (own later rs : List ResourceRecord)
      → LineRead false x ts rest → EntryGives o earlier (ended ts) (gives own)
      → rs ≡ own ++ later → Mean (ended ts ∷ earlier) rest found later → Mean earlier x found rs
  sound_line earlier x rest ts found own later rs read given is (es, are, mean) =
      grind (arith, ended_first extent x rest ts es read are)

  -- the last entry, without a fault
  sound_stop : (earlier : List Entry) (x : Octets) (ts : List Token) (now : Bool)
      (found : List EntryFault) (own later rs : List ResourceRecord)
      → StopRead false x ts now []
      → EntryGives o earlier
      (record { tokens = ts; end_fault = stop_fault extent now (stop_at []) }) (gives own)
      → rs ≡ own ++ later → (found ≡ []) × (later ≡ []) → Mean earlier x found rs
  sound_stop earlier x ts now found own later rs read given is none =
      grind (arith, stop_only extent x [] ts now read)

  abbrev Later : ℕ → List Entry → Entry → Ending → List EntryFault → List ResourceRecord → Type 0
  Later k earlier e ending found later =
      EntriesGive o (e ∷ earlier) (elim (text_after ending) as (λ _. List PlacedEntry) [
        | None ↦ []
        | Some rest ↦ entries_from k (length octets) past rest
      ]) found later

  abbrev Walks : ℕ → Type 0
  Walks k = (earlier : List Entry) (front x : Octets) (found : List EntryFault)
      (rs : List ResourceRecord) → length x < k → octets ≡ front ++ x
      → 1 + feeds front ≡ line_after earlier → Known earlier
      → EntriesGive o earlier (entries_from k (length octets) past x) found rs
      → Mean earlier x found rs

  sound_by : (k : ℕ) → Walks k → (earlier : List Entry) (front x : Octets)
      (ps : List PlacedToken) (ending : Ending) (found : List EntryFault)
      (own later rs : List ResourceRecord) → length x < suc k → octets ≡ front ++ x
      → 1 + feeds front ≡ line_after earlier → Known earlier
      → ReadsWell false x (tokens_of ps) ending
      → EntryGives o earlier (placed_entry (length octets) past x (ps, ending)).entry (gives own)
      → rs ≡ own ++ later
      → Later k earlier (placed_entry (length octets) past x (ps, ending)).entry ending found later
      → Mean earlier x found rs
  sound_by k walks earlier front x ps (after_line rest) found own later rs few cut line known
      read given is tail =
      let octets_of = tokens_front x (tokens_of ps) rest read.spelled in
      let e : Entry = ended (tokens_of ps) in
      sound_line earlier x rest (tokens_of ps) found own later rs read given is
      (walks (e ∷ earlier) (front ++ octets_of.front) rest found later
      (let less = read.shorter in omega (arith, less, few))
      (cut ∙ ap (λ t. front ++ t) octets_of.is ∙ sym (append_assoc front octets_of.front rest))
      (lines_on _ _ _ _ _ _ (feeds_append front octets_of.front) octets_of.lines line
      (line_after_one_more e earlier))
      (known_more o earlier own e known (sort_given o earlier own e given)) tail)
    where
      lines_on : (a b c d m n : ℕ) → a ≡ b + c → c ≡ d → 1 + b ≡ m → n ≡ d + m → 1 + a ≡ n
      lines_on a b c d m n p q r s = omega (arith, p, q, r, s)
  sound_by k walks earlier front x ps (at_parenthesis place) found own later rs few cut line known
      read given is tail =
      grind arith
  sound_by k walks earlier front x ps (at_stop now []) found own later rs few cut line known
      read given is tail =
      sound_stop earlier x (tokens_of ps) now found own later rs read given is tail
  sound_by k walks earlier front x ps (at_stop now (c ∷ rest)) found own later rs few cut line known
      read given is tail =
      grind arith

  walk : (k : ℕ) → Walks k
  unfolding entries_from
  walk zero earlier front x found rs few cut line known h = absurd (omega (arith, few))
  walk (suc k) earlier front x found rs few cut line known h =
      by_case (read_entry (length x) false (length octets - length x) x)
      (reads_well (length x) false (length octets - length x) x (omega arith)) (walk k) h
    where
      by_case : (read : List PlacedToken × Ending)
          → ReadsWell false x (tokens_of read.0) read.1 → Walks k
          → EntriesGive o earlier (placed_entry (length octets) past x read
          ∷ elim (text_after read.1) as (λ _. List PlacedEntry) [
            | None ↦ []
            | Some rest ↦ entries_from k (length octets) past rest
          ]) found rs → Mean earlier x found rs
      by_case (ps, ending) read walks (inl (f, has, (more, is, tail))) =
          subst (λ fs. Mean earlier x fs rs) (sym is)
          (faulty_by earlier x ps ending f.fault (line_at (octets ++ beyond) f.entry) read has.given
          (ap (line_at (octets ++ beyond)) has.entry ∙ line_here front x cut ∙ line))
      by_case (ps, ending) read walks (inr (own, inl given, (later, is, tail))) =
          sound_by k walks earlier front x ps ending found own later rs few cut line known
          read given is tail
      by_case (ps, ending) read walks (inr (own, inr (none, no_own), (later, is, tail))) =
          absurd (entry_sure o earlier (placed_entry (length octets) past x (ps, ending)).entry known
          (λ given. none given.0 given.1))

-- whether octets follow the first k of a text
some_left : (text : Octets) → nat_lt 0 (length (take 1 text)) ≡ nat_lt 0 (length text)
some_left [] = refl
some_left (x ∷ text) = sym (lt-ltb 0 (length (x ∷ text)) (omega arith))

pub goes_on : (k : ℕ) (text : Octets)
    → nat_lt 0 (length (take 1 (drop k text))) ≡ nat_lt k (length text)
goes_on k text = grind (arith, some_left, length-drop)

-- The first of all faults of a text, and the line of its entry, are those of the meaning.
pub first_fault : (o : DomainName) (text : Octets) (found : List EntryFault)
    (rs : List ResourceRecord) → AllFaults o text found rs → Means o text (meaning_by text found rs)
first_fault o text found rs h =
    let front = take most_octets text in
    let past = take 1 (drop most_octets text) in
    let means = walk o front past (drop most_octets text) (1 + length front) [] [] front found rs
    (omega arith) refl refl nothing_known h in
    subst₂ (λ t g. OctetsMean o [] (extent_by g) front (meaning_by t found rs))
    (take-append-drop most_octets text) (goes_on most_octets text) means
