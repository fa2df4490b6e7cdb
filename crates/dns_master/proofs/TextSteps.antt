-- The meaning of a text from the start of an entry: what the entry gives, followed by what the rest
-- of the text means.
use Rattle.dns_master.proofs.Common.{◌≡◌, ◌+◌, ◌<◌, ◌==◌, Bool, true, false, List, [], ◌∷◌, ◌++◌, append-nil, length, length-append, take, refl, sym, ap, ap₂, ◌∙◌, subst, arith, Option, Some, None, unwrap_or, false≢true, none-some, if◌then◌else◌, list_any, Octets, DomainName, Word, ResourceRecord, bad_parenthesis, too_long, FileFault, EntryMeaning, faulty, gives, Meaning, records, fault_at, after, line_after, KindGives, kind_of, kind_by_words, EntryGives, EntriesMean, OctetsMean, Token, Entry, ended, TokensThen, is_blank, cut_entries, with_end, take_turns, parentheses, whole_text, extent_by, stop_fault, stop_at, Extent, beginning, in_string, in_token, has_tokens, tokens_cut, line_ends, token_words, MayFollow}
unfoldable use Rattle.dns_master.proofs.Common.{TextMeans}
use Rattle.std.proofs.Common.{subst₂}
use Rattle.dns_spec.specs.ZoneText.{lexical_fault}
use Rattle.dns_spec.specs.EntryPlaces.{Ending, after_line, at_parenthesis, at_stop, ending_fault}
use Rattle.dns_master.specs.EntryForm.{WholeBefore, rest_in}
use Rattle.dns_master.proofs.EntryLoop.{lines-append}
use Rattle.dns_master.proofs.EntryFacts.{Facts}
use Rattle.dns_spec.proofs.ZoneTexts.EntryReading.{ReadsWell}
use Rattle.dns_spec.proofs.ZoneTexts.FirstFault.{ended_first, stop_only, wrong_entry}
unfoldable use Rattle.dns_spec.proofs.ZoneTexts.SomeMeaning.{is_faulty}

-- an entry that was read: what it gives, by the kind of its words and by how reading it ended
module _ (text : Octets) (ps : List Token) (ending : Ending) (facts : Facts false text ps ending)
    (extent : Extent) where
  abbrev pub entry : Entry
  entry = record { tokens = ps; end_fault = ending_fault extent ending }

  pub kind-is : (blank : Bool) (words : List Word) → blank ≡ list_any is_blank (take 1 text)
      → token_words ps ≡ words → kind_of entry ≡ kind_by_words blank words
  kind-is blank words led are = ap₂ kind_by_words (facts.begins ∙ sym led) are

  pub lexical-is : lexical_fault entry ≡ ending_fault extent ending
  lexical-is = rw facts.turns refl

  module _ (o : DomainName) (earlier : List Entry) where
    pub lexical-given : (fault : FileFault) → ending_fault extent ending ≡ Some fault
        → EntryGives o earlier entry (faulty fault)
    lexical-given fault is = rw (lexical-is ∙ is) refl

    pub kind-given : (given : EntryMeaning) → ending_fault extent ending ≡ None
        → KindGives o earlier (kind_of entry) given → EntryGives o earlier entry given
    kind-given given none h = rw (lexical-is ∙ none) h

    pub given-kind : (given : EntryMeaning) → ending_fault extent ending ≡ None
        → EntryGives o earlier entry given → KindGives o earlier (kind_of entry) given
    given-kind given none h = rw (lexical-is ∙ none) at h

answer_records : EntryMeaning → List ResourceRecord
answer_records (faulty code) = []
answer_records (gives rs) = rs

-- an entry without tokens at the end of a text gives nothing
meant-nothing : (o : DomainName) (earlier : List Entry) (later : Meaning) (answer : EntryMeaning)
    → answer ≡ gives [] → elim answer as
    (λ _. Type 0) [
      | faulty code ↦ later ≡ fault_at code (line_after earlier)
      | gives rs ↦
          (more : Meaning) × (more ≡ records []) × (later ≡ after rs more)
    ] → later ≡ records []
unfolding answer_records is_faulty
meant-nothing o earlier later (faulty code) e h = absurd (false≢true (sym (ap is_faulty e)))
meant-nothing o earlier later (gives rs) e h = grind (arith, after, records, answer_records)

pub empty-means : (o : DomainName) (earlier : List Entry) (later : Meaning)
    → OctetsMean o earlier whole_text [] later → later ≡ records []
empty-means o earlier later (es, are, h) =
    go are.tokens are.rest are.spelled
    (subst (λ es. EntriesMean o earlier es later) are.entries h)
  where
    go : (ps : List Token) (rest : Octets) → TokensThen [] ps rest → EntriesMean o earlier
        (with_end whole_text rest (cut_entries false ps)) later → later ≡ records []
    go [] rest e k =
        let m = subst (λ x. EntriesMean o earlier
        (with_end whole_text x (cut_entries false [])) later) (sym e) k in
        meant-nothing o earlier later m.0 m.1 m.2
    go (p ∷ ps) rest e k = absurd (none-some (p, e.0) e.1)

pub nothing-means : (o : DomainName) (earlier : List Entry)
    → TextMeans o earlier false [] (records [])
unfolding TextMeans
nothing-means o earlier =
    (_, tokens_cut whole_text [] [] [] refl refl, (gives [], refl, (records [], refl, refl)))

-- where the text goes on past its limit, it is too long
pub past-means : (o : DomainName) (earlier : List Entry)
    → TextMeans o earlier true [] (fault_at too_long (line_after earlier))
unfolding TextMeans
past-means o earlier = (_, tokens_cut beginning [] [] [] refl refl, (faulty too_long, refl, refl))

-- a text that is not empty and begins with no token is faulty
stuck-faulty : (extent : Extent) (is_open in_a_string : Bool) (x y : Octets)
    → stop_fault extent is_open (if in_a_string then in_string x else in_token y) ≡ None → ⊥
stuck-faulty whole_text is_open true x y e = none-some _ (sym e)
stuck-faulty whole_text is_open false x y e = none-some _ (sym e)
stuck-faulty beginning is_open true x y e = none-some _ (sym e)
stuck-faulty beginning is_open false x y e = none-some _ (sym e)

-- if an entry without a line end has no fault, the text is over
pub over-at_end : (goes_on is_open : Bool) (rest : Octets)
    → stop_fault (extent_by goes_on) is_open (stop_at rest) ≡ None → (rest ≡ []) × (goes_on ≡ false)
over-at_end goes_on is_open (o ∷ rest) e =
    absurd (stuck-faulty (extent_by goes_on) is_open (o == 34) _ _ e)
over-at_end true is_open [] e = absurd (none-some too_long (sym e))
over-at_end false is_open [] e = (refl, refl)

-- a text means the fault of its first entry
first-faulty : (o : DomainName) (earlier : List Entry) (extent : Extent) (text : Octets)
    (ps : List Token) (ending : Ending) (fault : FileFault) → ReadsWell false text ps ending
    → take_turns false (parentheses ps) ≡ true
    → EntryGives o earlier (record { tokens = ps; end_fault = ending_fault extent ending })
    (faulty fault) → OctetsMean o earlier extent text (fault_at fault (line_after earlier))
first-faulty o earlier extent text ps (after_line rest) fault well turns given =
    let h = has_tokens rest in (
      _,
      ended_first extent text rest ps _ well
          (tokens_cut extent rest h.tokens h.rest h.spelled h.at_end),
      (faulty fault, given, refl),
    )
first-faulty o earlier extent text ps (at_stop now rest) fault well turns given =
    (_, stop_only extent text rest ps now well, (faulty fault, given, refl))
first-faulty o earlier extent text ps (at_parenthesis place) fault well turns given =
    let w = wrong_entry extent text ps well in
    (_, w.first.are, (faulty fault, rw w.fault (rw turns at given), refl))

-- a text whose first entry has no lexical fault means what this entry gives, followed by what the
-- rest means
first-gives : (o : DomainName) (earlier : List Entry) (goes_on : Bool) (text : Octets)
    (ps : List Token) (ending : Ending) (rs : List ResourceRecord) (later : Meaning)
    → ReadsWell false text ps ending → take_turns false (parentheses ps) ≡ true
    → ending_fault (extent_by goes_on) ending ≡ None
    → KindGives o earlier (kind_of (ended ps)) (gives rs)
    → OctetsMean o (ended ps ∷ earlier) (extent_by goes_on) (rest_in ending) later
    → OctetsMean o earlier (extent_by goes_on) text (after rs later)
first-gives o earlier goes_on text ps (after_line rest) rs later well turns none given h = (
  ended ps ∷ h.0,
  ended_first (extent_by goes_on) text rest ps h.0 well h.1,
  (gives rs, rw turns given, (later, h.2, refl)),
)
first-gives o earlier goes_on text ps (at_parenthesis place) rs later well turns none given h =
    absurd (none-some bad_parenthesis (sym none))
first-gives o earlier goes_on text ps (at_stop now rest) rs later well turns none given h =
    let over = over-at_end goes_on now rest none in
    let empty = empty-means o (ended ps ∷ earlier) later
    (subst₂ (λ b x. OctetsMean o (ended ps ∷ earlier) (extent_by b) x later) over.1 over.0 h) in (
      _,
      stop_only (extent_by goes_on) text rest ps now well,
      (gives rs, rw turns (rw none given), (records [], refl, ap (after rs) empty)),
    )

-- an entry that was read remains complete however the text goes on
record Remains (past : Bool) (text : Octets) (ps : List Token) (rest : Octets) : Type 0 where
  ending : Ending
  well : ReadsWell false text ps ending
  none : ending_fault (extent_by past) ending ≡ None
  rest_is : rest_in ending ≡ rest

module _ (more : Octets) (past : Bool) (text : Octets) (ps : List Token) (rest : Octets) where
  remains : (goes_on : Option Bool) (ending : Ending) → MayFollow goes_on more past
      → WholeBefore goes_on ending rest → ReadsWell false text ps ending
      → Facts false text ps ending → Remains past (text ++ more) ps (rest ++ more)
  remains goes_on (after_line others) may whole well facts =
      record {
        ending = after_line (others ++ more);
        well = record {
          spelled = (facts.grows more).1;
          cuts = well.cuts;
          shorter = omega (
            arith,
            well.shorter,
            length-append text more,
            length-append others more,
          );
        };
        none = refl;
        rest_is = ap (λ x. x ++ more) whole.1;
      }
  remains goes_on (at_parenthesis place) may whole well facts =
      absurd (none-some bad_parenthesis (sym whole.0))
  remains None (at_stop now place) may whole well facts =
      absurd (false≢true (sym (over-at_end true now place whole.0).1))
  remains (Some known) (at_stop now place) may whole well facts =
      rw may.0 (rw (append-nil text) (rw (append-nil rest) (rw may.1 (record {
        ending = at_stop now place;
        well = well;
        none = whole.0;
        rest_is = whole.1;
      }))))

  -- a complete entry at the front of a text, whatever follows the text
  module _ (o : DomainName) (earlier : List Entry) (goes_on : Option Bool) (ending : Ending)
      (may : MayFollow goes_on more past) (whole : WholeBefore goes_on ending rest)
      (well : ReadsWell false text ps ending) (facts : Facts false text ps ending) where
    pub entry-means : (rs : List ResourceRecord) (later : Meaning)
        → KindGives o earlier (kind_of (ended ps)) (gives rs)
        → TextMeans o (ended ps ∷ earlier) past (rest ++ more) later
        → TextMeans o earlier past (text ++ more) (after rs later)
    unfolding TextMeans
    entry-means rs later given h =
        let r = remains goes_on ending may whole well facts in
        first-gives o earlier past (text ++ more) ps r.ending rs later r.well facts.turns r.none
        given
        (subst (λ x. OctetsMean o (ended ps ∷ earlier) (extent_by past) x later)
        (sym r.rest_is) h)

    pub entry-faulty : (fault : FileFault) → KindGives o earlier (kind_of (ended ps)) (faulty fault)
        → TextMeans o earlier past (text ++ more) (fault_at fault (line_after earlier))
    unfolding TextMeans
    entry-faulty fault given =
        let r = remains goes_on ending may whole well facts in
        first-faulty o earlier (extent_by past) (text ++ more) ps r.ending fault r.well facts.turns
        (rw facts.turns (rw r.none given))

-- a text means the lexical fault of its first entry
pub ends-faulty : (o : DomainName) (earlier : List Entry) (goes_on : Bool) (text : Octets)
    (ps : List Token) (ending : Ending) (fault : FileFault) → ReadsWell false text ps ending
    → Facts false text ps ending → ending_fault (extent_by goes_on) ending ≡ Some fault
    → TextMeans o earlier goes_on text (fault_at fault (line_after earlier))
unfolding TextMeans
ends-faulty o earlier goes_on text ps ending fault well facts is =
    first-faulty o earlier (extent_by goes_on) text ps ending fault well facts.turns
    (lexical-given text ps ending facts (extent_by goes_on) o earlier fault is)

-- the line after an entry
pub line-more : (ps : List Token) (earlier : List Entry)
    → line_after (ended ps ∷ earlier) ≡ line_after earlier + line_ends ps
line-more ps earlier = grind (arith, line_ends, lines-append)

some-shorter : (text rest : Octets) → (text ≡ [] → ⊥) → rest ≡ [] → length rest < length text
some-shorter [] rest some e = absurd (some refl)
some-shorter (o ∷ text) rest some e =
    let none : length rest ≡ 0 = ap length e in omega (arith, none)

-- a complete entry at the front of a text leaves fewer octets
pub entry-shorter : (goes_on : Option Bool) (text rest : Octets) (ps : List Token) (ending : Ending)
    → (text ≡ [] → ⊥) → ReadsWell false text ps ending → WholeBefore goes_on ending rest
    → length rest < length text
entry-shorter goes_on text rest ps (after_line others) some well whole =
    let is = ap length whole.1 in omega (arith, well.shorter, is)
entry-shorter goes_on text rest ps (at_parenthesis place) some well whole =
    absurd (none-some bad_parenthesis (sym whole.0))
entry-shorter goes_on text rest ps (at_stop now place) some well whole =
    some-shorter text rest some
    (sym whole.1 ∙ (over-at_end (unwrap_or goes_on true) now place whole.0).0)
