-- An entry as it is read, and as it is judged.
use Rattle.dns_master.proofs.Common.{◌≡◌, ℕ, ◌-◌, Bool, true, false, cond, List, length, take, refl, sym, ap, ◌∙◌, subst, inl, inr, arith, Option, Some, None, list_any, Octets, DomainName, ResourceRecord, Entry, FileFault, bad_parenthesis, bad_data, bad_owner, bad_type, no_owner, no_ttl, other_class, too_many_records, directive_words, too_long, gives, kind_of, kind_by_words, is_blank, extent_by, nat_lt, whole_text, beginning, MatchOption, fault_of, Extent, stop_at, stop_fault, ◌==◌, ◌||◌}
use Rattle.std.specs.Bool.{⊤}
use Rattle.dns_spec.specs.FileFaults.{bad_octet, bad_escape, unended_string, unknown_directive, bad_ttl, unreadable, no_memory}
use Rattle.dns_spec.specs.ZoneText.{EntryStop, text_over, in_string, in_token, token_fault, string_fault, unless_cut_short, is_cut_short, begins_line_end, begins_with}
use Rattle.dns_spec.specs.EntryPlaces.{PlacedEntry, Span, Ending, after_line, at_parenthesis, at_stop, ending_fault, end_octets, fault_place}
use Rattle.dns_spec.specs.AllFaults.{HasFault, NumberIs, PlaceIs, place_after, FaultyWord}
use Rattle.dns_master.specs.EntryForm.{shown_ending}
use Rattle.dns_master.specs.TakeForm.{Blamed, BlamedWord, KindOwn}
use Rattle.dns_master.specs.ListingForm.{entry_read, placed, spot_by, shown_fault, fault_in, IsScanned, EntryOwn}
use Rattle.dns_master.specs.declared.earlier.Blame.{Blame}
use Rattle.dns_master.specs.declared.scanned.EntryFault.{EntryFault}
use Rattle.dns_master.specs.declared.scanned.ScannedEntry.{ScannedEntry}
use Rattle.dns_master.proofs.EntryFacts.{Facts, read-facts}
use Rattle.dns_master.proofs.TextSteps.{kind-is, lexical-given, kind-given, given-kind}

-- the place of a fault that is not lexical
module _ (o : DomainName) (earlier : List Entry) (s : ScannedEntry) where
  abbrev at : PlacedEntry
  at = placed s

  word-place : (i : ℕ) (place : Span) (fault : FileFault)
      → FaultyWord o earlier (kind_of at.entry) fault i
      → place ≡ place_after i at
      → (j : ℕ) × FaultyWord o earlier (kind_of at.entry) fault j × (place ≡ place_after j at)
  word-place i place fault w is = (i, w, is)

  pub place-is : (fault : FileFault) (i : ℕ) (place : Span)
      → BlamedWord o earlier (kind_of at.entry) fault i
      → place ≡ spot_by fault i s → PlaceIs o earlier at fault place
  place-is no_owner i place w is = is
  place-is too_many_records i place w is = is
  place-is unknown_directive i place w is = word-place i place unknown_directive w is
  place-is directive_words i place w is = word-place i place directive_words w is
  place-is bad_owner i place w is = word-place i place bad_owner w is
  place-is bad_ttl i place w is = word-place i place bad_ttl w is
  place-is other_class i place w is = word-place i place other_class w is
  place-is bad_type i place w is = word-place i place bad_type w is
  place-is no_ttl i place w is = word-place i place no_ttl w is
  place-is bad_data i place w is = word-place i place bad_data w is
  place-is bad_octet i place w is = absurd w
  place-is bad_escape i place w is = absurd w
  place-is unended_string i place w is = absurd w
  place-is bad_parenthesis i place w is = absurd w
  place-is too_long i place w is = absurd w
  place-is unreadable i place w is = absurd w
  place-is no_memory i place w is = absurd w

-- what holds of the five faults at which reading an entry stops holds of each lexical fault
module _ (P : FileFault → Type 0) (octet : P bad_octet) (escape : P bad_escape)
    (string : P unended_string) (parenthesis : P bad_parenthesis) (long : P too_long) where
  either : (b : Bool) (f g : FileFault) → P f → P g → P (cond b f g)
  either true f g h k = h
  either false f g h k = k

  of-token : (place : Octets) → P (token_fault place)
  of-token place = either (begins_with 92 place) _ _ escape octet

  of-string : (place : Octets) → P (string_fault place)
  of-string place =
      either (length place == 0 || begins_line_end place) _ _ string (of-token place)

  unless-cut : (extent : Extent) (place : Octets) (fault : FileFault) → P fault
      → P (unless_cut_short extent place fault)
  unless-cut whole_text place fault h = h
  unless-cut beginning place fault h = either (is_cut_short place) _ _ long h

  of-stop : (extent : Extent) (is_open : Bool) (stop : EntryStop)
      → MatchOption (stop_fault extent is_open stop) ⊤ P
  of-stop whole_text true text_over = parenthesis
  of-stop whole_text false text_over = tt
  of-stop beginning is_open text_over = long
  of-stop whole_text is_open (in_string place) = of-string place
  of-stop beginning is_open (in_string place) = unless-cut beginning place _ (of-string place)
  of-stop whole_text is_open (in_token place) = of-token place
  of-stop beginning is_open (in_token place) = unless-cut beginning place _ (of-token place)

  of-ending : (extent : Extent) (ending : Ending) → MatchOption (ending_fault extent ending) ⊤ P
  of-ending extent (after_line rest) = tt
  of-ending extent (at_parenthesis place) = parenthesis
  of-ending extent (at_stop is_open rest) = of-stop extent is_open (stop_at rest)

-- a lexical fault has no number, and its place is where reading stops
abbrev Stopped : DomainName → List Entry → PlacedEntry → Span → FileFault → Type 0
Stopped o earlier e place fault =
    NumberIs o earlier (kind_of e.entry) fault None
    × (place ≡ e.stop fault → PlaceIs o earlier e fault place)

module _ (s : ScannedEntry) (h : IsScanned s) where
  abbrev extent : Extent
  extent = extent_by (nat_lt 0 (length s.past.now))

  facts : Facts false s.rest.now (placed s).entry.tokens
      (entry_read (length s.octets.now) s.rest.now).1
  facts = read-facts (length s.rest.now) false (length s.octets.now - length s.rest.now) s.rest.now
      (omega arith)

  abbrev fault-is : Option FileFault
  fault-is = ending_fault extent (shown_ending s.ending)

  end_fault-is : (placed s).entry.end_fault ≡ fault-is
  end_fault-is = ap (ending_fault extent) h.ending_is

  -- the kind of an entry that was read
  pub entry-kind : (blank : Bool) → blank ≡ list_any is_blank (take 1 s.rest.now)
      → kind_of (placed s).entry ≡ kind_by_words blank s.words.now
  entry-kind blank led = kind-is _ _ _ facts extent blank s.words.now led h.words_are

  module _ (o : DomainName) (earlier : List Entry) where
    -- an entry with a lexical fault
    pub stopped-fault : (f : EntryFault) (fault : FileFault) → fault-is ≡ Some fault
        → shown_fault f ≡ fault_in s fault None
        (fault_place (length s.octets.now) s.past.now fault (end_octets (shown_ending s.ending)))
        → HasFault o earlier (placed s) (shown_fault f)
    stopped-fault f fault is same =
        let place = fault_place (length s.octets.now) s.past.now fault
        (end_octets (shown_ending s.ending)) in
        let stopped : Stopped o earlier (placed s) place fault =
        rw is at (of-ending (Stopped o earlier (placed s) place) (refl, λ e. e) (refl, λ e. e)
        (refl, λ e. e) (refl, λ e. e) (refl, λ e. e) extent (shown_ending s.ending)) in
        subst (HasFault o earlier (placed s)) (sym same) (record {
          given = lexical-given _ _ _ facts extent o earlier fault (end_fault-is ∙ is);
          number = stopped.0;
          place = stopped.1 (ap (fault_place (length s.octets.now) s.past.now fault)
              (ap end_octets (sym h.ending_is)));
          entry = refl;
        })

    module _ (blank : Bool) (led : blank ≡ list_any is_blank (take 1 s.rest.now))
        (none : fault-is ≡ None) where
      -- an entry with another fault
      pub blamed-fault : (f : EntryFault) (b : Blame)
          → shown_fault f ≡ fault_in s (fault_of b.code) b.number
          (spot_by (fault_of b.code) b.words s)
          → Blamed o earlier (kind_by_words blank s.words.now) b
          → HasFault o earlier (placed s) (shown_fault f)
      blamed-fault f b same blamed' =
          let blamed : Blamed o earlier (kind_of (placed s).entry) b =
          subst (λ x. Blamed o earlier x b) (sym (entry-kind blank led)) blamed' in
          subst (HasFault o earlier (placed s)) (sym same) (record {
            given = kind-given _ _ _ facts extent o earlier _ (end_fault-is ∙ none) blamed.given;
            number = blamed.number;
            place = place-is o earlier s (fault_of b.code) b.words _ blamed.word refl;
            entry = refl;
          })

      pub entry-own : (rs : List ResourceRecord)
          → KindOwn o earlier (kind_by_words blank s.words.now) rs
          → EntryOwn o earlier (placed s).entry rs
      entry-own rs own' =
          let own : KindOwn o earlier (kind_of (placed s).entry) rs =
          subst (λ x. KindOwn o earlier x rs) (sym (entry-kind blank led)) own' in
          let none' = end_fault-is ∙ none in
          record {
            given = elim own.given [
              | inl g ↦ inl (kind-given _ _ _ facts extent o earlier (gives rs) none' g)
              | inr g ↦ inr (
                (λ given k. g.0 given (given-kind _ _ _ facts extent o earlier given none' k)),
                g.1,
              )
            ];
            origin = own.origin;
          }
