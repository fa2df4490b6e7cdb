-- A text that means records has no fault.
use Rattle.dns_spec.proofs.Common.{◌≡◌, ℕ, zero, suc, ◌+◌, ◌-◌, ◌<◌, inl, inr, Bool, true, false, List, [], ◌∷◌, ◌++◌, length, take, drop, refl, sym, ap, subst, arith, Some, None, DomainName, Octets, ResourceRecord, most_octets, cut_entries, Extent, extent_by, EntriesOf, Entry, ended, with_end, FileFault, bad_parenthesis, faulty, gives, EntryGives, Meaning, records, fault_at, EntriesMean, Means, OctetsMean, PlacedToken, Ending, after_line, at_parenthesis, at_stop, text_after, placed_entry, read_entry, entries_from, PlacedEntry, EntriesGive, AllFaults, false≢true}
use Rattle.dns_spec.proofs.ZoneTexts.TextTokens.{has_tokens, tokens_cut}
use Rattle.dns_spec.proofs.ZoneTexts.EntryReading.{ReadsWell, tokens_of, reads_well}
use Rattle.dns_spec.proofs.ZoneTexts.FirstFault.{ended_first, stop_only, wrong_entry, extent, Lexical, lexical_stop, stops, goes_on}
use Rattle.dns_spec.proofs.ZoneTexts.OneMeaning.{tokens_once}

entries_once : (x : Extent) (text : Octets) (es fs : List Entry)
    → EntriesOf x text es → EntriesOf x text fs → es ≡ fs
entries_once x text es fs h k =
    let same = tokens_once text h.tokens k.tokens h.rest k.rest h.spelled k.spelled h.at_end
    k.at_end in grind (arith, with_end, cut_entries)

records_in : Meaning → List ResourceRecord
records_in (records rs) = rs
records_in (fault_at fault line) = []

same_records : (rs ss : List ResourceRecord) → records rs ≡ records ss → rs ≡ ss
unfolding records_in
same_records rs ss e = ap records_in e

has_fault : Meaning → Bool
has_fault (records rs) = false
has_fault (fault_at fault line) = true

no_fault_in : {A : Type 0} (rs : List ResourceRecord) (fault : FileFault) (line : ℕ)
    → records rs ≡ fault_at fault line → A
unfolding has_fault
no_fault_in rs fault line e = absurd (false≢true (ap has_fault e))

-- the first of some entries that mean records has no fault
record SoundFirst (o : DomainName) (earlier : List Entry) (e : Entry) (es : List Entry)
    (rs : List ResourceRecord) : Type 0 where
  own : List ResourceRecord
  later : List ResourceRecord
  given : EntryGives o earlier e (gives own)
  is : rs ≡ own ++ later
  more : EntriesMean o (e ∷ earlier) es (records later)

sound_first : (o : DomainName) (earlier : List Entry) (e : Entry) (es : List Entry)
    (rs : List ResourceRecord) → EntriesMean o earlier (e ∷ es) (records rs)
    → SoundFirst o earlier e es rs
sound_first o earlier e es rs (faulty fault, given, is) = no_fault_in rs fault _ is
sound_first o earlier e es rs (gives own, given, (fault_at fault line, more, is)) =
    no_fault_in rs fault line is
sound_first o earlier e es rs (gives own, given, (records later, more, is)) =
    record { own = own; later = later; given = given; is = same_records _ _ is; more = more }

-- `past` is what follows the examined octets
module _ (o : DomainName) (octets past : Octets) where
  abbrev x : Extent
  x = extent o octets past []

  -- the first of the entries of a text that means records has no fault
  first_sound : (earlier : List Entry) (text : Octets) (e : Entry) (es : List Entry)
      (rs : List ResourceRecord) → EntriesOf x text (e ∷ es)
      → OctetsMean o earlier x text (records rs) → SoundFirst o earlier e es rs
  first_sound earlier text e es rs are (fs, given, mean) =
      sound_first o earlier e es rs
      (subst (λ l. EntriesMean o earlier l (records rs)) (entries_once x text fs (e ∷ es) given are)
      mean)

  -- no text that means records begins with an entry with a lexical fault
  not_lexical : {A : Type 0} (earlier : List Entry) (text : Octets) (e : Entry) (es : List Entry)
      (rs : List ResourceRecord) → EntriesOf x text (e ∷ es)
      → OctetsMean o earlier x text (records rs) → Lexical o octets past [] e → A
  not_lexical earlier text e es rs are mean lexical =
      grind (arith, first_sound earlier text e es rs are mean)

  abbrev Walks : ℕ → Type 0
  Walks k = (earlier : List Entry) (text : Octets) (rs : List ResourceRecord) → length text < k
      → OctetsMean o earlier x text (records rs)
      → EntriesGive o earlier (entries_from k (length octets) past text) [] rs

  walk : (k : ℕ) → Walks k
  unfolding entries_from
  walk zero earlier text rs few mean = absurd (omega (arith, few))
  walk (suc k) earlier text rs few mean =
      by_case (read_entry (length text) false (length octets - length text) text)
      (reads_well (length text) false (length octets - length text) text (omega arith)) (walk k)
    where
      by_case : (read : List PlacedToken × Ending)
          → ReadsWell false text (tokens_of read.0) read.1 → Walks k
          → EntriesGive o earlier (placed_entry (length octets) past text read
          ∷ elim (text_after read.1) as (λ _. List PlacedEntry) [
            | None ↦ []
            | Some rest ↦ entries_from k (length octets) past rest
          ]) [] rs
      by_case (ps, after_line rest) read walks =
          let h = has_tokens rest in
          let es = with_end x h.rest (cut_entries false h.tokens) in
          let are = tokens_cut x rest h.tokens h.rest h.spelled h.at_end in
          let first = first_sound earlier text (ended (tokens_of ps)) es rs
          (ended_first x text rest (tokens_of ps) es read are) mean in
          let less = read.shorter in
          inr (
            first.own,
            inl first.given,
            (
              first.later,
              first.is,
              walks (ended (tokens_of ps) ∷ earlier) rest first.later (omega (arith, less, few))
                  (es, are, first.more),
            ),
          )
      by_case (ps, at_parenthesis place) read walks =
          let wrong = wrong_entry x text (tokens_of ps) read in
          not_lexical earlier text wrong.entry wrong.first.others rs wrong.first.are mean
          (bad_parenthesis, wrong.fault)
      by_case (ps, at_stop now []) read walks =
          let first = first_sound earlier text _ [] rs
          (stop_only x text [] (tokens_of ps) now read) mean in
          let none = same_records _ [] first.more in
          inr (first.own, inl first.given, (first.later, first.is, (refl, none)))
      by_case (ps, at_stop now (c ∷ rest)) read walks =
          let only = stop_only x text (c ∷ rest) (tokens_of ps) now read in
          let stop = stops o octets past [] now c rest in
          not_lexical earlier text _ [] rs only mean
          (lexical_stop o octets past [] (tokens_of ps) _ stop)

-- A text that means records has no fault, and its entries give these records.
pub no_fault : (o : DomainName) (text : Octets) (rs : List ResourceRecord)
    → Means o text (records rs) → AllFaults o text [] rs
no_fault o text rs h =
    let front = take most_octets text in
    let past = take 1 (drop most_octets text) in
    walk o front past (1 + length front) [] front rs (omega arith)
    (subst (λ g. OctetsMean o [] (extent_by g) front (records rs))
    (sym (goes_on most_octets text)) h)
