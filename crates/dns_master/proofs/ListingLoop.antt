-- The faults of the entries so far, and of the entries after them.
use Rattle.dns_master.proofs.Common.{take, take_all, drop, drop_all, ◌≡◌, ℕ, zero, suc, ◌-◌, ◌<◌, not, Bool, true, false, List, [], ◌∷◌, ◌++◌, append_assoc, append-nil, length, refl, sym, ap, ◌∙◌, subst, inl, inr, arith, Option, Some, None, Octets, DomainName, ResourceRecord}
use Rattle.std.proofs.Common.{subst₂, min}
use Rattle.dns_spec.specs.ZoneText.{most_octets, Entry}
use Rattle.dns_master.proofs.Common.{if◌then◌else◌}
use Rattle.dns_master.proofs.GivenCount.{few_given}
use Rattle.std.specs.Bool.{MatchBool}
use Rattle.dns_spec.specs.EntryPlaces.{PlacedEntry, read_entry, text_after, entries_to_end}
unfoldable use Rattle.dns_spec.specs.EntryPlaces.{entries_from}
use Rattle.dns_spec.specs.AllFaults.{AllFaults, EntryFault, EntriesGive, HasFault, LookBack, is_last}
use Rattle.dns_master.specs.EarlierForm.{LooksBack, Passed}
use Rattle.dns_master.specs.ListingForm.{EntryOwn, entry_at}
use Rattle.dns_master.specs.FaultListForm.{IsList, ListsText, ListedSoFar}
use Rattle.dns_master.specs.declared.earlier.Earlier.{Earlier}
use Rattle.dns_master.specs.declared.listing.FaultList.{FaultList}

-- the entries after the one that begins a text, if reading goes on
abbrev pub entries_after : ℕ → Octets → Octets → Option Octets → List PlacedEntry
entries_after k octets past rest =
    elim rest [
      | None ↦ []
      | Some text ↦ entries_from k (length octets) past text
    ]

-- where reading goes on after the entry that begins a text
abbrev pub rest_after : Octets → Octets → Option Octets
rest_after octets text =
    text_after (read_entry (length text) false (length octets - length text) text).1

first_entry : (k : ℕ) (octets past text : Octets) → 0 < k
    → entries_from k (length octets) past text
    ≡ entry_at (length octets) past text
    ∷ entries_after (k - 1) octets past (rest_after octets text)
unfolding entries_from
first_entry zero octets past text h = absurd (omega (arith, h))
first_entry (suc k) octets past text h =
    subst (λ n. entry_at (length octets) past text
    ∷ entries_after k octets past (rest_after octets text)
    ≡ entry_at (length octets) past text
    ∷ entries_after n octets past (rest_after octets text)) (omega arith) refl

module _ (o : DomainName) (octets past : Octets) (k : Earlier) (list : FaultList)
    (before now : List ResourceRecord) where
  pub first-entry : (left : ℕ) (text : Octets) → 0 < left
      → ListedSoFar o octets past k (entries_from left (length octets) past text) list before now
      → ListedSoFar o octets past k (entry_at (length octets) past text
      ∷ entries_after (left - 1) octets past (rest_after octets text)) list before now
  first-entry left text some =
      subst (λ es. ListedSoFar o octets past k es list before now)
      (first_entry left octets past text some)

  -- reading goes on, or ends, after an entry
  pub entries-left : (left : ℕ) (text : Octets) (rest : Option Octets)
      → rest_after octets text ≡ rest
      → ListedSoFar o octets past k (entries_after left octets past (rest_after octets text)) list
      before now
      → ListedSoFar o octets past k (entries_after left octets past rest) list before now
  entries-left left text rest is =
      subst (λ r. ListedSoFar o octets past k (entries_after left octets past r) list before now) is

-- an entry without a fault
pub own-listed : (o : DomainName) (octets past : Octets) (k k' : Earlier) (e : PlacedEntry)
    (es : List PlacedEntry) (list : FaultList) (before now now' own : List ResourceRecord)
    (so : ListedSoFar o octets past k (e ∷ es) list before now)
    → EntryOwn o so.earlier e.entry own → Passed o so.earlier e.entry k' → now' ≡ now ++ own
    → ListedSoFar o octets past k' es list before now'
own-listed o octets past k k' e es list before now now' own so h p more = by_back p.back
  where
    by_back : LookBack o e.entry so.earlier p.later
        → ListedSoFar o octets past k' es list before now'
    by_back (inr (none, is)) = absurd (h.origin none)
    by_back (inl (some, is)) =
        record {
          earlier = e.entry ∷ so.earlier;
          known = subst (λ l. LooksBack o l k') is p.known;
          found = so.found;
          given = so.given ++ own;
          listed = so.listed;
          grown = more ∙ ap (λ x. x ++ own) so.grown ∙ append_assoc before so.given own;
          goes_on = λ fs rs g.
              subst (λ x. EntriesGive o [] (entries_to_end octets past) (so.found ++ fs) x)
              (sym (append_assoc so.given own rs))
              (so.goes_on fs (own ++ rs) (inr (own, h.given, (rs, refl, g))));
        }

-- an entry with a fault, after which reading goes on or ends
pub fault-listed : (o : DomainName) (octets past : Octets) (k k' : Earlier) (e : PlacedEntry)
    (es : List PlacedEntry) (list list' : FaultList) (before now : List ResourceRecord)
    (f : EntryFault) (so : ListedSoFar o octets past k (e ∷ es) list before now) (is_over : Bool)
    → HasFault o so.earlier e f → is_last f.fault ≡ is_over → Passed o so.earlier e.entry k'
    → IsList list' (so.found ++ f ∷ [])
    → ListedSoFar o octets past k' (if not is_over then es else []) list' before now
fault-listed o octets past k k' e es list list' before now f so is_over h on p longer =
    record {
      earlier = p.later;
      known = p.known;
      found = so.found ++ f ∷ [];
      given = so.given;
      listed = longer;
      grown = so.grown;
      goes_on = λ fs rs g.
          subst (λ x. EntriesGive o [] (entries_to_end octets past) x (so.given ++ rs))
          (sym (append_assoc so.found (f ∷ []) fs))
          (so.goes_on (f ∷ fs) rs (inl (f, h, (fs, refl, rw on (rest is_over fs rs g)))));
    }
  where
    rest : (b : Bool) (fs : List EntryFault) (rs : List ResourceRecord)
        → EntriesGive o p.later (if not b then es else []) fs rs
        → MatchBool b ((fs ≡ []) × (rs ≡ [])) ((later : List Entry)
        × LookBack o e.entry so.earlier later × EntriesGive o later es fs rs)
    rest true fs rs g = g
    rest false fs rs g = (p.later, p.back, g)

take_less : {A : Type 0} (m : ℕ) (xs : List A) → take (min (length xs) m) xs ≡ take m xs
take_less m xs = grind (arith, take_all)

drop_less : {A : Type 0} (m : ℕ) (xs : List A) → drop (min (length xs) m) xs ≡ drop m xs
drop_less m xs = grind (arith, drop_all)

-- no entry is left of a text, which is examined up to its limit, and one octet past it
pub all-listed : (o : DomainName) (text octets rest past : Octets) (n m : ℕ) (k : Earlier)
    (list : FaultList) (before now : List ResourceRecord) → octets ≡ take n text
    → rest ≡ drop n text → n ≡ min (length text) most_octets → past ≡ take m rest
    → m ≡ min (length rest) 1 → ListedSoFar o octets past k [] list before now
    → ListsText o text list before now
all-listed o text octets rest past n m k list before now is back n_is front m_is so =
    let octets_are = is ∙ ap (λ n. take n text) n_is ∙ take_less most_octets text in
    let past_is = front ∙ ap (λ m. take m rest) m_is ∙ take_less 1 rest
    ∙ ap (take 1) (back ∙ ap (λ n. drop n text) n_is ∙ drop_less most_octets text) in
    let are : AllFaults o text so.found so.given =
    subst₂ (λ x y. EntriesGive o [] (entries_to_end x y) so.found so.given) octets_are past_is
    (subst₂ (EntriesGive o [] (entries_to_end octets past)) (append-nil so.found)
    (append-nil so.given) (so.goes_on [] [] (refl, refl))) in
    record {
      found = so.found;
      given = so.given;
      are = are;
      listed = so.listed;
      grown = so.grown;
      few = few_given o _ so.found so.given are;
    }

-- as many entries were taken as a text may have
pub none-left : (o : DomainName) (octets past : Octets) (k : Earlier) (list : FaultList)
    (before now : List ResourceRecord) (left : ℕ) (text : Octets) → left ≡ 0
    → ListedSoFar o octets past k (entries_from left (length octets) past text) list before now
    → ListedSoFar o octets past k [] list before now
unfolding entries_from
none-left o octets past k list before now zero text none so = so
none-left o octets past k list before now (suc n) text none so = absurd (omega (arith, none))
