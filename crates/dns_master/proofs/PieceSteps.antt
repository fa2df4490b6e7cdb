-- What a prefix of a text decides holds however the text goes on.
use Rattle.dns_master.proofs.Common.{◌≡◌, ℕ, ◌-◌, ◌≤◌, inl, inr, Option, None, Some, Bool, true, false, AllGive, Knows, KindGives, EntryKind, kind_of, gives, List, [], ◌∷◌, ◌++◌, length, length-append, append-nil, append_assoc, refl, sym, ap, ◌∙◌, subst, arith, Octets, DomainName, FileFault, too_long, unwrap_or, ResourceRecord, Meaning, records, fault_at, after, Entry, extent_by, beginning_decides, ReaderMeans, MayFollow, FrontTaken, FrontFaulty, FrontAdded, TextAdded, PieceTaken, AppendsPiece, Reader}
unfoldable use Rattle.dns_master.proofs.Common.{TextMeans}
use Rattle.dns_spec.specs.AllFaults.{LookBack}
use Rattle.dns_spec.proofs.ZoneTexts.SomeMeaning.{Known, known_more, nothing_known, sort_sure}
use Rattle.dns_master.specs.EarlierForm.{LooksBack, Passed}
use Rattle.dns_master.specs.TakeForm.{KindOwn}
use Rattle.dns_master.proofs.TextSteps.{nothing-means, past-means}
use Rattle.dns_master.proofs.EntriesLoop.{after-nil, after-append}

-- entries without a fault state valid TTLs
sound-known : (o : DomainName) (earlier : List Entry) → AllGive o earlier → Known earlier
sound-known o [] h = nothing_known
sound-known o (e ∷ earlier) h = known_more o earlier h.0.0 e (sound-known o earlier h.1) h.0.1

-- after entries without a fault, an entry has a meaning
module _ (o : DomainName) (earlier : List Entry) (s : EntryKind) (rs : List ResourceRecord)
    (sound : AllGive o earlier) (own : KindOwn o earlier s rs) where
  pub sure-given : KindGives o earlier s (gives rs)
  sure-given = elim own.given [
    | inl given ↦ given
    | inr none ↦ absurd (sort_sure o earlier s (sound-known o earlier sound)
        (λ found. none.0 found.0 found.1))
  ]

-- an entry without a fault is taken
pub taken-known : (o : DomainName) (earlier : List Entry) (e : Entry) (rs : List ResourceRecord)
    (new : Reader) → AllGive o earlier → KindOwn o earlier (kind_of e) rs
    → Passed o earlier e new.earlier → Knows o (e ∷ earlier) new
taken-known o earlier e rs new sound own p =
    record {
      sound = ((rs, sure-given o earlier (kind_of e) rs sound own), sound);
      back = by_back p.back;
    }
  where
    by_back : LookBack o e earlier p.later → LooksBack o (e ∷ earlier) new.earlier
    by_back (inl (some, is)) = subst (λ es. LooksBack o es new.earlier) is p.known
    by_back (inr (none, is)) = absurd (own.origin none)

-- a fault at the end of an entry is the fault of the whole text; while it is unknown whether the
-- text goes on, TooLong is no such fault
pub end-faulty : (goes_on : Option Bool) (o : DomainName) (earlier : List Entry)
    (text more : Octets) (past : Bool) (fault : FileFault) (line : ℕ) → MayFollow goes_on more past
    → TextMeans o earlier (unwrap_or goes_on true) text (fault_at fault line)
    → (goes_on ≡ None → fault ≡ too_long → ⊥)
    → TextMeans o earlier past (text ++ more) (fault_at fault line)
unfolding TextMeans
end-faulty None o earlier text more past fault line may h other =
    beginning_decides o earlier (extent_by past) text more fault line h (other refl)
end-faulty (Some known) o earlier text more past fault line may h other =
    rw may.0 (rw (append-nil text) (rw may.1 h))

-- nothing was taken
pub nothing-added : (goes_on : Option Bool) (r : Reader)
    (text : Octets) (found : List ResourceRecord) → FrontAdded goes_on r text r text found found
nothing-added goes_on r text found = record {
  came = [];
  grown = sym (append-nil found);
  taken =
      λ more past later may h. subst (ReaderMeans r past (text ++ more)) (sym (after-nil later)) h;
}

module _ (goes_on : Option Bool) (first mid : Reader) (text rest : Octets) (before found :
    List ResourceRecord) (so : FrontAdded goes_on first text mid rest before found) where
  -- one more entry is taken
  pub more-added : (last : Reader) (others : Octets) (rs grown : List ResourceRecord)
      → FrontTaken goes_on mid rest rs last others
      → grown ≡ found ++ rs → FrontAdded goes_on first text last others before grown
  more-added last others rs grown step e = record {
    came = so.came ++ rs;
    grown = e ∙ ap (λ x. x ++ rs) so.grown ∙ append_assoc before so.came rs;
    taken = λ more past later may h.
        subst (ReaderMeans first past (text ++ more)) (after-append so.came rs later)
        (so.taken more past (after rs later) may (step more past later may h));
  }

  -- a fault of the rest is a fault of the text
  pub faulty-after : (fault : FileFault) (line : ℕ)
      → FrontFaulty goes_on mid rest fault line → FrontFaulty goes_on first text fault line
  faulty-after fault line h =
      λ more past may. so.taken more past (fault_at fault line) may (h more past may)

-- a fault that a text has with nothing after it is the fault that it means
pub all-faulty : (past : Bool) (r : Reader) (text : Octets) (fault : FileFault) (line : ℕ)
    → FrontFaulty (Some past) r text fault line → ReaderMeans r past text (fault_at fault line)
all-faulty past r text fault line h = subst
    (λ x. ReaderMeans r past x (fault_at fault line)) (append-nil text) (h [] past (refl, refl))

-- a whole text was taken
module _ (past : Bool) (first last : Reader) (held : Octets) (before found : List ResourceRecord)
    (text rest : Octets) (same : text ≡ held) (none : rest ≡ [])
    (so : FrontAdded (Some past) first text last rest before found) where
  all-taken : (later : Meaning)
      → ReaderMeans last past [] later → ReaderMeans first past held (after so.came later)
  all-taken later h =
      subst (λ x. ReaderMeans first past x (after so.came later)) (append-nil text ∙ same)
      (so.taken [] past later
      (refl, refl) (subst (λ x. ReaderMeans last past (x ++ []) later) (sym none) h))

  -- the whole text was taken, and the file ends there
  pub all-added : past ≡ false → TextAdded first past held before found
  all-added over = record {
    came = so.came;
    grown = so.grown;
    means = subst (λ rs. ReaderMeans first past held (records rs)) (append-nil so.came)
        (all-taken (records []) (λ o earlier known line. rw over (nothing-means o earlier)));
  }

  -- the whole text was taken, and the file goes on past its limit
  pub all-too_long : past ≡ true → ReaderMeans first past held (fault_at too_long last.line)
  all-too_long on = all-taken
      (fault_at too_long last.line) (λ o earlier known line. rw on (rw line (past-means o earlier)))

-- a piece was read, and the entries that it completes were taken
pub piece-taken : (old new : Option Octets) (before now : Reader)
    (held text held' : Octets) (left asked : ℕ) (more : Bool) (found found' : List ResourceRecord)
    → (p : AppendsPiece old new asked held text more)
    → asked ≤ left → FrontAdded None before text now held' found found' → PieceTaken
    old new before held left now held' (left - (length text - length held)) more found found'
piece-taken old new before now held text held' left asked more found found' p most added =
    grind (arith, length-append)
