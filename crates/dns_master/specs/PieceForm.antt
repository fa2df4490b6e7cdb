-- What the entries at the front of a text mean, whatever follows the text.
use Rattle.std.specs.Prelude.{⊤, ◌≡◌, ℕ, ◌+◌, ◌≤◌, ◌<◌, Bool, true, false, List, [], ◌∷◌, ◌++◌, length, Option, None, MatchOption}
use Rattle.std.specs.Io.KnownBytes.{Consumes, IsAtEnd}
use Rattle.dns_spec.specs.Names.{Octets, DomainName}
use Rattle.dns_spec.specs.Records.{ResourceRecord}
use Rattle.dns_spec.specs.FileFaults.{FileFault}
use Rattle.dns_spec.specs.ZoneText.{Entry, extent_by}
use Rattle.dns_spec.specs.Meaning.{Meaning, records, fault_at, after, line_after, KindGives, gives, kind_of}
use Rattle.dns_spec.specs.Laws.{OctetsMean}
use Rattle.dns_master.specs.EarlierForm.{LooksBack}
use Rattle.dns_master.specs.declared.reader.Reader.{Reader}

-- the earlier entries have no fault
abbrev pub AllGive : DomainName → List Entry → Type 0
AllGive o [] = ⊤
AllGive o (e ∷ earlier) =
    ((rs : List ResourceRecord) × KindGives o earlier (kind_of e) (gives rs)) × AllGive o earlier

-- what the reader knows fits the earlier entries, which have no fault
pub record Knows (o : DomainName) (earlier : List Entry) (r : Reader) : Type 0 where
  pub sound : AllGive o earlier
  pub back : LooksBack o earlier r.earlier

-- what a text means from an entry on, after the earlier entries
unfoldable pub TextMeans : DomainName → List Entry → Bool → Octets → Meaning → Type 0
TextMeans o earlier goes_on text m = OctetsMean o earlier (extent_by goes_on) text m

-- the meaning of a text after the entries that the reader knows
abbrev pub ReaderMeans : Reader → Bool → Octets → Meaning → Type 0
ReaderMeans r goes_on text m =
    (o : DomainName) (earlier : List Entry) → Knows o earlier r → r.line ≡ line_after earlier
    → TextMeans o earlier goes_on text m

-- What may follow a text (`more`), and whether the text with `more` goes on past its limit
-- (`past`). If it is unknown whether the text goes on, both may be anything. Otherwise `more` is
-- empty, and `past` is what is known.
abbrev pub MayFollow : Option Bool → Octets → Bool → Type 0
MayFollow goes_on more past = MatchOption goes_on ⊤ (λ known. (more ≡ []) × (past ≡ known))

-- Entries were taken from the front of a text, gave the records `rs`, and left `rest`. Whatever may
-- follow, the whole text means `rs`, followed by what `rest` means.
abbrev pub FrontTaken : Option Bool
    → Reader → Octets → List ResourceRecord → Reader → Octets → Type 0
FrontTaken goes_on old text rs new rest =
    (more : Octets) (past : Bool) (later : Meaning) → MayFollow goes_on more past
    → ReaderMeans new past (rest ++ more) later
    → ReaderMeans old past (text ++ more) (after rs later)

-- a text has this fault, whatever may follow it
abbrev pub FrontFaulty : Option Bool → Reader → Octets → FileFault → ℕ → Type 0
FrontFaulty goes_on r text fault line =
    (more : Octets) (past : Bool) → MayFollow goes_on more past
    → ReaderMeans r past (text ++ more) (fault_at fault line)

-- the first entry of a text was taken; it gave the records `rs` and left `rest`
pub record TakesFirst (goes_on : Option Bool) (old : Reader) (text : Octets)
    (rs : List ResourceRecord) (new : Reader) (rest : Octets) : Type 0 where
  pub taken : FrontTaken goes_on old text rs new rest
  pub shorter : length rest < length text
  pub lines : new.line + length rest ≤ old.line + length text

-- all entries of a text were taken, and their records were added to the caller's collection
pub record TextAdded (r : Reader) (goes_on : Bool) (text : Octets)
    (before after : List ResourceRecord) : Type 0 where
  pub came : List ResourceRecord
  pub grown : after ≡ before ++ came
  pub means : ReaderMeans r goes_on text (records came)

-- entries were taken from the front of a text, and their records were added to the caller's
-- collection
pub record FrontAdded (goes_on : Option Bool) (old : Reader) (text : Octets) (new : Reader)
    (rest : Octets) (before after : List ResourceRecord) : Type 0 where
  pub came : List ResourceRecord
  pub grown : after ≡ before ++ came
  pub taken : FrontTaken goes_on old text came new rest

-- A piece was read, and the entries that were then complete were taken; `more` is false at the end
-- of the source.
pub record PieceTaken (old new : Option Octets) (before : Reader) (held : Octets) (left : ℕ)
    (now : Reader) (held' : Octets) (left' : ℕ) (more : Bool)
    (found found' : List ResourceRecord) : Type 0 where
  pub came : Octets
  pub consumed : Consumes old new came
  pub size : length came + left' ≡ left
  pub over : more ≡ false → (came ≡ []) × IsAtEnd new
  pub some : more ≡ true → left' < left
  pub added : FrontAdded None before (held ++ came) now held' found found'

-- a piece was read, and the held octets followed by that piece have this fault
pub record PieceFaulty (old new : Option Octets) (before : Reader) (held : Octets) (left : ℕ)
    (fault : FileFault) (line : ℕ) : Type 0 where
  pub came : Octets
  pub consumed : Consumes old new came
  pub few : length came ≤ left
  pub is_faulty : FrontFaulty None before (held ++ came) fault line
