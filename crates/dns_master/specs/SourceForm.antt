-- What one read of a source appends to a text, what the whole source means, which of its octets
-- decide that meaning, and what reading a zone file does.
use Rattle.std.specs.Prelude.{⊤, ◌≡◌, ℕ, ◌≤◌, ◌<◌, ◌⊎◌, Bool, true, false, List, [], ◌++◌, length, MatchOption, Option, Result, IfOk, IfErr}
use Rattle.std.specs.Io.KnownBytes.{Consumes, IsAtEnd}
use Rattle.dns_spec.specs.Names.{Octets, DomainName}
use Rattle.dns_spec.specs.Records.{ResourceRecord}
use Rattle.dns_spec.specs.Meaning.{Meaning, Means, records, fault_at, most_records}
use Rattle.dns_name.specs.Counted.{Counted}
use Rattle.dns_master.specs.declared.read_fault.ReadFault.{ReadFault}
use Rattle.dns_master.specs.Codes.{OfFile, failures_after_read}

-- a read appended at most `most` octets of the source; `more` is false only at the end of the
-- source
pub record AppendsPiece (old new : Option Octets) (most : ℕ) (before after : Octets)
    (more : Bool) : Type 0 where
  pub came : Octets
  pub grown : after ≡ before ++ came
  pub consumed : Consumes old new came
  pub short : length came ≤ most
  pub some : more ≡ true → 0 < length came
  pub over : more ≡ false → (came ≡ []) × IsAtEnd new

-- the rest of the source, up to its end, has this meaning as the file of a zone with this origin
abbrev pub GivesMeaning : Option Octets → DomainName → Meaning → Type 0
GivesMeaning known origin m = MatchOption known ⊤ (λ x. Means origin x m)

-- The octets read so far, at most 16777217, decide the meaning: the source is at its end, or every
-- text that begins with them has this meaning.
pub record Decides (old new : Option Octets) (o : DomainName) (m : Meaning) : Type 0 where
  pub given : Octets
  pub consumed : Consumes old new given
  pub few : length given ≤ 16777217
  pub decided : (IsAtEnd new × Means o given m) ⊎ ((more : Octets) → Means o (given ++ more) m)

-- the octets of a source up to its end have this meaning, and those that were read decide it
pub record IsRead (old new : Option Octets) (o : DomainName) (m : Meaning) : Type 0 where
  pub means : GivesMeaning old o m
  pub decides : Decides old new o m

-- The effect of a call that reads a zone file from a counted source; `remaining` gives the source's
-- octets, if they are known. If the call returns a value, the file means the records that `found`
-- gives for that value. If it returns a fault, the file means that fault, unless allocation or the
-- source failed.
pub record ReadsFile {R A : Type 0} (remaining : R → Option Octets) (old new : Counted R)
    (o : DomainName) (found : A → List ResourceRecord) (result : Result A ReadFault) : Type 0 where
  pub ok : IfOk result (λ a. IsRead (remaining old.device) (remaining new.device) o
      (records (found a)))
  pub few : IfOk result (λ a. length (found a) ≤ most_records)
  pub err : IfErr result (OfFile (λ fault line. IsRead (remaining old.device)
      (remaining new.device) o (fault_at fault line)))
  pub counted : new.failures ≡ failures_after_read old.failures result
