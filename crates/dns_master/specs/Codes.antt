-- The fault for each code, and the code's number.
use Rattle.std.specs.Prelude.{◌≡◌, ◌≢◌, ℕ, ◌+◌, ◌==◌, ◌⊎◌, if◌then◌else◌, Result, Ok, Err}
use Rattle.dns_spec.specs.FileFaults.{FileFault, fault_code, bad_octet, bad_escape, unended_string, bad_parenthesis, unknown_directive, directive_words, bad_owner, no_owner, bad_ttl, other_class, bad_type, no_ttl, bad_data, too_many_records, too_long, unreadable, no_memory}
use Rattle.dns_master.specs.declared.read_fault.ReadCode.{ReadCode}
use Rattle.dns_master.specs.declared.read_fault.ReadFault.{ReadFault}
use Rattle.dns_master.specs.declared.read_fault.ReadCode.TheVariants.{BadOctet, BadEscape, UnendedString, Parenthesis, UnknownDirective, DirectiveWords, BadOwner, NoOwner, BadTtl, OtherClass, BadType, NoTtl, BadData, TooManyRecords, TooLong, SourceFailed, NoMemory}

abbrev pub fault_of : ReadCode → FileFault
fault_of BadOctet = bad_octet
fault_of BadEscape = bad_escape
fault_of UnendedString = unended_string
fault_of Parenthesis = bad_parenthesis
fault_of UnknownDirective = unknown_directive
fault_of DirectiveWords = directive_words
fault_of BadOwner = bad_owner
fault_of NoOwner = no_owner
fault_of BadTtl = bad_ttl
fault_of OtherClass = other_class
fault_of BadType = bad_type
fault_of NoTtl = no_ttl
fault_of BadData = bad_data
fault_of TooManyRecords = too_many_records
fault_of TooLong = too_long
fault_of SourceFailed = unreadable
fault_of NoMemory = no_memory

abbrev pub code_number : ReadCode → ℕ
code_number code = fault_code (fault_of code)

-- a source's failure count after a read: one more if and only if the code is SourceFailed (16)
abbrev pub failures_after_read : {A : Type 0} → ℕ → Result A ReadFault → ℕ
failures_after_read count (Ok a) = count
failures_after_read count (Err f) = if code_number f.code == 16 then count + 1 else count

-- An entry was rejected with this code. Unless the code is NoMemory, its fault has the property
-- `says`. The code is never SourceFailed.
pub record ForFault (code : ReadCode) (says : FileFault → Type 0) : Type 0 where
  pub told : code ≢ NoMemory → says (fault_of code)
  pub source : code ≢ SourceFailed

-- A fault of the file that comes from an entry. Unless allocation failed, fault and line have the
-- property `says`; if it failed, the line is 0. The code is never SourceFailed.
pub record OfEntry (says : FileFault → ℕ → Type 0) (f : ReadFault) : Type 0 where
  pub told : f.code ≢ NoMemory → says (fault_of f.code) f.line
  pub source : f.code ≢ SourceFailed
  pub memory : f.code ≡ NoMemory → f.line ≡ 0

-- A fault of the file. Unless allocation or the source failed, fault and line have the property
-- `says`; if one of them failed, the line is 0.
pub record OfFile (says : FileFault → ℕ → Type 0) (f : ReadFault) : Type 0 where
  pub told : f.code ≢ SourceFailed → f.code ≢ NoMemory → says (fault_of f.code) f.line
  pub line : (f.code ≡ SourceFailed) ⊎ (f.code ≡ NoMemory) → f.line ≡ 0

-- the fault f of a file whose entry on this line is rejected with this code
pub record IsFaultOn (line : ℕ) (code : ReadCode) (f : ReadFault) : Type 0 where
  pub code_is : f.code ≡ code
  pub line_is : code ≢ NoMemory → f.line ≡ line
  pub none : code ≡ NoMemory → f.line ≡ 0
