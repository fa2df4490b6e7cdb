-- What is appended for a word.
use Rattle.std.specs.Prelude.{◌≡◌, ◌≢◌, ℕ, Result, OnOk, IfErr, Bool, false, List, [], ◌∷◌, ◌++◌, map}
use Rattle.std.specs.Char.{to_ascii_lowercase}
use Rattle.dns_spec.specs.Names.{Octets}
use Rattle.dns_spec.specs.Data.{Field, domain}
use Rattle.dns_spec.specs.DataText.{Word, is_unknown_mark}
use Rattle.dns_rdata.specs.RdataFault.{fault_code}
use Rattle.dns_rdata.specs.declared.rdata_fault.RdataFault.{RdataFault}
use Rattle.dns_rdata.specs.declared.rdata_fault.RdataFault.TheVariants.{NoMemory}

-- what is appended for the octets that a word spells: the same octets, but a name in lower case
abbrev pub as_it_is : Octets → Octets
as_it_is d = d

abbrev pub canonical_octets : Field → Octets → Octets
canonical_octets domain = map to_ascii_lowercase
canonical_octets _ = as_it_is

-- some octets are spelled (`says`), and the buffer grew by what is appended for them (`keeps`)
pub record Appends (keeps : Octets → Octets) (says : Octets → Type 0) (before after : Octets)
    : Type 0 where
  pub spelled : Octets
  pub said : says spelled
  pub grown : after ≡ before ++ keeps spelled

-- If the result is no fault, the buffer grew by what is appended for the octets spelled. If it is a
-- fault other than `NoMemory`, no octets are spelled, and the fault has this code.
pub record AppendsSaid
    {A : Type 0} (code : ℕ) (keeps : Octets → Octets) (says : Octets → Type 0)
    (before after : Octets) (result : Result A RdataFault) : Type 0 where
  pub ok : OnOk result (Appends keeps says before after)
  pub fault : IfErr result (λ fault. fault ≢ NoMemory → (d : Octets) → says d → ⊥)
  pub which : IfErr result (λ fault. fault ≢ NoMemory → fault_code fault ≡ code)

-- whether the first word is the unquoted `\#`
abbrev pub is_marked : List Word → Bool
is_marked [] = false
is_marked (w ∷ ws) = is_unknown_mark w
