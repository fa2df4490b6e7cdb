-- Why entries are rejected, and the faults of their file.
use Rattle.dns_master.proofs.Common.{◌≡◌, ℕ, ◌≤◌, ap, arith, FileFault, too_long, ForFault, OfEntry, code_number, fault_of, IsFaultOn, ReadFault, ReadCode, TooLong}

-- a code up to 15 is one that an entry can have, so a property of its fault is enough
pub refused : (code : ReadCode) (P : FileFault → Type 0)
    → code_number code ≤ 15 → P (fault_of code) → ForFault code P
refused code P low h = record { told = λ _. h; source = λ e. omega (arith, low, ap code_number e) }

-- from the fault of a rejected entry to the fault of the file
pub entry-told : (code : ReadCode) (line : ℕ) (f : ReadFault) (P : FileFault → ℕ → Type 0)
    → IsFaultOn line code f → ForFault code (λ fault. P fault line) → OfEntry P f
entry-told code line f P is h = grind arith

-- from one property of an entry's fault and line to another
pub OfEntry-map : {P Q : FileFault → ℕ → Type 0} (f : ReadFault)
    → ((fault : FileFault) (line : ℕ) → P fault line → Q fault line) → OfEntry P f → OfEntry Q f
OfEntry-map f turn h = grind arith

pub other_than_long : (code : ReadCode) → (code ≡ TooLong → ⊥) → fault_of code ≡ too_long → ⊥
other_than_long code h h1 = grind arith
