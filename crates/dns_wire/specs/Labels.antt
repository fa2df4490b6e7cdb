-- What one step of reading a name finds at an offset of a message.
use Rattle.std.specs.Prelude.{◌≡◌, ℕ, ◌+◌, ◌<◌, ◌≤◌, length, take, drop, slice_get, Some}
use Rattle.dns_spec.specs.Names.{Octets, DomainName}
use Rattle.dns_spec.specs.NamesInMessages.{pointer_place, RunAt}
use Rattle.dns_wire.specs.declared.name.NameStep.{NameStep}
use Rattle.dns_wire.specs.declared.name.NameStep.TheVariants.{End, Label, Jump}

-- the length of the label l is at offset i, and the label follows it
pub record LabelAt (b : Octets) (i : ℕ) (l : Octets) : Type 0 where
  pub length_there : slice_get b i ≡ Some (length l)
  pub some : 0 < length l
  pub short : length l < 64
  pub within : i + 1 + length l ≤ length b
  pub label : l ≡ take (length l) (drop (i + 1) b)

-- a valid pointer at offset i, in a run of labels that began at offset s, leads to offset p
pub record PointerAt (b : Octets) (s i p : ℕ) : Type 0 where
  pub first : ℕ
  pub second : ℕ
  pub first_there : slice_get b i ≡ Some first
  pub high : 192 ≤ first
  pub second_there : slice_get b (i + 1) ≡ Some second
  pub offset : p ≡ pointer_place first second
  pub after_header : 12 ≤ p
  pub before_run : p < s

-- the root's length 0, a label, or a pointer
abbrev pub StepAt : Octets → ℕ → ℕ → NameStep → Type 0
StepAt b s i End = slice_get b i ≡ Some 0
StepAt b s i (Label l) = LabelAt b i l
StepAt b s i (Jump p) = PointerAt b s i p

-- no name continues at offset i, in a run of labels that began at offset s
abbrev pub NoRunAt : Octets → ℕ → ℕ → Type 0
NoRunAt b s i = (n : DomainName) (e : ℕ) → RunAt b s i n e → ⊥
