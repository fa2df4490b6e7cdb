-- Which header is read, and the invariant of reading questions or records.
use Rattle.std.specs.Prelude.{◌≡◌, ℕ, ◌≤◌, length, ◌==◌, if◌then◌else◌}
use Rattle.dns_spec.specs.Data.{class_in, Valid}
use Rattle.dns_spec.specs.Names.{Octets}
use Rattle.dns_spec.specs.Reading.{Header, head_of, field16}
use Rattle.dns_wire.specs.declared.message.Counts.{Counts}

-- The type that determines the form of a record's data. In a class other than IN it is 0, a type
-- without a mnemonic, whose data is any octets (RFC 3597 3).
abbrev pub data_type : ℕ → ℕ → ℕ
data_type rtype rclass = if rclass == class_in then rtype else 0

-- data is valid for that type
abbrev pub IsWireData : ℕ → ℕ → Octets → Type 0
IsWireData rtype rclass d = Valid (data_type rtype rclass) d

-- b begins with a header with these fields and counts
pub record HeaderAt (b : Octets) (h : Header) (counts : Counts) : Type 0 where
  pub whole : 12 ≤ length b
  pub head : h ≡ head_of b
  pub questions : counts.questions ≡ field16 b 4
  pub answers : counts.answers ≡ field16 b 6
  pub authorities : counts.authorities ≡ field16 b 8
  pub additionals : counts.additionals ≡ field16 b 10
