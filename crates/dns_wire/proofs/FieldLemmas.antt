-- A field of data is read after the fields before it.
use Rattle.dns_spec.specs.MessageFaults.{FieldsFault}
use Rattle.dns_wire.proofs.Common.{refl, ◌≡◌, ◌≢◌, ℕ, ◌-◌, ◌<◌, List, [], ◌∷◌, ◌++◌, length, take, drop, Some, None, arith, append_assoc, append-nil, lt-leb, eq-eqb, Octets, DomainName, Field, domain, Part, part_octets, field_front, name_at, field_at, fields_at, field_own, IsFieldRead}
use Rattle.std.specs.Option.{option_map}
use Rattle.std.specs.Prelude.{◌≤◌}

-- The invariant of reading fields: the octets so far, followed by what the remaining fields spell
-- from offset j on, are what all the fields spell from offset i on; and their fault is that of all.
pub record AreFieldsRead (b : Octets) (ps : List Field) (i e : ℕ) (left : List Field) (j : ℕ)
    (so_far : Octets) : Type 0 where
  pub inside : j ≤ e
  pub same : fields_at b ps i e ≡ option_map (λ d. so_far ++ d) (fields_at b left j e)
  pub faults : (f : ℕ) → FieldsFault b left j e f → FieldsFault b ps i e f

pub field_more : {b : Octets} {ps : List Field} {i e j k : ℕ} {p : Field}
    {left : List Field} {so_far now : Octets} → AreFieldsRead b ps i e (p ∷ left) j so_far
    → IsFieldRead b p j e so_far now k → AreFieldsRead b ps i e left k now
unfolding fields_at
field_more {b} {ps} {i} {e} {j} {k} {p} {left} {so_far} {now} reading read =
    grind (arith, append_assoc)

pub fields_end : {b : Octets} {ps : List Field} {i e j : ℕ} {so_far : Octets}
    → AreFieldsRead b ps i e [] j so_far → j ≡ e → fields_at b ps i e ≡ Some so_far
unfolding fields_at
fields_end {b} {ps} {i} {e} {j} {so_far} reading end = grind (arith, append-nil, eq-eqb)

-- a name that ends past the data is no field of the data
pub long_name_none : (b : Octets) (i e j : ℕ) (n : DomainName)
    → name_at b i ≡ Some (n, j) → e < j → field_at b domain i e ≡ None
long_name_none b i e j n there past = grind (arith, lt-leb)

-- a field other than a name: it is cut from the front of the octets that are left, and appended
pub field_read : (b : Octets) (p : Field) (i e : ℕ) (part : Part) (rest borrowed old now : Octets)
    → p ≢ domain → field_front p (take (e - i) (drop i b)) ≡ Some (part, rest)
    → part_octets part ≡ borrowed → now ≡ old ++ borrowed → IsFieldRead b p i e old now (e - length rest)
field_read b p i e part rest borrowed old now other front lends appended = search arith

pub end_fault_of_all : {b : Octets} {ps : List Field} {i e j : ℕ} {so_far : Octets}
    → AreFieldsRead b ps i e [] j so_far → FieldsFault b ps i e 5
end_fault_of_all reading = reading.faults 5 refl
