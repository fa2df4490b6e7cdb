-- The invariant of a built zone, and the serial number of its SOA.
use Rattle.dns_zone.proofs.Common.{◌≡◌, ℕ, ◌≤◌, List, length, sym, ap, ◌∙◌, All, filter, arith, nil_from_length, DomainName, folded, same, ResourceRecord, ZoneContents, zone_of, records_equal, distinct, sort_by, record_order, first_serial, zone_serial, Fault, faults, most_records, IsReadRecord, is_soa, folded_folded, one_soa, ordered_faults, AreOrdered, IsBuilt}

below : (a b c : ℕ) → a ≤ b → b ≤ c → a ≤ c
below a b c h k = omega arith

-- the origin in lower case, the records in canonical order, and their faults
module _ (o n : DomainName) (rs xs ys : List ResourceRecord) (fs : List Fault)
    (low : n ≡ folded o) (canonical : xs ≡ sort_by record_order (distinct records_equal rs))
    (borrowed : ys ≡ xs)
    (faults_are : fs ≡ faults (record { origin = n; records = ys })) where
  found : fs ≡ faults (record { origin = n; records = xs })
  found = grind (arith, faults)

  pub found_of_read : fs ≡ faults (zone_of o rs)
  found_of_read = grind (arith, found, faults, ordered_faults)

  pub built : length fs ≡ 0 → length rs ≤ most_records → length xs ≤ length rs
      → AreOrdered xs → All IsReadRecord xs → IsBuilt (record { origin = n; records = xs })
  built none few fewer ordered each = grind (arith, folded_folded, below, found, nil_from_length)

-- the SOAs at a name
abbrev pub soas_at : DomainName → List ResourceRecord → List ResourceRecord
soas_at o rs = filter is_soa (filter (λ (r : ResourceRecord). same r.owner o) rs)

-- a built zone has one SOA at its origin
pub serial_is : (z : ZoneContents) (n : ℕ)
    → IsBuilt z → n ≡ first_serial (soas_at z.origin z.records) → n ≡ zone_serial z
serial_is z n kept e = e ∙ ap first_serial (sym (one_soa z kept.low kept.passes))
