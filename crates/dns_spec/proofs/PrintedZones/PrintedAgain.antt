-- The canonical text of a zone is its own canonical text, and zones with the same canonical text
-- contain the same records.
use Rattle.dns_spec.proofs.Common.{◌≡◌, ◌≤◌, ◌↔◌, ◌<◌, IsTrue, All, List, [], ◌∷◌, length, sym, ap, ◌∙◌, subst, arith, is_eq, IsPermutation, Octets, DomainName, folded, ResourceRecord, HoldSameRecords, ZoneContents, records_equal, distinct, zone_of, record_order, most_octets, Meaning, records, fault_at, Means, most_records, IsReadRecord, HasZoneType, printed_records, zone_text, Fault, faults, IsPermutation-trans, IsPermutation-sym, Contains-permutation, Options, Report, report_of_faults, Reports, recursion_from_All, All-from_recursion}
use Rattle.dns_spec.proofs.Records.RecordOrder.{record_order_total, record_ties, LowerOwner, one_record}
use Rattle.dns_spec.proofs.ZoneTexts.OneMeaning.{meaning_once}
use Rattle.dns_spec.proofs.PrintedZones.PrintedZone.{printed_moves, zone_means}
use Rattle.dns_spec.proofs.ZoneTexts.ReadRecords.{owners_low, records_read, records_few, folded_octets}
use Rattle.dns_spec.proofs.Records.SameRecords.{same_reports}
use Rattle.dns_spec.proofs.General.Elements.{Among, contains_among, among_contains, held_among}
use Rattle.dns_spec.proofs.General.Sorted.{each_distinct, distinct_among, among_distinct, length_distinct}

-- removing duplicates and printing keep the records: none is lost, and none is added
all_distinct : (P : ResourceRecord → Type 0) (rs : List ResourceRecord)
    → All P rs → All P (distinct records_equal rs)
all_distinct P rs all = search (All-from_recursion, each_distinct, recursion_from_All)

pub printed_hold_same : (o : DomainName) (rs : List ResourceRecord)
    → All LowerOwner rs → HoldSameRecords rs (printed_records (zone_of o rs))
printed_hold_same o rs low =
    let z : ZoneContents = zone_of o rs in
    let once : List ResourceRecord = distinct records_equal rs in
    let printed : List ResourceRecord = printed_records z in
    let moved : IsPermutation once printed = printed_moves z in
    let keeps : (a : ResourceRecord) → Among a rs → Among a once =
    λ a m. among_distinct record_order record_order_total records_equal (λ r s e. record_ties r s
    ∙ ap is_eq e) LowerOwner one_record a rs (recursion_from_All LowerOwner rs low) m
    in (
      held_among rs printed (λ a m. contains_among a printed
          (Contains-permutation once printed a moved (among_contains a once (keeps a m)))),
      held_among printed rs
          (λ a m. distinct_among records_equal a rs
          (contains_among a once (Contains-permutation printed once a
          (IsPermutation-sym once printed moved) (among_contains a printed m)))),
    )

-- the canonical text of a file's zone, and its report
module _ (o : DomainName) (t : Octets) (rs : List ResourceRecord)
    (from : All (All (λ x. x < 256)) o) (means : Means (folded o) t (records rs)) where
  text_means : length (zone_text (zone_of o rs)) ≤ most_octets
      → Means (folded o) (zone_text (zone_of o rs)) (records (printed_records (zone_of o rs)))
  text_means short =
      let read = records_read (folded o) t rs (folded_octets o from) means in
      let few = records_few (folded o) t rs means in
      (zone_means (zone_of o rs) (folded o) (all_distinct IsReadRecord rs read.0) (all_distinct
      HasZoneType rs read.1) (omega (arith, few, length_distinct records_equal rs)) short).0

  pub reported_again : length (zone_text (zone_of o rs)) ≤ most_octets
      → (options : Options) (report : Report)
      → Reports o (zone_text (zone_of o rs)) options report ↔ Reports o t options report
  reported_again short options report =
      let same : HoldSameRecords rs (printed_records (zone_of o rs)) =
      printed_hold_same o rs (owners_low (folded o) t rs means) in
      search (arith, same_reports, zone_of, text_means)

-- what is printed is the canonical text of a zone that passes
pub printed_reports : (o : DomainName) (t : Octets) (options : Options) (report : Report)
    → All (All (λ x. x < 256)) o → Reports o t options report → IsTrue options.is_printing → IsTrue
    report.passes → length report.output ≤ most_octets → Reports o report.output options report
printed_reports o t options report from (fault_at code line, means, e) printing passes short = cc
printed_reports o t options report from (records rs, means, e) printing passes short =
    let printed : report.output ≡ zone_text (zone_of o rs) =
    printed_output options (zone_of o rs) (faults (zone_of o rs)) report e printing passes in
    let short' : length (zone_text (zone_of o rs)) ≤ most_octets = grind arith in
    subst (λ u. Reports o u options report) (sym printed)
    ((reported_again o t rs from means short' options report).1 (records rs, means, e))
  where
    printed_output : (options : Options) (z : ZoneContents) (fs : List Fault) (report : Report)
        → report ≡ report_of_faults options z fs
        → IsTrue options.is_printing → IsTrue report.passes → report.output ≡ zone_text z
    printed_output options z [] report e printing passes = grind arith
    printed_output options z (f ∷ fs) report e printing passes = grind arith

-- zones with the same canonical text
records_of : Meaning → List ResourceRecord
records_of (records rs) = rs
records_of (fault_at code line) = []

one_list : (rs ss : List ResourceRecord) → records rs ≡ records ss → rs ≡ ss
unfolding records_of
one_list rs ss e = ap records_of e

pub text_of_one : (y z : ZoneContents) → All IsReadRecord y.records → All HasZoneType y.records
    → length y.records ≤ most_records → All IsReadRecord z.records → All HasZoneType z.records
    → length z.records ≤ most_records → length (zone_text y) ≤ most_octets
    → zone_text y ≡ zone_text z → IsPermutation y.records z.records
text_of_one y z read types few read' types' few' short same =
    let short' : length (zone_text z) ≤ most_octets =
    subst (λ t. length t ≤ most_octets) same short in
    let means = zone_means y [] read types few short in
    let means' = zone_means z [] read' types' few' short' in
    let one : printed_records y ≡ printed_records z =
    one_list (printed_records y) (printed_records z)
    (meaning_once [] (zone_text z) (records (printed_records y)) (records (printed_records z))
    (subst (λ t. Means [] t (records (printed_records y))) same means.0) means'.0)
    in
    IsPermutation-trans y.records (printed_records y) z.records means.1
    (subst (λ rs. IsPermutation rs z.records)
    (sym one) (IsPermutation-sym z.records (printed_records z) means'.1))
