-- Lists of the same records make one zone, with one canonical text and one report.
use Rattle.dns_spec.proofs.Common.{arith, rules, ◌≡◌, ◌↔◌, All, List, ap, sym, ◌∙◌, is_eq, Contains, Octets, DomainName, folded, ResourceRecord, HoldSameRecords, records_equal, distinct, zone_of, sort_by, record_order, ordered_zone, records, Means, IsReadRecord, zone_text, Options, Report, zone_report, report_of_meaning, Reports, All-contains, All-weaker, recursion_from_All}
use Rattle.dns_spec.proofs.Records.RecordOrder.{record_order_total, record_ties, LowerOwner, one_record}
use Rattle.dns_spec.proofs.PrintedZones.OrderedReport.{ordered_text, ordered_report}
use Rattle.dns_spec.proofs.ZoneTexts.OneMeaning.{meaning_once}
use Rattle.dns_spec.proofs.ZoneTexts.ReadRecords.{owners_low}
use Rattle.dns_spec.proofs.General.Elements.{among_held}
use Rattle.dns_spec.proofs.General.Sorted.{same_sorted}

module _
    (rs ss : List ResourceRecord) (low : All LowerOwner rs) (held : HoldSameRecords rs ss) where
  same_canonical : sort_by record_order
      (distinct records_equal rs) ≡ sort_by record_order (distinct records_equal ss)
  same_canonical =
      let low' =
      All-weaker (Contains rs) LowerOwner (λ r. All-contains LowerOwner rs r low) ss held.1 in
      same_sorted record_order record_order_total records_equal
      (λ r s e. record_ties r s ∙ ap is_eq e) LowerOwner one_record rs ss
      (recursion_from_All LowerOwner rs low) (recursion_from_All LowerOwner ss low')
      (λ a. among_held a rs ss held.0) (λ a. among_held a ss rs held.1)

  same_zone : (o : DomainName) → ordered_zone o rs ≡ ordered_zone o ss
  same_zone o = ap (λ xs. record { origin = folded o; records = xs }) same_canonical

  same_text : (o : DomainName) → zone_text (zone_of o rs) ≡ zone_text (zone_of o ss)
  same_text o = sym (ordered_text o rs) ∙ ap zone_text (same_zone o) ∙ ordered_text o ss

  pub same_report : (o : DomainName) (options : Options)
      → zone_report options (zone_of o rs) ≡ zone_report options (zone_of o ss)
  same_report o options = sym (ordered_report o rs options)
      ∙ ap (zone_report options) (same_zone o) ∙ ordered_report o ss options

pub read_once : (options : Options) (o : DomainName) (rs ss : List ResourceRecord)
    → All IsReadRecord rs → HoldSameRecords rs ss → (ordered_zone o rs ≡ ordered_zone o ss)
    × (zone_text (zone_of o rs) ≡ zone_text (zone_of o ss))
    × (zone_report options (zone_of o rs) ≡ zone_report options (zone_of o ss))
read_once options o rs ss all held = grind (arith, All-weaker, same_zone, same_text, same_report)

reported_once : (o : DomainName) (t u : Octets) (rs ss : List ResourceRecord) → Means (folded o) t
    (records rs) → Means (folded o) u (records ss) → HoldSameRecords rs ss → (options : Options)
    (report : Report) → Reports o t options report → Reports o u options report
reported_once o t u rs ss means means' held options report (m, is, e) =
    let one : m ≡ records rs = meaning_once (folded o) t m (records rs) is means in
    let low : All LowerOwner rs = owners_low (folded o) t rs means in (
      records ss,
      means',
      e ∙ ap (report_of_meaning options o) one ∙ same_report rs ss low held o options,
    )

pub same_reports : (o : DomainName) (t u : Octets) (rs ss : List ResourceRecord) → Means (folded o)
    t (records rs) → Means (folded o) u (records ss) → HoldSameRecords rs ss → (options : Options)
    (report : Report) → Reports o t options report ↔ Reports o u options report
same_reports o t u rs ss means means' held options report = search (rules, reported_once)
