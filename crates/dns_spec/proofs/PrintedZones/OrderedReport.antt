-- The report of a zone does not depend on the order of its records.
use Rattle.dns_spec.proofs.Common.{◌≡◌, List, [], refl, ◌∙◌, filter, ◌==◌, arith, DomainName, folded, same, type_soa, ResourceRecord, ZoneContents, records_equal, distinct, zone_of, sort_by, record_order, ordered_zone, zone_serial, faults, zone_text, Options, passing, zone_report}
use Rattle.dns_spec.proofs.ZoneChecks.FaultOrder.{folded_folded}
use Rattle.dns_spec.proofs.Records.RecordOrder.{rises_canonical, ordered_faults}
use Rattle.dns_spec.proofs.ZoneChecks.PassedChecks.{few_soa, one_soa}
use Rattle.dns_spec.proofs.General.Filters.{same_single, kept_among}
use Rattle.dns_spec.proofs.General.Sorted.{among_sort, sort_among, sort_risen}

module _ (o : DomainName) (rs : List ResourceRecord) where
  pub ordered_text : zone_text (ordered_zone o rs) ≡ zone_text (zone_of o rs)
  unfolding zone_text
  ordered_text = grind (arith, sort_risen, rises_canonical)

  pub ordered_serial : faults (zone_of o rs) ≡ []
      → zone_serial (ordered_zone o rs) ≡ zone_serial (zone_of o rs)
  ordered_serial passes =
      let z : ZoneContents = ordered_zone o rs in
      let y : ZoneContents = zone_of o rs in
      let low : folded (folded o) ≡ folded o = folded_folded o in
      let ordered_passes : faults z ≡ [] = ordered_faults o rs ∙ passes in
      let is_soa = λ (r : ResourceRecord). r.rtype == type_soa in
      let here = λ (r : ResourceRecord). same r.owner (folded o) in
      let once : List ResourceRecord = distinct records_equal rs in
      let sorted : List ResourceRecord = sort_by record_order once in
      let one : filter is_soa (filter here sorted) ≡ filter is_soa (filter here once) =
      same_single (filter is_soa (filter here sorted))
      (filter is_soa (filter here once)) (few_soa z low ordered_passes) (few_soa y low passes)
      (λ a m. kept_among is_soa here a sorted once (λ b n. sort_among record_order b once n) m)
      (λ a m. kept_among is_soa here a once sorted (λ b n. among_sort record_order b once n) m)
      in grind (arith, one_soa)

  pub ordered_passing : (options : Options) → faults (zone_of o rs) ≡ []
      → passing options (ordered_zone o rs) ≡ passing options (zone_of o rs)
  ordered_passing options passes = rw (ordered_text, ordered_serial passes) refl

  pub ordered_report : (options : Options)
      → zone_report options (ordered_zone o rs) ≡ zone_report options (zone_of o rs)
  ordered_report options = grind (arith, ordered_faults, ordered_passing)
