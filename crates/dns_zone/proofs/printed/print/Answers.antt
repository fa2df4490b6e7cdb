use Rattle.dns_zone.proofs.Common.{◌∙◌, ◌≤◌, All, length, subst, DomainName, ZoneContents, most_octets, Means, records, HasZoneType, printed_records, zone_text}
use Rattle.dns_zone.proofs.printed.print.Goals as goal

pub returns-clause-meaning : goal.returns-clause-meaning
returns-clause-meaning g c =
    subst (λ (z : ZoneContents). All HasZoneType z.records → length (zone_text z) ≤ most_octets
    → (o : DomainName) → Means o (zone_text z) (records (printed_records z)))
    (c.zone-2.ensures ∙ c.zone.view_is) c.print.ensures.meaning
