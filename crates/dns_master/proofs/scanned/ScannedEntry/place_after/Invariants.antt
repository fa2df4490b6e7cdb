use Rattle.dns_master.proofs.Common.{◌≡◌, ◌≤◌, length}
use Rattle.dns_spec.specs.AllFaults.{place_after}
use Rattle.dns_spec.specs.EntryPlaces.{Span}
use Rattle.dns_master.specs.ListingForm.{placed}
use Rattle.dns_master.proofs.ScanSteps.{SpotIs}
use Rattle.dns_master.proofs.scanned.ScannedEntry.place_after.Given as goal

-- the place that is sought is that of a word of the rest of the entry
abbrev pub invariant-tokens : goal.invariant-tokens
invariant-tokens l = record {
  short : length l.rest ≤ length l.self.octets.now;
  same : (place : Span) → SpotIs (length l.self.octets.now) l.left l.is_open l.rest place
      → place_after l.number (placed l.self) ≡ place;
}

abbrev pub decreases-tokens : goal.decreases-tokens
decreases-tokens l = length l.rest
