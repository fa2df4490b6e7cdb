-- What the checker of zone files reports about a file, and whether its zone passes.
use Rattle.std.specs.Prelude.{◌≡◌, ℕ, ◌+◌, ◌/◌, ◌%◌, Bool, true, false, ◌&&◌, not, List, [], ◌∷◌, ◌++◌, map, if◌then◌else◌, codes, decimal}
use Rattle.std.specs.List.{flat_map, join_with_byte}
use Rattle.dns_spec.specs.Names.{Octets, DomainName, folded}
use Rattle.dns_spec.specs.NameText.{label_text, name_text}
use Rattle.dns_spec.specs.Records.{ZoneContents, zone_of, zone_serial}
use Rattle.dns_spec.specs.Checks.{Fault, faults}
use Rattle.dns_spec.specs.FileFaults.{FileFault, fault_code}
use Rattle.dns_spec.specs.Meaning.{Meaning, records, fault_at, Means}
use Rattle.dns_spec.specs.ZonePrinted.{zone_text}

-- the options of the checker
pub record Options : Type 0 where
  -- write nothing; without effect if `is_printing`
  pub is_quiet : Bool
  -- print the zone, if it passes
  pub is_printing : Bool

-- the output, and whether the zone passes
pub record Report : Type 0 where
  pub output : Octets
  pub passes : Bool

-- the number of a code in two decimal digits
abbrev pub two_digits : ℕ → Octets
two_digits n = (48 + n / 10) ∷ (48 + n % 10) ∷ []

-- the line for a fault of the file, with the number of the line on which the faulty entry begins
abbrev pub line_report : FileFault → ℕ → Octets
line_report fault line =
    codes "line " ++ decimal line ++ codes ": R" ++ two_digits (fault_code fault) ++ codes "\n"

-- the line for a fault of the zone
abbrev pub fault_report : Fault → Octets
fault_report f = name_text f.owner ++ codes " Z" ++ two_digits f.code ++ codes "\n"

-- the zone's name as named-checkzone prints it: without the final dot, but the root as `.`
abbrev pub bare_name_text : DomainName → Octets
bare_name_text [] = codes "."
bare_name_text (l ∷ n) = join_with_byte 46 (map label_text (l ∷ n))

-- what named-checkzone prints about a zone that it loaded
abbrev pub loaded_report : ZoneContents → Octets
loaded_report z =
    codes "zone " ++ bare_name_text z.origin ++ codes "/IN: loaded serial "
    ++ decimal (zone_serial z) ++ codes "\nOK\n"

-- what `zonesocket` prints when it begins to serve the zone
abbrev pub serving_report : ZoneContents → Octets
serving_report z =
    codes "zone " ++ bare_name_text z.origin ++ codes "/IN: serving serial "
    ++ decimal (zone_serial z) ++ codes "\n"

-- the report of a failure; with `is_quiet` and without `is_printing`, nothing is written
abbrev pub failing : Options → Octets → Report
failing options lines =
    record {
      output = if options.is_quiet && not options.is_printing then [] else lines;
      passes = false;
    }

-- the report of a zone that passes: with `is_printing`, its canonical text; else with `is_quiet`,
-- nothing; else, `loaded_report`
abbrev pub passing : Options → ZoneContents → Report
passing options z =
    record {
      output =
          if options.is_printing then zone_text z
          else if options.is_quiet then [] else loaded_report z;
      passes = true;
    }

abbrev pub report_of_faults : Options → ZoneContents → List Fault → Report
report_of_faults options z [] = passing options z
report_of_faults options z (f ∷ fs) = failing options (flat_map fault_report (f ∷ fs))

-- all faults of the zone, one per line; without a fault, the report of a zone that passes
abbrev pub zone_report : Options → ZoneContents → Report
zone_report options z = report_of_faults options z (faults z)

abbrev pub report_of_meaning : Options → DomainName → Meaning → Report
report_of_meaning options o (records rs) = zone_report options (zone_of o rs)
report_of_meaning options o (fault_at fault line) = failing options (line_report fault line)

-- The report about a text as the file of a zone with this origin.
abbrev pub Reports : DomainName → Octets → Options → Report → Type 0
Reports o text options report =
    (m : Meaning) × Means (folded o) text m × (report ≡ report_of_meaning options o m)
