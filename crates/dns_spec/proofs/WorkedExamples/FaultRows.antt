-- All faults of a text, what the text means, and how its faults are listed.
use Rattle.dns_spec.proofs.Common.{AllFaults, EntryFault, List, Means, None, Octets, [], bad_parenthesis, codes, digits, directive_words, entries_from, false, fault_at, faults, inl, read_entry, refl, run_length, ◌∷◌}
use Rattle.dns_spec.specs.AllFaults.{ListsFaults}
use Rattle.dns_spec.proofs.ZoneTexts.FirstFault.{first_fault}
use Rattle.dns_spec.proofs.WorkedExamples.Zones.{example}
use mathlib.Core.Bool.{xor}

-- a directive without its argument, and the end of the text inside parentheses
abbrev text : Octets
text = codes "$TTL\n ("

abbrev found : List EntryFault
found =
    record { fault = directive_words; number = None; place = record { begins = 0; ends = 4 }; entry = 0 }
    ∷ record { fault = bad_parenthesis; number = None; place = record { begins = 7; ends = 7 }; entry = 5 }
    ∷ []

all_faults : AllFaults example text found []
unfolding run_length xor read_entry entries_from
all_faults = inl (
  record { fault = directive_words; number = None; place = record { begins = 0; ends = 4 }; entry = 0 },
  record {
    given = inl (λ v h. h, refl);
    number = refl;
    place = (0, refl, refl);
    entry = refl;
  },
  (
    record { fault = bad_parenthesis; number = None; place = record { begins = 7; ends = 7 }; entry = 5 }
        ∷ [],
    refl,
    (
      _,
      inl ((λ none. none example refl), refl),
      inl (
        _,
        record { given = refl; number = refl; place = refl; entry = refl },
        ([], refl, (_, inl ((λ none. none example refl), refl), (refl, refl))),
      ),
    ),
  ),
)

fault_rows :
    -- its first fault is what the text means
    Means example text (fault_at directive_words 1)
    -- and all its faults are listed
    × ListsFaults example text
    (record { output = codes "1:1-1:5 R06\n2:3-2:3 R04\n"; passes = false })
unfolding run_length xor digits read_entry entries_from faults
fault_rows = (
  first_fault example text found [] all_faults,
  (found, ([], all_faults, refl)),
)
