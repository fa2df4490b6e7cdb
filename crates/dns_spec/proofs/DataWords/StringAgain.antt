-- Strings that are written in quotation marks are read as those strings again.
use Rattle.dns_spec.proofs.Common.{◌≤◌, [], ◌∷◌, length, refl, arith, flat_map, Octets, SpellsString, SaysString, string_octet_text}
use Rattle.dns_spec.proofs.DomainNames.SmallOctets.{Small, small_head, small_tail}

string_spelled : (s : Octets) → Small s → SpellsString (flat_map string_octet_text s) s
string_spelled [] small = refl
string_spelled (o ∷ s) small = grind (arith, small_head, (string_spelled s (small_tail o s small)))

pub string_said : (s : Octets)
    → length s ≤ 255 → Small s → SaysString (flat_map string_octet_text s) (length s ∷ s)
string_said s short small = (s, short, string_spelled s small, refl)
