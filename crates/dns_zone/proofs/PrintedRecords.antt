-- A record's line is written in four parts, and the records of a list one after another.
use Rattle.dns_zone.proofs.Common.{◌≡◌, ℕ, ◌+◌, ◌<◌, Bool, true, false, Option, List, ◌∷◌, ◌++◌, length, drop, get_or, sym, ap, ◌∙◌, filter, flat_map, append_assoc, codes, decimal, add-one, arith, drop-cons, Octets, name_text, type_text, data_text, ResourceRecord, ZoneContents, record_line, soa_first, zone_text, AppendsAllBut, held_before, AreOrdered}

regroup : (t a b c d e f g h : Octets) → t ++ (a ++ b ++ c ++ d ++ e ++ f ++ g ++ h)
    ≡ (((((((t ++ a) ++ b) ++ c) ++ d) ++ e) ++ f) ++ g) ++ h
regroup t a b c d e f g h = simp append_assoc

-- a record's line follows the held text, to which all of the line up to its data was added
pub line_held : (old new : Option (List ℕ)) (whole held front d : Octets) (r s : ResourceRecord)
    → AppendsAllBut old new whole held → s ≡ r → front ≡ (((((held ++ name_text r.owner)
    ++ codes " ") ++ decimal s.ttl) ++ codes " IN ") ++ type_text s.rtype) ++ codes " "
    → d ≡ r.rdata
    → AppendsAllBut old new (whole ++ record_line r) ((front ++ data_text s.rtype d) ++ codes "\n")
line_held old new whole held front d r s so same f g = search (arith, regroup, held_before)

-- whether a record of a list is chosen
module _ (p : ResourceRecord → Bool) (rs : List ResourceRecord)
    (r : ResourceRecord) (i : ℕ) (h : i < length rs) (e : r ≡ get_or rs i r) where
  here : drop i rs ≡ r ∷ drop (i + 1) rs
  here = grind (arith, drop-cons, add-one)

  pub chosen : p r ≡ true → flat_map record_line
      (filter p (drop i rs)) ≡ record_line r ++ flat_map record_line (filter p (drop (i + 1) rs))
  chosen t = grind (arith, here)

  pub passed_over : p r ≡ false → flat_map record_line
      (filter p (drop i rs)) ≡ flat_map record_line (filter p (drop (i + 1) rs))
  passed_over t = grind (arith, here)

-- the text of a zone whose records are in order
pub text_of_ordered : (z : ZoneContents) (rs : List ResourceRecord)
    → rs ≡ z.records → AreOrdered z.records → flat_map record_line (soa_first rs) ≡ zone_text z
unfolding zone_text
text_of_ordered z rs e ordered = ap (λ xs. flat_map record_line (soa_first xs)) (e ∙ sym ordered)
