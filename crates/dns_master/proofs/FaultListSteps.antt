-- A list of faults with one more, and the faults of the entries after an entry.
use Rattle.dns_master.proofs.Common.{◌≡◌, ◌<◌, ◌≤◌, true, List, [], ◌∷◌, ◌++◌, length, length-append, take, take_all, sym, ap, ◌∙◌, arith, lt-ltb, le-ltb}
use Rattle.std.specs.Prelude.{map}
use Rattle.std.proofs.lemmas.List.{length-map, length-take, map-append, take-append-le}
use Rattle.dns_spec.specs.AllFaults as all
use Rattle.dns_master.specs.declared.scanned.EntryFault.{EntryFault}
use Rattle.dns_master.specs.declared.listing.FaultList.{FaultList}
use Rattle.dns_master.specs.ListingForm.{shown_fault}
use Rattle.dns_master.specs.FaultListForm.{IsList}

module _ (list new : FaultList) (found : List all.EntryFault) (f : EntryFault)
    (h : IsList list found) where
  size : length list.faults.items ≡ length (take 1000 found)
  size = sym (length-map list.faults.items shown_fault) ∙ ap length h.faults

  pub list_grown : length list.faults.items < 1000
      → new.faults.items ≡ list.faults.items ++ f ∷ [] → new.has_more ≡ list.has_more
      → IsList new (found ++ shown_fault f ∷ [])
  list_grown few grown same =
      let taken = size ∙ length-take 1000 found in
      let short : length found < 1000 = omega (arith, few, taken) in
      let longer = length-append found (shown_fault f ∷ []) in
      let whole : take 1000 found ≡ found = take_all 1000 found (omega (arith, short)) in
      record {
        faults = ap (map shown_fault) grown
            ∙ map-append shown_fault list.faults.items (f ∷ [])
            ∙ ap (λ xs. xs ++ shown_fault f ∷ []) (h.faults ∙ whole)
            ∙ sym (take_all 1000 (found ++ shown_fault f ∷ []) (omega (arith, short, longer)));
        more = same ∙ h.more ∙ le-ltb 1000 (length found) (omega (arith, short))
            ∙ sym (le-ltb 1000 (length (found ++ shown_fault f ∷ []))
            (omega (arith, short, longer)));
      }

  pub list_full : 1000 ≤ length list.faults.items → new.faults.items ≡ list.faults.items
      → new.has_more ≡ true → IsList new (found ++ shown_fault f ∷ [])
  list_full many same more =
      let taken = size ∙ length-take 1000 found in
      let long : 1000 ≤ length found = omega (arith, many, taken) in
      let longer = length-append found (shown_fault f ∷ []) in
      record {
        faults = ap (map shown_fault) same ∙ h.faults
            ∙ sym (take-append-le 1000 found (shown_fault f ∷ []) long);
        more = more ∙ sym (lt-ltb 1000 (length (found ++ shown_fault f ∷ []))
            (omega (arith, long, longer)));
      }
