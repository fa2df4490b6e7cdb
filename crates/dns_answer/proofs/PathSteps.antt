-- One more label on the path down to a name.
use Rattle.dns_answer.proofs.Common.{arith, ◌≡◌, ℕ, Bool, true, false, ◌&&◌, ◌∷◌, map, Option, Some, sym, ap, ◌∙◌, false≢true, and_parts, false_from_ne_true, length-map, to_ascii_lowercase, is_some, Octets, DomainName, folded, at_or_below, below, type_ns, ZoneContents, owns, rrset, set_of, exists, is_cut, ZoneNode, folded_folded, same-from, itself-under, below-cons, same-under, any_weaker, exists-lower, node_of, node_or, IsThere, IsMissing, IsBelowCut, cut-above, cut-here, cut-none, cut-by_set, exists-folded, exists-up, encloser-here, encloser-above}

-- a name that owns a record exists
owns-exists : (z : ZoneContents) (n : DomainName) (t : ℕ) → exists z n ≡ false → owns z n t ≡ false
owns-exists z n t e =
    grind (arith, false_from_ne_true, false≢true, any_weaker, itself-under, and_parts)

no_cut-missing : (z : ZoneContents) (n : DomainName)
    → exists z n ≡ false → is_cut z (folded n) ≡ false
no_cut-missing z n e = grind (arith, below, owns-exists, exists-folded)

pub cut-further : (z : ZoneContents) (l : Octets) (n : DomainName) (node : ZoneNode)
    → IsBelowCut z n node → IsBelowCut z (l ∷ n) node
cut-further z l n node h = record { cut = cut-above z l n node.name h.cut; zone = h.zone }

pub missing-further : (z : ZoneContents)
    (start : ZoneNode) (ends : Bool) (l : Octets) (n : DomainName) (node : Option ZoneNode)
    → IsMissing z start ends n node → IsMissing z start ends (l ∷ n) node
missing-further z start ends l n node h =
    let none = exists-up z l n h.missing in
    record {
      no_cut = λ e. cut-none z l n (h.no_cut e) (no_cut-missing z (l ∷ n) none);
      missing = none;
      encloser = encloser-above z l n h.missing ∙ h.encloser;
      zone = h.zone;
      lower = h.lower;
    }

child-lower : (z : ZoneContents) (l : Octets) (n : DomainName)
    → exists z (l ∷ folded n) ≡ exists z (l ∷ n)
child-lower z l n =
    grind (arith, exists-lower, folded, to_ascii_lowercase, folded_folded, length-map)

pub missing-child : (z : ZoneContents) (start : ZoneNode)
    (ends : Bool) (l : Octets) (n : DomainName) (node : Option ZoneNode) (at_node : ZoneNode)
    → IsThere z start ends n node → at_node ≡ node_or start node
    → (exists at_node.zone (l ∷ at_node.name) ≡ true → ⊥) → IsMissing z start ends (l ∷ n) node
missing-child z start ends l n node at_node h e absent =
    let is = e ∙ h.at_name in
    let none : exists z (l ∷ n) ≡ false = false_from_ne_true (exists z (l ∷ n)) (λ there. absent
    (ap (λ (v : ZoneNode). exists v.zone (l ∷ v.name)) is ∙ child-lower z l n ∙ there)) in
    record {
      no_cut = λ e. cut-none z l n (h.no_cut e) (no_cut-missing z (l ∷ n) none);
      missing = none;
      encloser = encloser-here z l n h.stands ∙ ap (λ (v : ZoneNode). Some v.name) (sym h.at_name);
      zone = ap (λ (v : ZoneNode). v.zone) h.at_name;
      lower = ap (λ (v : ZoneNode). folded v.name) h.at_name
          ∙ folded_folded n ∙ ap (λ (v : ZoneNode). v.name) (sym h.at_name);
    }

-- a name below the origin is still below it in lower case
below-lower : (z : ZoneContents) (l : Octets) (n : DomainName)
    → at_or_below n z.origin ≡ true → below (folded (l ∷ n)) z.origin ≡ true
below-lower z l n under =
    grind (arith, below-cons, to_ascii_lowercase, folded, same-under, same-from, folded_folded)

module _ (z : ZoneContents) (start : ZoneNode) (ends : Bool) (l : Octets) (n : DomainName)
    (above : Option ZoneNode) (at_node node : ZoneNode) (h : IsThere z start ends n above)
    (under : ends ≡ true → at_or_below n z.origin ≡ true) (e : at_node ≡ node_or start above) (f :
    node ≡ record { zone = at_node.zone; name = map to_ascii_lowercase l ∷ at_node.name }) where
  is : node ≡ node_of z (folded (l ∷ n))
  is = f ∙ ap (λ (v : ZoneNode). node_of v.zone (map to_ascii_lowercase l ∷ v.name)) (e ∙ h.at_name)

  cut_is : ends ≡ true
      → is_cut z (folded (l ∷ n)) ≡ is_some (set_of (rrset node.zone node.name type_ns))
  cut_is ending = cut-by_set z (folded (l ∷ n)) (below-lower z l n (under ending))
      ∙ ap (λ (v : ZoneNode). is_some (set_of (rrset v.zone v.name type_ns))) (sym is)

  pub cut-at_child : ends ≡ true
      → is_some (set_of (rrset node.zone node.name type_ns)) ≡ true → IsBelowCut z (l ∷ n) node
  cut-at_child ending some = grind (arith, cut-here, cut_is, is)

  pub there-at_child : exists at_node.zone (l ∷ at_node.name) ≡ true → (ends && is_some (set_of
      (rrset node.zone node.name type_ns))) ≡ false → IsThere z start ends (l ∷ n) (Some node)
  there-at_child there none = grind (arith, cut-none, cut_is, child-lower, is)
