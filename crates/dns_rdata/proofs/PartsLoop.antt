-- A walk over the parts of data.
use Rattle.dns_rdata.proofs.Common.{◌≡◌, All, List, [], ◌∷◌, ◌++◌, map, get_or, drop, refl, sym, ap, ◌∙◌, subst, append_assoc, append-nil, arith, All-head, All-tail, flat_map-cons, Octets, part_octets, part_folded, joined, part_for, borrowed_octets, shown_part, with_octets, IsWirePart, HasName}
use Rattle.dns_spec.specs.Data as Data
use Rattle.dns_rdata.specs.declared.parts.Part.{Part}

-- one step of the walk gives the first of the old parts, borrowed, and leaves the others
pub record Walked (old new : List Data.Part) (x : Part) : Type 0 where
  pub borrowed : IsWirePart x
  pub names : All HasName new
  pub are : old ≡ part_for x ∷ new

wire_part : (x : Part) → HasName (part_for x) → part_octets (part_for x) ≡ borrowed_octets x
    → IsWirePart x
wire_part x h h1 = grind arith

unshown : (xs : List Data.Part) → map (λ (y : Data.Part × Octets). y.0) (map with_octets xs) ≡ xs
unshown [] = refl
unshown (x ∷ xs) = ap (λ ys. x ∷ ys) (unshown xs)

pub walked : (old new : List Data.Part) (x : Part)
    → All HasName old → map with_octets old ≡ shown_part x ∷ map with_octets new → Walked old new x
walked [] new x names e = grind arith
walked (p ∷ ps) new x names e =
    let first : with_octets p ≡ shown_part x =
    ap (λ (xs : List (Data.Part × Octets)). get_or xs 0 (shown_part x)) e in
    let same : p ≡ part_for x = ap (λ y. y.0) first in
    let others : ps ≡ new = sym (unshown ps)
    ∙ ap (λ (xs : List (Data.Part × Octets)). map (λ y. y.0) (drop 1 xs)) e ∙ unshown new in
    record {
      borrowed = wire_part x (subst HasName same (All-head HasName p ps names))
          (ap part_octets (sym same) ∙ ap (λ y. y.1) first);
      names = subst (All HasName) others (All-tail HasName p ps names);
      are = ap (λ y. y ∷ ps) same ∙ ap (λ ys. part_for x ∷ ys) others;
    }

-- no part is left
pub none_left : (ps : List Data.Part) → map with_octets ps ≡ [] → ps ≡ []
none_left [] e = refl
none_left (p ∷ ps) e = grind arith

pub one_lowered : (old new : List Data.Part) (x : Part) (whole before after : Octets)
    → old ≡ part_for x ∷ new → whole ≡ before ++ joined (map part_folded old) → after ≡ before
    ++ part_octets (part_folded (part_for x)) → whole ≡ after ++ joined (map part_folded new)
one_lowered old new x whole before after are e grown = grind (arith, flat_map-cons, append_assoc)

pub all_lowered : (ps : List Data.Part) (whole before : Octets)
    → map with_octets ps ≡ [] → whole ≡ before ++ joined (map part_folded ps) → before ≡ whole
all_lowered ps whole before none e = grind (arith, none_left, append-nil)
