use Rattle.dns_spec.proofs.Common.{◌≡◌, ◌++◌, List, [], ◌∷◌, map, get_or, drop, refl, sym, ap, ◌∙◌, flat_map-cons, flat_map, Octets, parts, part_octets, joined}
use Rattle.std.proofs.lemmas.Iterator.Consumers.{YieldsList-from_first, YieldsList-end}
use Rattle.dns_spec.specs.Data as Data
use Rattle.dns_spec.proofs.DataWords.LoweredData.{joined-parts}
use Rattle.dns_rdata.specs.declared.parts.Part.{Part}
use Rattle.dns_rdata.specs.Parts.{borrowed_octets, shown_part, with_octets}
use Rattle.dns_rdata_tests.proofs.tests.rdata.joined.Goals as goal

-- the octets that a walk over the parts of data borrowed are the data
lent_joined : (xs : List Part) (ps : List Data.Part)
    → map shown_part xs ≡ map with_octets ps → flat_map borrowed_octets xs ≡ joined ps
lent_joined [] [] e = refl
lent_joined [] (p ∷ ps) e = cc
lent_joined (x ∷ xs) [] e = cc
lent_joined (x ∷ xs) (p ∷ ps) e =
    let first : borrowed_octets x ≡ part_octets p =
    ap (λ (ys : List (Data.Part × Octets)). (get_or ys 0 (shown_part x)).1) e in
    flat_map-cons borrowed_octets x xs
    ∙ ap (λ ys. ys ++ flat_map borrowed_octets xs) first
    ∙ ap (λ ys. part_octets p ++ ys) (lent_joined xs ps (ap
    (λ (ys : List (Data.Part × Octets)). drop 1 ys) e)) ∙ sym (flat_map-cons part_octets p ps)

pub returns : goal.returns
returns c =
    let rest = map with_octets (parts c.args.rtype.0 c.args.octets.now) in
    let road = YieldsList-from_first shown_part
    (λ (s : List Data.Part). map with_octets s) rest (ap (map with_octets)
    (c.into_iter-part-iterator.ensures.into_iter_gives ∙ c.parts-part-items.ensures.parts)) in
    let all = YieldsList-end
    road c.parts.yielded _ c.parts.yielded_by _ _ c.in-None.is c.next.ensures.steps in
    c.parts.invariant ∙ lent_joined c.parts.yielded (parts c.args.rtype.0 c.args.octets.now) all.0
    ∙ joined-parts c.args.rtype.0 c.args.octets.now
