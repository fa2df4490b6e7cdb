use Rattle.dns_name.proofs.Common.{◌≡◌, ◌+◌, ◌≤◌, ◌∷◌, [], ◌++◌, length, take, ◌-◌, true, ap, sym, ◌∙◌, arith, false≢true, wire, is_name, is_label, DomainName, Octets, length-wire-push, is_name-push, labels_of, IsWireForm}
use Rattle.dns_name.proofs.WireLemmas.{labels_of_spelled, IsWireForm-wire, wire-push}
use Rattle.dns_spec.proofs.DomainNames.WireNames.{wire_some}
use Rattle.dns_name.proofs.name.Name.push.Goals as goal

-- the octets xs of the name n become zs, by way of ys, as `push` writes a label
record Pushes (n : DomainName) (l xs ys zs : Octets) : Type 0 where
  form : IsWireForm xs
  view_is : labels_of xs ≡ n
  front : ys ≡ take (length xs - 1) xs
  back : zs ≡ ((ys ++ length l ∷ []) ++ l) ++ 0 ∷ []

length_more : (n : DomainName) (xs l : Octets)
    → IsWireForm xs → labels_of xs ≡ n → length (wire (n ++ l ∷ [])) ≡ length xs + 1 + length l
length_more n xs l form e = grind (arith, length-wire-push n l)

spells : (n : DomainName) (l xs ys zs : Octets) → Pushes n l xs ys zs → zs ≡ wire (n ++ l ∷ [])
spells n l xs ys zs p = grind (arith, wire-push)

stays_name : (n : DomainName) (l xs ys zs : Octets) → Pushes n l xs ys zs
    → is_label l ≡ true → length xs + 1 + length l ≤ 255 → is_name (n ++ l ∷ []) ≡ true
stays_name n l xs ys zs p is_l fits = grind (arith, is_name-push, length_more)

pub returns-then-remaining_capacity-octets-clause-fits :
    goal.returns-then-remaining_capacity-octets-clause-fits
returns-then-remaining_capacity-octets-clause-fits c = grind (arith, length_more, false≢true)

pushes : (c : goal.After-push-2) → Pushes c.args.self.now
    c.args.label c.self.inside.octets c.pop.new.self c.push-2.new.self
pushes c = grind arith

fits : (c : goal.After-push-2) → length c.self.inside.octets + 1 + length c.args.label ≤ 255
fits c = let same = ap length c.octets-octets.ensures.value in omega arith

pub invariant_of-self : goal.invariant_of-self
invariant_of-self c =
    let p = pushes c in
    IsWireForm-wire _ _
    (spells _ _ _ _ _ p) (stays_name _ _ _ _ _ p c.octets-octets.ensures.is_label (fits c))

pub returns-clause-fits : goal.returns-clause-fits
returns-clause-fits c = grind (arith, length_more, fits)

pub returns-clause-pushed : goal.returns-clause-pushed
returns-clause-pushed c =
    let p = pushes c in
    labels_of_spelled _ _ (spells _ _ _ _ _ p)
    (stays_name _ _ _ _ _ p c.octets-octets.ensures.is_label (fits c))

pub returns-then-remaining_capacity-octets-clause-is_name :
    goal.returns-then-remaining_capacity-octets-clause-is_name
returns-then-remaining_capacity-octets-clause-is_name c =
    ap is_name (sym c.self.view_is) ∙ c.self.invariant.is_name

pub returns-clause-is_name : goal.returns-clause-is_name
returns-clause-is_name c =
    let p = pushes c in
    let ok = stays_name _ _ _ _ _ p c.octets-octets.ensures.is_label (fits c) in
    ap is_name (labels_of_spelled _ _ (spells _ _ _ _ _ p) ok) ∙ ok

pub pop-requires : goal.pop-requires
pop-requires c = grind (arith, wire_some)
