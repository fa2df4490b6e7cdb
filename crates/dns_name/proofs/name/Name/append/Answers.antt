use Rattle.dns_name.proofs.Common.{◌≡◌, ◌+◌, ◌-◌, ◌≤◌, ◌++◌, length, take, true, ap, sym, ◌∙◌, arith, wire, is_name, DomainName, Octets, length-wire-append, is_name-append, labels_of, IsWireForm}
use Rattle.dns_name.proofs.WireLemmas.{labels_of_spelled, IsWireForm-wire, wire-append}
use Rattle.dns_spec.proofs.DomainNames.WireNames.{wire_some}
use Rattle.dns_name.proofs.name.Name.append.Goals as goal

-- the octets xs of the name n become zs, by way of ys, as those of the name m are appended
record Appends (n m : DomainName) (xs ys zs : Octets) : Type 0 where
  form : IsWireForm xs
  view_is : labels_of xs ≡ n
  other : is_name m ≡ true
  front : ys ≡ take (length xs - 1) xs
  back : zs ≡ ys ++ wire m
  fits : length xs + length (wire m) ≤ 256

wire_is : {n : DomainName} {xs : Octets} → IsWireForm xs → labels_of xs ≡ n → wire n ≡ xs
wire_is form e = ap wire (sym e) ∙ form.wire_is

spells : (n m : DomainName) (xs ys zs : Octets) → Appends n m xs ys zs → zs ≡ wire (n ++ m)
spells n m xs ys zs p = grind (arith, wire-append, wire_is)

stays_name : (n m : DomainName) (xs ys zs : Octets) → Appends n m xs ys zs → is_name (n ++ m) ≡ true
stays_name n m xs ys zs p = grind (arith, is_name-append, wire_is, length-wire-append)

appends : (c : goal.After-append) → Appends c.args.self.now c.args.other.now
    c.self.inside.octets c.pop.new.self c.append.new.self
appends c = grind arith

pub returns-then-remaining_capacity-octets : goal.returns-then-remaining_capacity-octets
returns-then-remaining_capacity-octets c = grind (arith, wire_is, length-wire-append)

pub invariant_of-self : goal.invariant_of-self
invariant_of-self c =
    let p = appends c in IsWireForm-wire _ _ (spells _ _ _ _ _ p) (stays_name _ _ _ _ _ p)

pub returns : goal.returns
returns c =
    let p = appends c in (
      labels_of_spelled _ _ (spells _ _ _ _ _ p) (stays_name _ _ _ _ _ p),
      ap is_name (labels_of_spelled _ _ (spells _ _ _ _ _ p) (stays_name _ _ _ _ _ p))
          ∙ stays_name _ _ _ _ _ p,
    )

pub pop-requires : goal.pop-requires
pop-requires c = grind (arith, wire_some)
