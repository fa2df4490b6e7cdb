use Rattle.dns_zone.proofs.Common.{rules, ◌≡◌, ◌-◌, List, length, map, ap, arith, length-take, take_all, flat_map, ZoneContents, wire, Fault, faults, owner_of, reported_at, CheckedName}
use Rattle.dns_zone.proofs.KeyOrder.{key_length}
use Rattle.dns_zone.proofs.checks.faults.Goals as goal

-- the faults of names, one after another
abbrev reported : ZoneContents → List CheckedName → List Fault
reported z names = flat_map (reported_at z) (map (owner_of z) names)

pub split_at-requires : goal.split_at-requires
split_at-requires c =
    let long : length c.octets.result.now ≡ length (wire c.args.origin.now) =
    ap length c.octets.ensures.value in
    let keys = c.as_slice.ensures.value in
    let size = ap length c.requires.origin
    in
    let inside = length-take (length (wire c.args.origin.now) - 1) c.args.keyed.now.keys.items in
    omega (arith, long, ap length keys, size, inside, key_length c.args.origin.now)

pub returns : goal.returns
unfolding faults reported_at
returns c = search (rules, take_all)
