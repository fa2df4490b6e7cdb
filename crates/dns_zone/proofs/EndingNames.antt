-- Names whose wire forms end differently are not below one another.
use Rattle.dns_zone.proofs.Common.{◌≡◌, ◌-◌, ◌≤◌, true, ◌++◌, length, drop, ap, ◌∙◌, arith, length-append, end_rest, DomainName, wire, folded, at_or_below}
use Rattle.dns_zone.proofs.NameTree.{under-is}
use Rattle.dns_spec.proofs.DomainNames.WireNames.{wire_split}

-- a name in lower case that is at or below another ends with the other's octets
pub ends_in : (n a : DomainName) → folded n ≡ n → folded a ≡ a → at_or_below n a ≡ true → (length
    (wire a) ≤ length (wire n)) × (drop (length (wire n) - length (wire a)) (wire n) ≡ wire a)
ends_in n a low_n low_a h =
    let (p, e) = under-is n a h in
    let (front, w) = wire_split p a in
    let whole : wire n ≡ front ++ wire a = grind arith in
    let long = ap length whole ∙ length-append front (wire a) in (
      omega (arith, long),
      end_rest (wire n) (wire a) front whole,
    )
