use Rattle.dns_rdata.proofs.Common.{arith, refl, ap, option_map, DomainName, Octets, name}
use Rattle.dns_rdata.proofs.NameFronts.{no_front_name, long_name, short_name}
use Rattle.dns_rdata.proofs.parts.first_name.Goals as goal

pub returns-in_err-after : goal.returns-in_err-after
returns-in_err-after c =
    rw c.from_residual.ensures (ap (option_map (λ (r : DomainName × Octets). (name r.0, r.1)))
    (no_front_name c.args.octets.now (c.in_err-after.ensures.none refl)))

pub returns-then-name-gt-MAX_NAME : goal.returns-then-name-gt-MAX_NAME
returns-then-name-gt-MAX_NAME c = grind (arith, long_name)

pub returns : goal.returns
returns c =
    short_name c.args.octets.now c.in_ok-after.after.now
    c.split_at.result.0.now c.split_at.result.1.now _ c.in_ok-after.ensures.some
    c.split_at.ensures.front c.split_at.ensures.back refl
    (omega (arith, c.if-name-gt-MAX_NAME.false))
