use Rattle.dns_zone.proofs.Common.{◌≡◌, ℕ, suc, ◌+◌, ◌-◌, ◌<◌, ◌≤◌, ◌∙◌, List, ◌∷◌, length, take, get_or, sym, ap, ap₂, arith, get_or-map, drop_more, DomainName, ResourceRecord, owners, span, first_owner, no_record}
use Rattle.dns_zone.proofs.checks.owner_number.Goals as goal

first_numbered : (o : DomainName) (rs : List ResourceRecord) (a b : ℕ) → a < b → b ≤ length rs
    → get_or (o ∷ owners rs) (a + 1) o ≡ first_owner o (span rs a b)
first_numbered o rs a b l m =
    let next : a + 1 ≡ suc a = omega arith in
    let some : b - a ≡ suc (b - a - 1) = omega (arith, l) in
    let inside : a < length rs = omega (arith, l, m) in
    ap (λ k. get_or (o ∷ owners rs) k o) next
    ∙ get_or-map (λ (r : ResourceRecord). r.owner) rs a no_record o inside
    ∙ sym (ap₂ (λ k (ss : List ResourceRecord). first_owner o (take k ss)) some
    (drop_more rs a no_record inside))

pub returns-then-one : goal.returns-then-one
returns-then-one c z m =
    first_numbered z.origin z.records c.args.one.now.first c.args.one.now.end c.if-one.true m
