use Rattle.dns_zone.proofs.Common.{rules, ◌≡◌, List, [], ◌∷◌, None, refl, DomainName, ResourceRecord, slice_get, labels_of_spelled, first_owner}
use Rattle.dns_zone.proofs.checks.context.CheckContext.name.Goals as goal

-- without a first record the name is the origin
origin_first : (o : DomainName) (rs : List ResourceRecord) → None ≡ slice_get rs 0
    → o ≡ first_owner o rs
origin_first o [] e = refl
origin_first o (r ∷ rs) e = cc

pub returns-in-None : goal.returns-in-None
returns-in-None c = search (rules, labels_of_spelled, origin_first)
