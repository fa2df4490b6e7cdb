use Rattle.dns_zone.proofs.Common.{◌≡◌, ◌||◌, length, list_any, is_server_alias, server_lacks_address, is_exchange_alias}
use Rattle.dns_zone.proofs.checks.owner.Owner.target_faults.Given as goal

-- some record has a fault if it was found so far or a remaining record has it
abbrev pub invariant-targets : goal.invariant-targets
invariant-targets l =
    let z = l.self.zone in
    let n = l.self.name in
    ((l.found.ns_alias || list_any (is_server_alias z) l.rest)
    ≡ list_any (is_server_alias z) l.initial.rest)
    × ((l.found.ns_lacks_address || list_any (server_lacks_address z n) l.rest)
    ≡ list_any (server_lacks_address z n) l.initial.rest)
    × ((l.found.exchange_alias || list_any (is_exchange_alias z) l.rest)
    ≡ list_any (is_exchange_alias z) l.initial.rest)

abbrev pub decreases-targets : goal.decreases-targets
decreases-targets l = length l.rest
