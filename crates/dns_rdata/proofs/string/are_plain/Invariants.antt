use Rattle.dns_rdata.proofs.Common.{◌≡◌, take, list_all, is_plain}
use Rattle.dns_rdata.proofs.string.are_plain.Given as goal

-- `all` says whether all octets so far are plain
abbrev pub invariant-octets : goal.invariant-octets
invariant-octets l = l.all ≡ list_all is_plain (take l.octet-index l.octets)
