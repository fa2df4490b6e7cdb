use Rattle.dns_master.proofs.Common.{◌≡◌, take, list_all, is_string_octet}
use Rattle.dns_master.proofs.run.are_plain.Given as goal

-- `all` says whether all octets so far may appear unescaped in a string
abbrev pub invariant-octets : goal.invariant-octets
invariant-octets l = record {
  so_far : l.all ≡ list_all is_string_octet (take l.octet-index l.group);
}
