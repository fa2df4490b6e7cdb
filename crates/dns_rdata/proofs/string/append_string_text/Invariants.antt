use Rattle.dns_rdata.proofs.Common.{◌≡◌, ◌+◌, ◌*◌, ◌≤◌, ◌++◌, length, take, flat_map, string_octet_text}
use Rattle.dns_rdata.proofs.string.append_string_text.Given as goal

-- the texts of the octets so far have been appended, each of at most four octets
abbrev pub invariant-octets : goal.invariant-octets
invariant-octets l = record {
  appended : l.text ≡ l.initial.text ++ flat_map string_octet_text (take l.octet-index l.string);
  upto : length l.text ≤ length l.initial.text + 4 * l.octet-index;
}
