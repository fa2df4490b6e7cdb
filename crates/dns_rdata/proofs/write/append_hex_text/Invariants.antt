use Rattle.dns_rdata.proofs.Common.{◌≡◌, ◌+◌, ◌*◌, ◌++◌, length, take, hex_text}
use Rattle.dns_rdata.proofs.write.append_hex_text.Given as goal

-- the octets so far have been appended, as two digits each
abbrev pub invariant-octets : goal.invariant-octets
invariant-octets l = record {
  appended : l.text ≡ l.initial.text ++ hex_text (take l.octet-index l.octets);
  long : length l.text ≡ length l.initial.text + 2 * l.octet-index;
}
