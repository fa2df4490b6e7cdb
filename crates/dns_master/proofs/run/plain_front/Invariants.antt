use Rattle.dns_master.proofs.Common.{◌≡◌, ◌≤◌, true, take, drop, length, list_all, is_string_octet}
use Rattle.dns_master.proofs.run.plain_front.Given as goal

-- all octets of the groups so far may appear in a string unescaped
abbrev pub invariant-groups : goal.invariant-groups
invariant-groups l = record {
  bound : l.front ≤ length l.text;
  left : l.rest ≡ drop l.front l.text;
  plain : list_all is_string_octet (take l.front l.text) ≡ true;
}

abbrev pub decreases-groups : goal.decreases-groups
decreases-groups l = length l.rest
