use Rattle.dns_name.proofs.Common.{◌≡◌, ◌≤◌, ◌+◌, ◌*◌, ◌++◌, length, take, label_text}
use Rattle.dns_name.proofs.written.append_label.Given as goal

-- the octets of the label so far have been written
abbrev pub invariant-octets : goal.invariant-octets
invariant-octets l = record {
  written : l.text ≡ l.initial.text ++ label_text (take l.octet-index l.label);
  upto : length l.text ≤ length l.initial.text + 4 * l.octet-index;
}
