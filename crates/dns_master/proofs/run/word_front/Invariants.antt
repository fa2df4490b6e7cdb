use Rattle.dns_master.proofs.Common.{◌≡◌, ◌+◌, ◌≤◌, length, prefix_len, is_word_octet}
use Rattle.dns_master.proofs.run.word_front.Given as goal

-- the octets so far, followed by the word octets at the front of `rest`, are all the word octets at
-- the front
abbrev pub invariant-groups : goal.invariant-groups
invariant-groups l = record {
  whole : prefix_len is_word_octet l.text ≡ l.front + prefix_len is_word_octet l.rest;
  bound : l.front + length l.rest ≤ length l.text;
}

abbrev pub decreases-groups : goal.decreases-groups
decreases-groups l = length l.rest
