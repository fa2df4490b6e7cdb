use Rattle.dns_master.proofs.Common.{◌≡◌, length, drop, prefix_len, is_blank}
use Rattle.dns_master.proofs.run.after_long_blank.Given as goal

-- skipping the blanks at the front of `rest` leaves the same text as skipping those of `text`
abbrev pub invariant-blanks : goal.invariant-blanks
invariant-blanks l =
    drop (prefix_len is_blank l.rest) l.rest ≡ drop (prefix_len is_blank l.text) l.text

abbrev pub decreases-blanks : goal.decreases-blanks
decreases-blanks l = length l.rest
