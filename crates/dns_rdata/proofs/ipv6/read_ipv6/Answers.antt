use Rattle.dns_rdata.proofs.Common.{sym, arith}
use Rattle.dns_rdata.proofs.Ipv6Lemmas.{refused_whole, whole_word, refused_front, refused_back, refused_sum, filled_word}
use Rattle.dns_rdata.proofs.ipv6.read_ipv6.Goals as goal

pub returns-in_err-groups : goal.returns-in_err-groups
returns-in_err-groups c = grind (arith, refused_whole)

pub returns-in_default : goal.returns-in_default
returns-in_default c =
    whole_word
    c.args.word.now c.in_ok-groups.groups.items _ c.in_default.ensures c.in_ok-groups.ensures
    (rw c.as_slice.ensures.value at c.octets_of_groups.ensures)

pub returns-in_err-groups-2 : goal.returns-in_err-groups-2
returns-in_err-groups-2 c = grind (arith, refused_front)

pub returns-in_err-back : goal.returns-in_err-back
returns-in_err-back c = grind (arith, refused_back)

pub returns-then-not-fill : goal.returns-then-not-fill
returns-then-not-fill c =
    sym (refused_sum c.args.word.now _ _
    _ _ c.fill.new.groups.items c.in-Some.ensures c.in_ok-groups-2.ensures c.in_ok-back.ensures
    (rw c.as_slice-2.ensures.value at c.if-not-fill.ensures))

pub returns : goal.returns
returns c =
    filled_word c.args.word.now _ _ _
    _ c.fill.new.groups.items _ c.in-Some.ensures c.in_ok-groups-2.ensures c.in_ok-back.ensures
    (rw c.as_slice-2.ensures.value at c.if-not-fill.ensures)
    (rw c.as_slice-3.ensures.value at c.octets_of_groups-2.ensures)
