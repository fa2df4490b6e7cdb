use Rattle.dns_master.proofs.Common.{rules, ◌≡◌, ◌++◌, is_word_octet}
use Rattle.dns_master.proofs.RunLemmas.{front-ends, front-goes_on, front-place}
use Rattle.dns_master.proofs.run.word_front.Goals as goal

pub returns-in-Some-word_end : goal.returns-in-Some-word_end
returns-in-Some-word_end c =
    let is : c.groups.rest.now ≡ c.in-Some.group.now ++ c.in-Some.others.now = search rules in
    search (
      rules,
      (front-ends is_word_octet c.groups.rest.now
          c.in-Some.group.now c.in-Some.others.now is),
    )

pub groups-preserved : goal.groups-preserved
groups-preserved c =
    let is : c.groups.rest.now ≡ c.in-Some.group.now ++ c.in-Some.others.now = search rules in
    search (
      rules,
      (front-goes_on is_word_octet c.groups.rest.now
          c.in-Some.group.now c.in-Some.others.now is),
    )

pub returns : goal.returns
returns c = search (rules, (front-place is_word_octet c.groups.rest.now))
