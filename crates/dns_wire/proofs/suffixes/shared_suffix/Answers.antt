use Rattle.dns_wire.proofs.Common.{◌∙◌, refl, subst, ◌++◌, HasOffset, NoneSpelled, asked_offsets, suffix_number}
use Rattle.dns_wire.proofs.NameWritten.{left_past}
use Rattle.dns_wire.proofs.SuffixLemmas.{left_root, left_found, left_label}
use Rattle.dns_wire.proofs.suffixes.shared_suffix.Goals as goal

pub returns-in-Some-find_suffix-clause-shared : goal.returns-in-Some-find_suffix-clause-shared
returns-in-Some-find_suffix-clause-shared g c = λ ms n holds e ok.
    let found = c.in-Some-find_suffix.ensures.found in
    let i = c.suffixes.invariant in
    let kept = subst (λ h. HasOffset (asked_offsets (suffix_number h) c.args.message.now
    c.args.asked_end ++ c.args.offsets.now) c.in-Some-find_suffix.offset) i.same found.kept in
    left_found c.in-Some-find_suffix.offset ms n i.left kept found.spelled holds e ok

pub returns-then-front-room-clause-past : goal.returns-then-front-room-clause-past
returns-then-front-room-clause-past g c = λ _. left_past c.suffixes.invariant.left
    c.in-Some.ensures.some c.if-front-room.true

pub suffixes-preserved : goal.suffixes-preserved
suffixes-preserved g c =
    let i = c.suffixes.invariant in
    let none = subst (λ h. NoneSpelled
    (asked_offsets (suffix_number h) c.args.message.now c.args.asked_end ++ c.args.offsets.now)
    (suffix_number h c.suffixes.rest.now) c.args.message.now c.suffixes.rest.now) i.same
    (c.in_default-find_suffix.ensures.none refl) in
    record {
      left = left_label c.in-Some.field-0-0 i.left c.in-Some.ensures.some none;
      same = c.find_suffix.ensures.same ∙ i.same;
    }

pub returns-clause-shared : goal.returns-clause-shared
returns-clause-shared g c = λ ms n holds e ok. left_root ms n c.suffixes.invariant.left
    (c.in_default.ensures.root refl) holds e ok
