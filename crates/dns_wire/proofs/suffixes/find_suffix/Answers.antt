use Rattle.dns_wire.proofs.Common.{refl, arith, subst, slice_get_within, NoneSpelled, asked_offsets, suffix_number}
use Rattle.dns_wire.proofs.AskedLemmas.{none_of_both, shared_asked, shared_kept}
use Rattle.dns_wire.proofs.suffixes.find_suffix.Goals as goal

pub returns-in-Some-clause-found : goal.returns-in-Some-clause-found
returns-in-Some-clause-found g c =
    let head = suffix_number (g.H.SuffixHash.hashes c.args.hash.now) in
    shared_asked (asked_offsets head c.args.message.now c.args.asked_end) c.args.offsets.now
    (c.in-Some.ensures.found head)

pub returns-then-len-eq0-clause-none : goal.returns-then-len-eq0-clause-none
returns-then-len-eq0-clause-none g c = λ _.
    let head = suffix_number (g.H.SuffixHash.hashes c.args.hash.now) in
    none_of_both head c.args.message.now c.args.asked_end _ c.args.offsets.now c.args.suffix.now
    (c.in_default.ensures.none refl) (λ p kept there.
    let inside = slice_get_within c.args.offsets.now kept.0 _ kept.1 in
    absurd (omega (arith, inside, c.if-len-eq0.true, c.len.ensures.value)))

pub returns-clause-found : goal.returns-clause-found
returns-clause-found g c =
    let found = c.find.ensures in
    shared_kept (asked_offsets (suffix_number (g.H.SuffixHash.hashes c.args.hash.now))
    c.args.message.now c.args.asked_end) c.args.offsets.now c.args.message.now c.args.suffix.now
    c.number_of-number.result c.find.result found.kept found.spelled found.reached

pub returns-clause-none : goal.returns-clause-none
returns-clause-none g c = λ none.
    let head = suffix_number (g.H.SuffixHash.hashes c.args.hash.now) in
    none_of_both head c.args.message.now c.args.asked_end _ c.args.offsets.now c.args.suffix.now
    (c.in_default.ensures.none refl)
    (subst (λ h. NoneSpelled c.args.offsets.now h c.args.message.now c.args.suffix.now)
    c.number_of-number.ensures.value (c.find.ensures.none none))
