use Rattle.dns_wire.proofs.Common.{◌∙◌, refl, ap, suffix_number}
use Rattle.dns_wire.proofs.SuffixLemmas.{follows_none, follows_again, keep_begins, keep_label, keep_root, keep_high, keep_past, keep_end}
use Rattle.dns_wire.proofs.suffixes.keep_suffixes.Goals.{then-next-at-via-then-next-at, then-next-at-via-else-next-at+then-offset-gt-LAST_OFFSET}
use Rattle.dns_wire.proofs.suffixes.keep_suffixes.Goals as goal

pub suffixes-init : goal.suffixes-init
suffixes-init g c = record {
  keep = keep_begins (suffix_number (g.H.SuffixHash.hashes c.args.hash.now))
      c.args.offsets.now c.args.name.now c.args.front c.args.at c.requires.few;
  more = follows_none c.args.offsets.now;
  same = refl;
}

pub suffixes-preserved : goal.suffixes-preserved
suffixes-preserved g c =
    let a = c.in-Some.ensures.some in
    let number = c.number_of.ensures.value
    ∙ ap (λ f. suffix_number f c.suffixes.rest.now) c.suffixes.invariant.same in
    let kept = keep_label c.in-Some.length c.number_of.result
    c.suffixes.invariant.keep a c.if-next-at.false c.if-offset-gt-LAST_OFFSET.false number in
    record {
      keep = rw c.insert.ensures kept;
      more =
          follows_again c.suffixes.invariant.more (record { more = _; whole = c.insert.ensures });
      same = c.number_of.ensures.same ∙ c.suffixes.invariant.same;
    }

pub returns-then-next-at-clause-kept : goal.returns-then-next-at-clause-kept
returns-then-next-at-clause-kept g c = λ ms n e ok front.
    let a = c.in-Some.ensures.some in
    elim c.then-next-at.branch [
      | then-next-at-via-then-next-at w ↦
          keep_past c.in-Some.length c.suffixes.invariant.keep a w.if-next-at.true ms n e ok front
      | then-next-at-via-else-next-at+then-offset-gt-LAST_OFFSET w ↦
          keep_high c.suffixes.invariant.keep w.if-offset-gt-LAST_OFFSET.true ms n e ok front
    ]

pub returns-clause-kept : goal.returns-clause-kept
returns-clause-kept g c =
    λ ms n e ok front. keep_end c.suffixes.invariant.keep c.suffixes-test.false ms n e ok front

pub returns-in_default-clause-kept : goal.returns-in_default-clause-kept
returns-in_default-clause-kept g c = λ ms n e ok front. keep_root c.suffixes.invariant.keep
    (c.in_default.ensures.root refl) ms n e ok front
