use Rattle.dns_master.proofs.Common.{◌≡◌, true, false, ◌-◌, ◌∙◌, ap, sym, length, take_all, arith, rules, Some, None, token_words}
use Rattle.dns_spec.specs.EntryPlaces.{text_after}
use Rattle.dns_master.proofs.ListingLoop.{first-entry, entries-left, all-listed, none-left}
use Rattle.dns_master.proofs.listing.list_text.Goals as goal

pub take-requires : goal.take-requires
take-requires g c =
    let found = c.in_ok-ending.ensures in
    let is = found.reads (length c.split_at.result.0.now - length c.entries.rest.now)
    (length c.entries.rest.now) (omega arith) in
    let few = found.bound in
    let short = c.entries.invariant.short in
    record {
      words_are = ap token_words is.0
          ∙ sym (found.stored ∙ take_all 18446744073709551615 (token_words found.tokens)
          (omega (arith, few, short)))
          ∙ sym c.as_slice.ensures.value;
      ending_is = is.1;
      short = short;
      few = search rules;
    }

pub returns-then-not-branch : goal.returns-then-not-branch
returns-then-not-branch g c =
    let over : c.in_ok-take.field-0 ≡ false = search rules in
    all-listed _ _ _ _ _ _ _ _ _ _ _ c.split_at.ensures.front c.split_at.ensures.back c.min.ensures
    c.split_at-2.ensures.front c.min-2.ensures (rw over at (c.in_ok-take.ensures _ _ _ _ _
    (first-entry _ _ _ _ _ _ _ c.entries.left c.entries.rest.now c.entries-test.true
    c.entries.invariant.listed)))

pub entries-preserved : goal.entries-preserved
entries-preserved g c =
    let left = c.entries.left in
    let text = c.entries.rest.now in
    let on : c.in_ok-take.field-0 ≡ true = search rules in
    let so = rw on at (c.in_ok-take.ensures _ _ _ _ _
    (first-entry _ _ _ _ _ _ _ left text c.entries-test.true c.entries.invariant.listed)) in
    let found = c.in_ok-ending.ensures in
    let bound = found.bound in
    let shorter = c.in-Some.ensures.short in
    let is = found.reads (length c.split_at.result.0.now - length text) (length text)
    (omega arith) in
    let within = c.entries.invariant.short in
    record {
      listed = entries-left _ _ _ _ _ _ _ (left - 1) text (Some c.in-Some.after.now)
          (ap text_after is.1 ∙ c.in-Some.ensures.value) so;
      short = omega (arith, bound, shorter, within);
    }

pub returns-in-None : goal.returns-in-None
returns-in-None g c =
    let left = c.entries.left in
    let text = c.entries.rest.now in
    let found = c.in_ok-ending.ensures in
    let is = found.reads (length c.split_at.result.0.now - length text) (length text)
    (omega arith) in
    let on : c.in_ok-take.field-0 ≡ true = search rules in
    let so = rw on at (c.in_ok-take.ensures _ _ _ _ _
    (first-entry _ _ _ _ _ _ _ left text c.entries-test.true c.entries.invariant.listed)) in
    all-listed _ _ _ _ _ _ _ _ _ _ _ c.split_at.ensures.front c.split_at.ensures.back c.min.ensures
    c.split_at-2.ensures.front c.min-2.ensures (entries-left _ _ _ _ _ _ _ (left - 1) text None
    (ap text_after is.1 ∙ c.in-None.ensures.value) so)

pub returns : goal.returns
returns g c =
    let few = c.entries-test.false in
    all-listed _ _ _ _ _ _ _ _ _ _ _ c.split_at.ensures.front c.split_at.ensures.back c.min.ensures
    c.split_at-2.ensures.front c.min-2.ensures (none-left _ _ _ _ _ _ _ c.entries.left
    c.entries.rest.now (omega (arith, few)) c.entries.invariant.listed)
