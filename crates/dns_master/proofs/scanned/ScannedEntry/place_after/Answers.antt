use Rattle.dns_master.proofs.Common.{arith, ◌≡◌, ◌-◌, ◌<◌, suc, true, false, inl, inr, sym, ap, subst, ◌∙◌, length, front-shorter, shown_token, word_of, Token}
use Rattle.std.specs.Option.{is_some}
use Rattle.dns_spec.specs.EntryPlaces.{empty_place}
use Rattle.dns_master.proofs.ScanSteps.{SpotIs, spot-ended, spot-other, spot-passed, spot-stopped, spot-word, spot-wrong}
use Rattle.dns_master.proofs.scanned.ScannedEntry.place_after.Goals as goal
use Rattle.dns_master.proofs.scanned.ScannedEntry.place_after.Goals.{In-Onward}

-- the entry goes on after a token
module _ (c : In-Onward) where
  abbrev token : Token
  token = shown_token c.in-Some.token

  less : length c.in-Some.others.now < length c.tokens.rest.now
  less = front-shorter c.tokens.rest.now token c.in-Some.others.now c.in-Some.ensures

pub tokens-init : goal.tokens-init
tokens-init c = record {
  short = c.requires.short;
  same = λ place h. h (length c.args.self.now.rest.now) (omega arith);
}

pub returns-in-Misplaced : goal.returns-in-Misplaced
returns-in-Misplaced c =
    c.empty.ensures ∙ sym (c.tokens.invariant.same _ (elim c.in-Misplaced.is [
      | inl is ↦ spot-wrong _ _ c.tokens.rest.now c.in-Some.others.now _ c.in-Some.ensures
          c.tokens.invariant.short c.tokens.left (rw is at c.step_after.ensures)
      | inr is ↦
          let ends = rw is at c.step_after.ensures in
          spot-ended _ _ c.tokens.rest.now c.in-Some.others.now _ c.in-Some.ensures
          c.tokens.invariant.short c.tokens.left ends.0 ends.1
    ]))

pub overflow_sub-ends : goal.overflow_sub-ends
overflow_sub-ends c =
    omega (arith, less (goal.at.overflow_sub-ends c).In-Onward, c.tokens.invariant.short)

pub returns-then-left-eq0 : goal.returns-then-left-eq0
returns-then-left-eq0 c =
    let is : is_some (word_of (shown_token c.in-Some.token)) ≡ true =
    ap is_some (sym c.word_of.ensures) ∙ sym c.is_some.ensures ∙ c.if-is_some.true in
    sym (c.tokens.invariant.same _ (rw c.if-left-eq0.true (spot-word _ c.tokens.is_open
    c.tokens.rest.now c.in-Some.others.now _ c.in-Some.ensures c.tokens.invariant.short
    c.in-Onward.now_open c.in-Onward.ensures is)))

pub tokens-smaller-else-left-eq0 : goal.tokens-smaller-else-left-eq0
tokens-smaller-else-left-eq0 c = less (goal.at.tokens-smaller-else-left-eq0 c).In-Onward

pub tokens-preserved-else-left-eq0 : goal.tokens-preserved-else-left-eq0
tokens-preserved-else-left-eq0 c =
    let is : is_some (word_of (shown_token c.in-Some.token)) ≡ true =
    ap is_some (sym c.word_of.ensures) ∙ sym c.is_some.ensures ∙ c.if-is_some.true in
    let one : suc (c.tokens.left - 1) ≡ c.tokens.left = omega (arith, c.if-left-eq0.false) in
    record {
      short = omega (
        arith,
        less (goal.at.tokens-preserved-else-left-eq0 c).In-Onward,
        c.tokens.invariant.short,
      );
      same = λ place h. c.tokens.invariant.same place
          (subst (λ n. SpotIs (length c.args.self.now.octets.now) n c.tokens.is_open
          c.tokens.rest.now place) one
          (spot-passed _ c.tokens.is_open c.tokens.rest.now c.in-Some.others.now _
          c.in-Some.ensures c.tokens.invariant.short c.in-Onward.now_open c.in-Onward.ensures
          (c.tokens.left - 1) place is h));
    }

pub tokens-smaller : goal.tokens-smaller
tokens-smaller c = less (goal.at.tokens-smaller c).In-Onward

pub tokens-preserved : goal.tokens-preserved
tokens-preserved c =
    let none : is_some (word_of (shown_token c.in-Some.token)) ≡ false =
    ap is_some (sym c.word_of.ensures) ∙ sym c.is_some.ensures ∙ c.if-is_some.false in
    record {
      short = omega (
        arith,
        less (goal.at.tokens-preserved c).In-Onward,
        c.tokens.invariant.short,
      );
      same = λ place h. c.tokens.invariant.same place (spot-other _ c.tokens.is_open
          c.tokens.rest.now c.in-Some.others.now _ c.in-Some.ensures c.tokens.invariant.short
          c.in-Onward.now_open c.in-Onward.ensures c.tokens.left place none h);
    }

pub returns : goal.returns
returns c =
    c.empty-2.ensures
    ∙ ap (λ x. empty_place (length c.args.self.now.octets.now - length x))
    c.stop_octets.ensures.value
    ∙ sym (c.tokens.invariant.same _ (spot-stopped _ c.tokens.left c.tokens.is_open
    c.tokens.rest.now c.in_default.ensures))
