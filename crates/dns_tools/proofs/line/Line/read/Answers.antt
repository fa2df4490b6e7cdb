use Rattle.dns_tools.proofs.Common.{rules, ◌<◌, ◌≤◌, length, refl, take, false≢true}
use Rattle.dns_tools.proofs.KeptLines.{going_more, going_over, read_ended, longer, first_longer}
use Rattle.dns_tools.proofs.line.Line.read.Goals as goal

pub pieces-smaller-then-count-eq0 : goal.pieces-smaller-then-count-eq0
pieces-smaller-then-count-eq0 g c = search (rules, first_longer)

pub pieces-preserved-then-count-eq0 : goal.pieces-preserved-then-count-eq0
pieces-preserved-then-count-eq0 g c = search (rules, read_ended, false≢true)

pub pieces-smaller : goal.pieces-smaller
pieces-smaller g c =
    let some : 0 < length (take c.in_ok-count.count c.read.new.buf) = search rules in
    rw c.pieces-test.true
    (longer _ _ (take c.in_ok-count.count c.read.new.buf) c.take-is_over.result _ _ some
    (c.pieces.invariant.going c.pieces-test.true) c.take-is_over.ensures.more)

pub pieces-preserved : goal.pieces-preserved
pieces-preserved g c =
    let few : length (take c.in_ok-count.count c.read.new.buf) ≤ 65536 = search rules in
    record {
      source = search rules;
      room = search rules;
      over = λ e. going_over _ _ _ _
          (take c.in_ok-count.count c.read.new.buf) _ _ refl c.in_ok-count.ensures.bytes.0 few
          (λ x is. rw e at (c.take-is_over.ensures.over x is))
          (c.pieces.invariant.going c.pieces-test.true);
      going = λ e. going_more _ _ _ _
          (take c.in_ok-count.count c.read.new.buf) _ _ refl c.in_ok-count.ensures.bytes.0
          (λ x is. rw e at (c.take-is_over.ensures.more x is))
          (c.pieces.invariant.going c.pieces-test.true);
    }
