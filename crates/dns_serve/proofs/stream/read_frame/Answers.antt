use Rattle.dns_spec.proofs.Common.{rules, arith, sym, err_from_is_err_and, length, length-append, ◌≡◌, ◌<◌, ◌∙◌, length-take}
use Rattle.std.proofs.lemmas.Bool.Decides.{nat_tests}
use Rattle.dns_serve.specs.Framing.{missing_of}
use Rattle.dns_serve.proofs.Readings.{came_whole, came_more, came_part, came_beginning, kept_is_consumed}
use Rattle.dns_serve.proofs.stream.read_frame.Goals as goal

pub returns-in_err-count-clause-read : goal.returns-in_err-count-clause-read
returns-in_err-count-clause-read g c =
    let p = err_from_is_err_and c.from_residual.result c.from_residual.ensures.1 in
    let some : 0 < missing_of c.pieces.frame = omega arith in
    rw (p.1, p.2) (came_beginning _ _ _ _ c.pieces.invariant.came some
    (kept_is_consumed _ _ c.in_err-count.ensures.bytes))

pub returns-else-is_empty-clause-read : goal.returns-else-is_empty-clause-read
returns-else-is_empty-clause-read g c =
    let some : 0 < missing_of c.pieces.frame = omega arith in
    let room : 0 < length c.read.new.buf =
    omega (arith, c.read.auto.buf, c.split_at_mut-piece.ensures.front_len, some) in
    let none : c.in_ok-count.count ≡ 0 = omega arith in
    let come : 0 < c.pieces.frame.came =
    grind (arith, nat_tests, sym c.is_empty.ensures ∙ c.if-is_empty.false) in
    came_part _ _ _ _ _ c.read.new.buf c.pieces.invariant.came some come none
    c.in_ok-count.ensures.bytes.0 (c.in_ok-count.ensures.bytes.1 none room)

pub pieces-preserved : goal.pieces-preserved
pieces-preserved g c =
    let room : length c.read.new.buf ≡ missing_of c.pieces.frame =
    c.read.auto.buf ∙ c.split_at_mut-piece.ensures.front_len ∙ c.missing-in-pieces.ensures.count in
    record {
      came = came_more _ _ _ _ _ _ c.pieces.invariant.came
          c.in_ok-count.ensures.bytes.0 (omega (arith, length-take c.in_ok-count.count c.read.new.buf))
          c.take.ensures.came;
      room = omega (
        arith,
        length-append c.read.new.buf c.split_at_mut-piece.result.1.now,
        c.read.auto.buf,
        c.split_at_mut-piece.ensures.front_len,
        c.split_at_mut-piece.ensures.back_len,
      );
      counted = search rules;
    }

pub returns-clause-read : goal.returns-clause-read
returns-clause-read g c = came_whole _ _ _ c.pieces.invariant.came (omega arith)
