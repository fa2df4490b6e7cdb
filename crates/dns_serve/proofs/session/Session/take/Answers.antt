use Rattle.dns_spec.proofs.Common.{rules, arith, ap, sym, ◌∙◌, ◌≡◌, ◌++◌, inl, inr, drop, length, length-append, nil_from_length}
use Rattle.std.proofs.lemmas.List.{drop-append-le}
use Rattle.std.proofs.lemmas.Bool.Decides.{nat_tests}
use Rattle.dns_spec.specs.Stream.{reply_frame}
use Rattle.dns_serve.specs.Framing.{missing_of}
use Rattle.dns_serve.specs.Streams.{reply_over_tcp}
use Rattle.dns_serve.proofs.Taking.{end_of_end, took_part, took_frame, took_more}
use Rattle.dns_serve.proofs.session.Session.take.Goals as goal

pub pieces-preserved-then-missing-eq0 : goal.pieces-preserved-then-missing-eq0
pieces-preserved-then-missing-eq0 c =
    let held = c.pieces.self-inside.replies.items in
    let reply = reply_frame (reply_over_tcp c.args.zone.now c.message.result.now) in
    let more : drop c.pieces.self-inside.sent c.put_reply.new.replies.items
    ≡ drop c.pieces.self-inside.sent held ++ reply =
    ap (drop c.pieces.self-inside.sent) c.put_reply.ensures.items
    ∙ drop-append-le c.pieces.self-inside.sent held _ (omega arith) in
    record {
      rest = search (rules, end_of_end);
      took = λ most x sent h.
          let none : missing_of c.take-rest.new.self ≡ 0 =
          sym c.missing.ensures.count ∙ c.if-missing-eq0.true in
          took_frame _ _ _ _ x sent _ _ _ (c.pieces.invariant.took most x sent h)
          c.take-rest.ensures.rest c.take-rest.ensures.came _ c.message.result.now _ _ _ none
          c.clear.ensures c.message.ensures more (omega arith);
      held = omega (
        arith,
        c.pieces.invariant.held,
        ap length more,
        length-append (drop c.pieces.self-inside.sent held) reply,
        ap length c.put_reply.ensures.items,
        length-append held reply,
      );
    }

pub pieces-preserved : goal.pieces-preserved
pieces-preserved c = record {
  rest = search (rules, end_of_end);
  took = λ most x sent h.
      took_part _ _ _ _ x sent _ _ _ (c.pieces.invariant.took most x sent h)
      c.take-rest.ensures.rest c.take-rest.ensures.came _ (omega arith);
  held = search rules;
}

pub returns-else-len-le-BATCH-clause-taken : goal.returns-else-len-le-BATCH-clause-taken
returns-else-len-le-BATCH-clause-taken c = λ most x sent h.
    took_more _ _ _ _ x sent _ _ (c.pieces.invariant.took most x sent h)
    c.pieces.self-inside.bound c.pieces.invariant.held (inr (inl (omega arith)))

pub returns-after-pieces-clause-taken : goal.returns-after-pieces-clause-taken
returns-after-pieces-clause-taken c = λ most x sent h.
    let none : length c.pieces.rest.now ≡ 0 =
    grind (arith, nat_tests, sym c.is_empty.ensures ∙ c.pieces-test.false) in
    took_more _ _ _ _ x sent _ _ (c.pieces.invariant.took most x sent h)
    c.pieces.self-inside.bound c.pieces.invariant.held (inl (nil_from_length _ none))
