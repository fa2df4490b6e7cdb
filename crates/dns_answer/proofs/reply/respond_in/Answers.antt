use Rattle.dns_answer.proofs.Common.{rules, false, ◌≡◌, ℕ, List, [], ◌<◌, get_or, All, None, Some, length, ◌≤◌, refl, sym, ap, ◌∙◌, subst, subst₂, arith, get_or_default_zero, layout, Header, decide_question, IsPartial, quick_number, IsHeaded, IsLaidOut, Costs, State, Holds, Responds, Walk, empty_reply}
use Rattle.dns_wire.specs.PartialMessage as wire
use Rattle.dns_wire.proofs.PartialLemmas.{nothing_begins}
use Rattle.dns_answer.proofs.PutReplies.{refusal-put}
use Rattle.dns_answer.proofs.SentReplies.{nothing-taken, unanswered, responded}
use Rattle.dns_answer.proofs.reply.respond_in.Goals as goal
use Rattle.dns_answer.proofs.reply.respond_in.Goals.{in-Refused, in-Query, in-Err, in-Ok}

low : (xs : List ℕ) → ((i : ℕ) → get_or xs i 0 < 256) → All (λ o. o < 256) xs
low xs fits = λ k d h. subst (λ o. o < 256) (sym (get_or_default_zero xs k d h)) (fits k)

-- the limit of an empty message is that of the message that was emptied
limit_of_empty : {d : wire.PartialMessage} {limit size : ℕ} → d ≡ wire.empty_message limit → limit ≡ size
    → d.limit ≡ size
limit_of_empty e is = ap (λ (d : wire.PartialMessage). d.limit) e ∙ is

pub returns-in-Absent : goal.returns-in-Absent
returns-in-Absent g c =
    unanswered _ _ c.in-Absent.ensures _ _ _
    (nothing-taken _ _ c.requires.visits c.requires.comparisons) refl refl

pub invariant_of-builder-in-Refused : goal.invariant_of-builder-in-Refused
invariant_of-builder-in-Refused g c =
    let s = c.builder.invariant in
    (s.0, s.1, c.finish.ensures.limit ∙ limit_of_empty c.clear.ensures s.2)

pub put_answer-head-requires : goal.put_answer-head-requires
put_answer-head-requires g c =
    let judged = c.in-Ok.ensures c.args.steps.now.zone (sym c.origin-origin.ensures.value) in
    let put = c.put_question.ensures in
    let begun : Holds (record { message = c.put_question.new.self; full = false })
    (empty_reply c.in-Query.question g.row.SIZE) = record {
      written = put.partial quick_number;
      limit = put.limit ∙ limit_of_empty c.clear.ensures c.builder.invariant.2;
      full = refl;
    } in
    (search rules, (begun, (c.requires.visits, (c.requires.comparisons, (judged.1, judged.2)))))

pub invariant_of-builder-in-Query : goal.invariant_of-builder-in-Query
invariant_of-builder-in-Query g c =
    let s = c.builder-in-Query.invariant in
    (s.0, s.1, c.finish-in-Query.ensures.limit ∙ s.2)

pub returns : goal.returns
returns g c =
    let s = c.args.steps.now in
    let size = g.row.SIZE in
    let bytes = low _ (λ i. let h = c.type_inv.datagram i in omega arith) in
    let built = c.origin-origin.ensures.built in
    let sent = c.octets.result.now in
    let room = c.builder.invariant in
    let from_steps = λ (s' : Walk) (e : c.match-query_ref.steps ≡ s')
    (r : Responds s s' c.args.datagram.now size (Some sent)).
    subst (λ x. Responds s x c.args.datagram.now size (Some sent)) (sym e) r in
    elim c.match-query_ref.branch [
      | in-Refused w ↦
          let now = ap (λ (x : State). x.message.octets) (c.builder-2.view_is ∙ w.builder-is) in
          let message : State = record { message = c.clear.new.self; full = false } in
          let laid : IsLaidOut message w.in-Refused.head sent = record {
            octets = λ q items d. c.octets.ensures ∙ now
                ∙ w.finish.ensures.layout quick_number q items d;
            within = subst (λ o. length o ≤ message.message.limit) (sym (c.octets.ensures ∙ now))
                w.finish.ensures.fits;
          } in
          from_steps _ w.steps-is (responded _ _ w.in-Refused.ensures _ _ _
          (nothing-taken _ s c.requires.visits c.requires.comparisons) message _ sent refl built bytes
          room.0 room.1 (refusal-put _ _ _ w.in-Refused.head None message refl
          (subst (IsPartial quick_number None []) (sym c.clear.ensures)
          (nothing_begins quick_number _)) (limit_of_empty c.clear.ensures room.2)) laid)
      | in-Query w ↦
          let h = w.in-Query.head in
          let q = w.in-Query.question in
          let now = ap (λ (x : State). x.message.octets) (c.builder-2.view_is ∙ w.builder-is) in
          let own : State = record {
            message = w.builder-in-Query.inside.message;
            full = w.builder-in-Query.inside.is_full;
          } in
          let there : IsLaidOut own w.match-judge.head sent = record {
            octets = λ q items d. c.octets.ensures ∙ now
                ∙ w.finish-in-Query.ensures.layout quick_number q items d;
            within = subst (λ o. length o ≤ own.message.limit) (sym (c.octets.ensures ∙ now))
                w.finish-in-Query.ensures.fits;
          } in
          let laid = subst (λ x. IsLaidOut x w.match-judge.head sent) w.builder-in-Query.view_is there
          in
          elim w.match-judge.branch [
            | in-Err v ↦
                let message : State = record { message = w.put_question.new.self; full = false } in
                let judged = sym (v.in-Err.ensures s.zone (sym c.origin-origin.ensures.value)) in
                from_steps _ (w.steps-is ∙ v.steps-is) (responded _ _ w.in-Query.ensures _ _ _
                (subst (λ r. Costs (decide_question h q r) s s) judged
                (nothing-taken _ s c.requires.visits c.requires.comparisons)) message
                v.reply-head.result sent refl built bytes room.0 room.1
                (subst (λ r. IsHeaded s.zone size (decide_question h q r) message
                v.reply-head.result) judged (refusal-put _ _ _ v.reply-head.result (Some q) message
                (ap (λ (h : Header). Some (layout h (Some q) [])) v.reply-head.ensures)
                (w.put_question.ensures.partial quick_number)
                (w.put_question.ensures.limit ∙ limit_of_empty c.clear.ensures room.2)))
                (subst₂ (λ x y. IsLaidOut x y sent) v.builder-is v.head-is laid))
            | in-Ok v ↦
                let put = v.put_answer-head in
                let judged = sym (v.in-Ok.ensures s.zone (sym c.origin-origin.ensures.value)).0 in
                from_steps _ (w.steps-is ∙ v.steps-is) (responded _ _ w.in-Query.ensures _ _ _
                (subst (λ r. Costs (decide_question h q r) s put.new.steps) judged
                put.ensures.costs) put.new.builder put.result sent refl built bytes room.0 room.1
                (subst (λ r. IsHeaded s.zone size (decide_question h q r) put.new.builder
                put.result) judged put.ensures.reply)
                (subst₂ (λ x y. IsLaidOut x y sent) v.builder-is v.head-is laid))
          ]
    ]
