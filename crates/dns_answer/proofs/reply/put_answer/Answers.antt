use Rattle.dns_answer.proofs.Common.{rules, ◌≡◌, true, sym, ap, subst, arith, is_name, ZoneContents, MessageQuestion, All-nil, folded, IsBelow, Sought, IsApex}
use Rattle.dns_answer.proofs.PutReplies.{answers-found, answer-put, answer-costs}
use Rattle.dns_answer.proofs.reply.put_answer.Goals as goal

pub seek-followed_alias-requires : goal.seek-followed_alias-requires
seek-followed_alias-requires g c =
    let apex = c.apex-apex.ensures in (
      search rules,
      record {
        apex = subst (λ z. IsApex z c.apex-apex.result) (sym apex.zone)
            (record { node = apex.node; exists = apex.exists });
        below = subst (λ (z : ZoneContents). IsBelow c.args.sought z.origin) (sym apex.zone)
            c.requires.below;
        lower = record {
          last = λ h. absurd (omega (arith, h));
          others = All-nil (λ (s : Sought). folded s.name ≡ s.name);
        };
        room = record { visits = omega arith; comparisons = omega arith };
      },
    )

pub returns-clause-reply : goal.returns-clause-reply
returns-clause-reply g c =
    answer-put _ _ _ g.row.SIZE _ _ c.reply.result c.requires.begun
    (answers-found c.args.steps.now.zone c.args.head.now c.args.question.now
    c.seek-followed_alias.result.1 c.apex-apex.ensures.zone c.requires.asked
    (ap (λ (q : MessageQuestion). q.qtype) c.question.view_is)
    c.seek-followed_alias.ensures.seeks c.seek-followed_alias.ensures.followed
    (search rules) c.reply.ensures)

pub returns-clause-costs : goal.returns-clause-costs
returns-clause-costs g c =
    let name : is_name c.args.question.now.qname ≡ true = search rules in
    answer-costs c.args.head.now c.args.question.now _ _ c.args.steps.now c.apex-apex.new.self
    c.seek-followed_alias.new.steps name c.requires.asked
    (ap (λ (q : MessageQuestion). q.qtype) c.question.view_is)
    c.requires.visits c.requires.comparisons c.apex-apex.ensures.visits
    c.apex-apex.ensures.comparisons
    c.apex-apex.ensures.zone c.seek-followed_alias.ensures.seeks.took
