use Rattle.dns_wire.proofs.Common.{rules, ◌≡◌, ◌∙◌, refl, sym, ap, ap₂, subst, subst₂, arith, length, [], ◌++◌, replicate, length-append, Some, wire, MessageQuestion, octets16, IsAskable, PartialMessage, partial_of, IsPartial, IsWellKept, empty_message}
use Rattle.dns_wire.proofs.AskedLemmas.{is_asked_whole}
use Rattle.dns_wire.proofs.Steps.{kept_with}
use Rattle.dns_wire.proofs.PartialLemmas.{asked_message, asked_begins, question_whole}
use Rattle.dns_wire.proofs.message_builder.MessageBuilder.put_question.Goals as goal
use Rattle.dns_wire.proofs.message_builder.MessageBuilder.put_question.Given as given

module _ (g : given.Over) (c : goal.After-self-2-1 g) where
  abbrev asked : MessageQuestion
  asked = record {
    qname = c.question.inside.name;
    qtype = c.question.inside.qtype;
    qclass = c.question.inside.qclass;
  }

  begun : partial_of c.self.inside.limit c.self.inside.octets.items c.self.inside.asked_end
      c.self.inside.offsets c.self.inside.counts ≡ empty_message c.args.self.now.limit
  begun = c.self.view_is ∙ c.requires

  name : c.extend.new.octets.items ≡ replicate 12 0 ++ wire asked.qname
  name = c.extend.ensures ∙ ap₂ ◌++◌ (ap (λ (d : PartialMessage). d.octets) begun) c.octets.ensures.value

  now : partial_of c.self.inside.limit
      c.extend-3.new.octets.items c.len-self-inside.result c.self.inside.offsets
      (record c.self.inside.counts { questions = 1 }) ≡ asked_message c.args.self.now.limit asked
  now = grind (arith, asked_message)

pub invariant_of-self : goal.invariant_of-self
invariant_of-self g c =
    let q = asked g c in
    let s = subst (IsWellKept g.row.N g.row.SIZE) (begun g c) c.self.invariant in
    let short = c.octets.ensures.bound in
    let long = ap length (question_whole q) in
    let name = ap length c.octets.ensures.value in
    let all =
    length-append (replicate 12 0 ++ wire q.qname) (octets16 q.qtype ++ octets16 q.qclass) in
    let front = length-append (replicate 12 0) (wire q.qname) in
    subst (IsWellKept g.row.N g.row.SIZE) (sym (now g c)) (kept_with s
    (omega (arith, s.least, short, long, name, all, front)) (omega arith) (is_asked_whole q.qname
    (octets16 q.qtype ++ octets16 q.qclass) (question_whole q) c.octets.ensures.is_name
    (omega (arith, short, name)) refl) (omega (arith, long, all, front)) (omega arith))

pub returns-clause-partial : goal.returns-clause-partial
returns-clause-partial g c = λ head.
    let limit = c.args.self.now.limit in
    let askable : IsAskable (asked g c) =
    record { qname = c.octets.ensures.is_name; qtype = search rules; qclass = search rules } in
    subst₂ (λ (q : MessageQuestion) (d : PartialMessage). IsPartial head (Some q) [] d) c.question.view_is
    (sym (now g c)) (asked_begins head limit (asked g c) askable)
