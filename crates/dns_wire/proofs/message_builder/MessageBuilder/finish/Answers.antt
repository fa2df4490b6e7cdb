use Rattle.dns_wire.proofs.Common.{◌≡◌, ◌++◌, ◌∙◌, sym, ap, subst, arith, length, drop, length-append, length-drop, take_at, refill, Octets, Spells, message_of, PartialMessage}
use Rattle.dns_wire.proofs.PartialLemmas.{header_of, draft_laid, draft_spelled}
use Rattle.dns_wire.proofs.message_builder.MessageBuilder.finish.Goals as goal
use Rattle.dns_wire.proofs.message_builder.MessageBuilder.finish.Goals.{After-self-1}
use Rattle.dns_wire.proofs.message_builder.MessageBuilder.finish.Given as given

-- the octets with their header
module _ (g : given.Over) (c : After-self-1 g) where
  abbrev before : Octets
  before = c.self.inside.octets.items

  abbrev headed : Octets
  headed = header_of c.args.head c.self.inside.counts ++ drop 12 before

  long : length headed ≡ length before
  long = omega (arith, length-drop 12 before)

  written : refill (length before) before c.put_header.new.out ≡ headed
  written =
      let out = c.put_header.new.out in
      let put : out ≡ headed = c.put_header.ensures.octets
      ∙ ap (λ o. header_of c.args.head c.self.inside.counts ++ drop 12 o) c.as_mut_slice.ensures.value
      in
      take_at out (drop (length out) before) (length before) (ap length put ∙ long) ∙ put

pub returns-clause-layout : goal.returns-clause-layout
returns-clause-layout g c = λ h q items partial.
    written g c ∙ ap (λ (d : PartialMessage). header_of c.args.head d.counts ++ drop 12 d.octets) c.self.view_is
    ∙ draft_laid c.args.head q items c.args.self.now partial

pub returns-clause-spelled : goal.returns-clause-spelled
returns-clause-spelled g c = λ h q items partial order writable.
    let within = c.self.invariant.within in
    let short = c.self.invariant.short in
    subst (λ z. Spells z (message_of c.args.head q items))
    (sym (returns-clause-layout g c h q items partial))
    (draft_spelled c.args.head q items c.args.self.now partial c.put_header.ensures.id
    c.put_header.ensures.flags order writable
    (omega (arith, within, short, ap (λ (d : PartialMessage). length d.octets) c.self.view_is)))
