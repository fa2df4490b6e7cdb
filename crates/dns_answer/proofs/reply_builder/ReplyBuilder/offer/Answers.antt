use Rattle.dns_answer.proofs.Common.{rules}
use Rattle.dns_answer.proofs.Offering.{Offers-full, put_in, left_out}
use Rattle.dns_answer.proofs.reply_builder.ReplyBuilder.offer.Goals as goal

pub returns-then-self : goal.returns-then-self
returns-then-self g c = Offers-full _ _ (search rules)

pub returns-then-not-put_set : goal.returns-then-not-put_set
returns-then-not-put_set g c = search (rules, left_out)

pub returns-else-not-put_set : goal.returns-else-not-put_set
returns-else-not-put_set g c =
    let p = c.put_set.ensures in
    put_in _ _ c.put_set.new.self _ _ _ c.self.view_is
    (search rules) c.if-self.false c.if-not-put_set.false p.limit p.fits p.put
