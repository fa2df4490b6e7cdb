use Rattle.dns_wire.proofs.Common.{◌≡◌, ◌∙◌, ◌∷◌, [], ◌++◌, sym, ap, cond, octets, parts, laid_parts, octets_laid, name_laid, tail_laid}
use Rattle.dns_wire.proofs.DataWritten.{plain_laid}
use Rattle.dns_wire.proofs.Steps.{writes_as, writes_both}
use Rattle.dns_wire.proofs.message_builder.MessageBuilder.put_record.Goals as goal

pub returns-then-shares-clause-writes : goal.returns-then-shares-clause-writes
returns-then-shares-clause-writes g c =
    let n = c.args.owner.now in
    let tail = tail_laid c.args.rtype.0 c.args.ttl c.args.rdata.now in
    writes_both (name_laid n) tail (λ _ _ _. tt) c.if-not-put_owner.false c.put_owner.ensures.writes c.put_shared_tail.ensures.writes

pub returns-else-shares-clause-writes : goal.returns-else-shares-clause-writes
returns-else-shares-clause-writes g c =
    let t = c.args.rtype.0 in
    let d = c.args.rdata.now in
    let x = c.record_numbers.result in
    let tail = tail_laid t c.args.ttl d in
    let whole : laid_parts t d ≡ octets d ∷ [] =
    ap (λ b. cond b (parts t d) (octets d ∷ [])) (sym c.requires.shares ∙ c.if-shares.false) in
    let last = writes_as
    (octets_laid (x ++ d)) tail (plain_laid t c.args.ttl d x c.record_numbers.ensures whole)
    (c.append.ensures.writes (g.H.SuffixHash.hashes c.put_owner.new.hash)) in
    writes_both (name_laid c.args.owner.now) tail (λ _ _ _. tt) c.if-not-put_owner.false
    c.put_owner.ensures.writes last
