use Rattle.dns_rdata.proofs.Common.{ap, sym, subst, ◌∙◌, eqb-false, AppendsHex}
use Rattle.dns_rdata.proofs.UnknownLemmas.{word_appends}
use Rattle.dns_rdata.proofs.unknown.append_word.Goals as goal

pub returns-clause-ok : goal.returns-clause-ok
returns-clause-ok c =
    word_appends _ _ _ _ (sym (ap (λ w. w.is_quoted) c.word.view_is) ∙ c.if-word.false)
    (ap (λ w. w.raw) c.word.view_is)
    (eqb-false _ _ (sym c.is_empty.ensures ∙ c.if-is_empty.false))
    (subst (λ b. AppendsHex c.word.inside.raw.now b c.args.octets.now.items
    c.append_hex.new.octets.items) c.if-not-branch.false c.in_ok-append_hex.ensures)
