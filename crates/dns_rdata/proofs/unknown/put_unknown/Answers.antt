use Rattle.dns_rdata.proofs.Common.{arith, ap, sym, ◌∙◌, subst, SaysUnknown}
use Rattle.std.proofs.lemmas.List.{drop_all}
use Rattle.dns_rdata.proofs.UnknownLemmas.{WordsSoFar-at, WordsSoFar-more, word_refused, same_fault, past_count, says_unknown, only_octets, count_is_length}
use Rattle.dns_rdata.proofs.unknown.put_unknown.Goals as goal

pub returns-in_err-append_word-clause-fault : goal.returns-in_err-append_word-clause-fault
returns-in_err-append_word-clause-fault c =
    let ws = c.in-Some.others.now in
    same_fault _ _ c.in_err-append_word.field-0.0 c.from_residual-in_err-append_word.ensures.1
    (λ memory d said short. word_refused c.word-item.result ws _ _ d
    (WordsSoFar-at ws _ _ _ c.words-test.true c.word-item.is c.words.invariant)
    (c.in_err-append_word.ensures.fault memory)
    (subst (λ all. SaysUnknown all d) c.in-Some.ensures.cases.0 said).2)

pub returns-then-len-count-clause-fault : goal.returns-then-len-count-clause-fault
returns-then-len-count-clause-fault c = λ _ d said short.
    let number = (c.read_number.ensures c.in_ok-count.count).0 c.in_ok-count.ensures.ok_part in
    let ws = c.in-Some.others.now in
    past_count c.in-Some.first.now ws _ c.in_ok-count.count c.append_word.new.octets.items d
    (WordsSoFar-more ws _ _ _ _
    (WordsSoFar-at ws _ _ _ c.words-test.true c.word-item.is c.words.invariant)
    c.in_ok-append_word.ensures.ok) (sym (ap (λ w. w.raw) c.first.view_is) ∙ number.0)
    (omega (arith, c.if-len-count.true, c.len.ensures)) number.1
    (subst (λ all. SaysUnknown all d) c.in-Some.ensures.cases.0 said) short

pub words-preserved : goal.words-preserved
words-preserved c =
    let ws = c.in-Some.others.now in
    WordsSoFar-more ws _ _ _ _
    (WordsSoFar-at ws _ _ _ c.words-test.true c.word-item.is c.words.invariant)
    c.in_ok-append_word.ensures.ok

pub returns-then-len-count-2-clause-fault : goal.returns-then-len-count-2-clause-fault
returns-then-len-count-2-clause-fault c = grind (arith, only_octets, count_is_length, drop_all)

pub returns-clause-ok : goal.returns-clause-ok
returns-clause-ok c = grind (arith, says_unknown, drop_all)

pub returns-clause-short : goal.returns-clause-short
returns-clause-short c =
    let number = (c.read_number.ensures c.in_ok-count.count).0 c.in_ok-count.ensures.ok_part in
    omega (arith, number.1, c.len-2.ensures, c.if-len-count-2.false)
