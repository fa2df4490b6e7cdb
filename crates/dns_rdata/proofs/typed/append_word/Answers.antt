use Rattle.dns_rdata.proofs.Common.{rules, ◌++◌, ap, sym, ◌∙◌, wire, inl, inr, number, domain, string, strings, on_ok_weaker}
use Rattle.dns_rdata.proofs.FormWords.{name_appended, word_said}
use Rattle.dns_rdata.proofs.typed.append_word.Goals as goal

pub returns-in_ok-spell-in-Domain : goal.returns-in_ok-spell-in-Domain
returns-in_ok-spell-in-Domain c = rw c.in-Domain.is
    (word_said domain _ _ _ _ _ _ (sym (ap (λ w. w.raw) c.word.view_is)) (search rules) (record {
      ok = on_ok_weaker c.append-in-Domain.result (λ grown.
          let spelled = c.in_ok-spell-in-Domain.ensures.ok in
          name_appended _ _ _ _ _ spelled.1 (grown
          ∙ ap (λ o. c.args.octets.now.items ++ o) (c.octets.ensures.value
          ∙ ap wire spelled.2))) c.append-in-Domain.ensures.ok;
      fault = search rules;
      which = search rules;
    }))

pub returns-in-U16 : goal.returns-in-U16
returns-in-U16 c = rw c.in-U16.is (word_said (number 2) _ _ _ _ _ _
    (sym (ap (λ w. w.raw) c.word.view_is)) (search rules) c.append_u16.ensures)

pub returns-in-U32 : goal.returns-in-U32
returns-in-U32 c = rw c.in-U32.is (word_said (number 4) _ _ _ _ _ _
    (sym (ap (λ w. w.raw) c.word.view_is)) (search rules) c.append_u32.ensures)

pub returns-in-String-field : goal.returns-in-String-field
returns-in-String-field c = elim c.in-String-field.is [
  | inl is ↦ rw is (word_said string _ _ _ _ _ _
      (sym (ap (λ w. w.raw) c.word.view_is)) (search rules) c.append_string.ensures)
  | inr is ↦ rw is (word_said strings _ _ _ _ _ _
      (sym (ap (λ w. w.raw) c.word.view_is)) (search rules) c.append_string.ensures)
]
