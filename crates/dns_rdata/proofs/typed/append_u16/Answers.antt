use Rattle.dns_rdata.proofs.Common.{rules, get_or, ◌∷◌, [], arith, sym, ap, ◌∙◌, on_ok_weaker}
use Rattle.dns_rdata.proofs.FormWords.{number_appended}
use Rattle.dns_spec.proofs.General.Options.{ok_or-some}
use Rattle.dns_rdata.proofs.typed.append_u16.Goals as goal

pub returns : goal.returns
returns c =
    let n = c.in_ok-number.number in
    let read = (c.read_number.ensures n).0
    (ok_or-some c.read_number.result _ n (sym c.ok_or.ensures.value ∙ c.in_ok-number.was)) in
    let octets = ap (λ x. get_or x 2 0 ∷ get_or x 3 0 ∷ []) c.to_be_bytes.ensures in
    record {
      ok = on_ok_weaker c.append.result (number_appended 2 (omega arith) n c.args.text.now _ _ _
          read.0 (omega (arith, read.1)) octets) c.append.ensures.ok;
      fault = search rules;
      which = search rules;
    }
