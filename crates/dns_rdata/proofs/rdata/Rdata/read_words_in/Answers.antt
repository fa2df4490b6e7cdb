use Rattle.dns_rdata.proofs.Common.{data_once, fault_handed_on, rules, sym, subst, refl, ◌≡◌, true}
use Rattle.dns_spec.specs.DataText.{is_unknown_mark}
use Rattle.dns_spec.specs.AllFaults.{FaultyData}
use Rattle.dns_rdata.proofs.UnknownFaults.{said_at, each_fault}
use Rattle.dns_spec.proofs.DataWords.OneFault.{no_data_said}
use Rattle.dns_rdata.proofs.rdata.Rdata.read_words_in.Goals as goal

pub returns-in_err-put_typed-clause-fault : goal.returns-in_err-put_typed-clause-fault
returns-in_err-put_typed-clause-fault c =
    let fault = c.in_err-put_typed in
    fault_handed_on _ fault.field-0.0 _ c.from_residual-in_err-put_typed.ensures.1
    (λ other d said. no_data_said _ _ _ _ d (fault.ensures.which other) said)

pub returns-clause-only : goal.returns-clause-only
returns-clause-only c = λ e said. data_once _ _ _ _ _ said c.in_ok-put_typed.ensures.ok

pub returns-then-is_unknown_mark-clause-faulty : goal.returns-then-is_unknown_mark-clause-faulty
returns-then-is_unknown_mark-clause-faulty c =
    let marked : is_unknown_mark c.in-Some.first.now ≡ true = search rules in
    each_fault c.lowered.result _ (λ fault memory.
    subst (λ ws. FaultyData c.args.rtype.0 ws c.args.origin.now 1) (sym c.in-Some.ensures.cases.0)
    (rw marked (
      0,
      said_at c.in-Some.others.now c.put_unknown.new.octets.items
          (search rules) (search rules),
      refl,
    )))
