use Rattle.dns_master.proofs.Common.{subst, sym, ◌∙◌, fields, fault_of}
use Rattle.dns_master.specs.TakeForm.{FieldsBlamed}
use Rattle.dns_master.proofs.earlier.Earlier.take_record.Goals as goal

pub returns-in-Err-clause-err : goal.returns-in-Err-clause-err
returns-in-Err-clause-err c = λ some o earlier owner known.
    let blame = c.record_blame in
    let n = c.take_fields.new.buffers.words_before_fault in
    let same = blame.ensures.code in
    let given = c.in-Err.ensures.err (λ e. some (same ∙ e)) o earlier owner known in (
      n,
      subst (λ k. FieldsBlamed o earlier c.args.self.now.last.owner
          (fields c.args.words.now) (fault_of k) blame.result.number n) (sym same)
          (subst (λ k. FieldsBlamed o earlier c.args.self.now.last.owner
          (fields c.args.words.now) (fault_of c.in-Err.fault.code) k n)
          (sym blame.ensures.number) given),
      rw same blame.ensures.words,
    )
