use Rattle.dns_wire.proofs.Common.{ℕ, List, arith, ◌≡◌, nil_from_length, Octets, fields_in, data_read}
use Rattle.dns_spec.specs.Data as Data
use Rattle.dns_rdata.specs.declared.table.Field.{Field}
use Rattle.dns_wire.proofs.FieldLemmas.{field_more, fields_end, end_fault_of_all, AreFieldsRead}
use Rattle.dns_wire.proofs.ValidData.{data_valid}
use Rattle.dns_wire.proofs.data.read_data.Goals as goal

left : {b o : Octets} {all : List Data.Field} {i e j : ℕ} {ps qs : List Field} → ps ≡ qs
    → AreFieldsRead b all i e (fields_in ps) j o → AreFieldsRead b all i e (fields_in qs) j o
left {b} {o} {all} {i} {e} {j} same reading = grind arith

pub fields-preserved : goal.fields-preserved
fields-preserved c =
    field_more (left c.in-Some.ensures.cases.0 c.fields.invariant) c.in_ok-offset.ensures.ok

pub returns-clause-ok : goal.returns-clause-ok
returns-clause-ok c =
    data_read _ c.args.rtype.0 c.args.rclass _ _ _ c.requires.ordered c.requires.within
    (fields_end (left (nil_from_length _ c.in_default.ensures.cases) c.fields.invariant)
    c.if-offset-end.false)

pub returns-clause-valid : goal.returns-clause-valid
returns-clause-valid c =
    data_valid c.args.message.now c.args.rtype.0 c.args.rclass c.args.at c.args.end
    c.fields.data.items (returns-clause-ok c) (omega (arith, c.requires.short))

pub returns-in_err-offset-clause-fault : goal.returns-in_err-offset-clause-fault
returns-in_err-offset-clause-fault c =
    let reading = left c.in-Some.ensures.cases.0 c.fields.invariant in
    grind arith

pub returns-then-offset-end-clause-fault : goal.returns-then-offset-end-clause-fault
returns-then-offset-end-clause-fault c _ =
    end_fault_of_all (left (nil_from_length _ c.in_default.ensures.cases) c.fields.invariant)
