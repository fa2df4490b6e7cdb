use Rattle.dns_name.proofs.Common.{arith, false≢true}
use Rattle.dns_name.proofs.WireLemmas.{BeginsWithLabel-IsWireForm, labels_of-zero, IsWireForm-nil}
use Rattle.dns_name.proofs.name_ref.first_label.Goals as goal

pub returns-in_err-length : goal.returns-in_err-length
returns-in_err-length c = absurd (IsWireForm-nil _ c.requires c.in_err-length.ensures.cases)

pub returns-then-length-eq0 : goal.returns-then-length-eq0
returns-then-length-eq0 c =
    labels_of-zero _ _ _ c.requires c.in_ok-length.ensures.cases.0 c.if-length-eq0.true

pub split_at-requires : goal.split_at-requires
split_at-requires c =
    (BeginsWithLabel-IsWireForm
    _ _ _ c.requires c.in_ok-length.ensures.cases.0 c.if-length-eq0.false).fits

pub returns-in_err-new : goal.returns-in_err-new
returns-in_err-new c = grind (arith, BeginsWithLabel-IsWireForm, false≢true)

pub returns : goal.returns
returns c = grind (arith, BeginsWithLabel-IsWireForm)
