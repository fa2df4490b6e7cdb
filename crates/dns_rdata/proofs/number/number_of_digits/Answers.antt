use Rattle.dns_rdata.proofs.Common.{◌^◌, arith}
use Rattle.dns_rdata.proofs.NumberLemmas.{no_digit, digit_more, past_bound, all_more, none_iff, not_below, all_read}
use Rattle.dns_rdata.proofs.number.number_of_digits.Goals as goal

pub returns-then-not-is_ascii_digit : goal.returns-then-not-is_ascii_digit
returns-then-not-is_ascii_digit c = grind (arith, no_digit)

pub returns-in_err-checked_mul : goal.returns-in_err-checked_mul
returns-in_err-checked_mul c =
    none_iff _ _ c.from_residual.ensures
    (λ h. past_bound c.args.digits.now c.digits.digit-index c.digits.number
    (2 ^ 32) c.digits-test.true c.if-not-is_ascii_digit.ensures.cases c.digits.invariant.value
    (omega (arith, not_below _ _ c.in_err-checked_mul.ensures)) h.1)

pub returns-in_err-number : goal.returns-in_err-number
returns-in_err-number c =
    none_iff _ _ c.from_residual-in_err-number.ensures
    (λ h. past_bound c.args.digits.now c.digits.digit-index c.digits.number
    (2 ^ 32) c.digits-test.true c.if-not-is_ascii_digit.ensures.cases c.digits.invariant.value
    (grind (arith, not_below)) h.1)

pub digits-preserved : goal.digits-preserved
digits-preserved c = grind (arith, all_more, digit_more)

pub returns : goal.returns
returns c = all_read c.args.digits.now c.digits.digit-index c.digits.number (2 ^ 32)
    c.digits-test.false c.digits.invariant.digits c.digits.invariant.value c.digits.invariant.fits
