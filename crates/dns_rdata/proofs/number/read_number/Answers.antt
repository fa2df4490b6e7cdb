use Rattle.dns_rdata.proofs.Common.{refl, arith}
use Rattle.dns_rdata.proofs.NumberLemmas.{SaysIff-none, SaysIff-some, no_text, zero_in_front, no_digits, greater}
use Rattle.dns_rdata.proofs.number.read_number.Goals as goal
use Rattle.dns_rdata.proofs.number.read_number.Goals.{else-first-eq48-via-then-first-eq48+else-word-ne1, else-first-eq48-via-else-first-eq48}

pub returns-in_err-first : goal.returns-in_err-first
returns-in_err-first c = grind (arith, SaysIff-none, no_text)

pub returns-then-word-ne1 : goal.returns-then-word-ne1
returns-then-word-ne1 c = grind (arith, SaysIff-none, zero_in_front)

pub returns-in_err-number : goal.returns-in_err-number
returns-in_err-number c = grind (arith, SaysIff-none, no_digits)

pub returns-then-number-most : goal.returns-then-number-most
returns-then-number-most c =
    SaysIff-none _ _ _ refl
    (greater _ _ c.ranges.most.fits
    (omega (arith, c.in_ok-number.ensures.1, c.if-number-most.true)))

pub returns : goal.returns
returns c = grind (arith, SaysIff-some)
