use Rattle.dns_rdata.proofs.Common.{◌≡◌, ◌<◌, ◌^◌, take, AllDigits, digits_value}
use Rattle.dns_rdata.proofs.number.number_of_digits.Given as goal

-- the digits read so far spell the number
abbrev pub invariant-digits : goal.invariant-digits
invariant-digits l = record {
  digits : AllDigits 10 (take l.digit-index l.digits);
  value : l.number ≡ digits_value 10 (take l.digit-index l.digits);
  fits : l.number < 2 ^ 32;
}
