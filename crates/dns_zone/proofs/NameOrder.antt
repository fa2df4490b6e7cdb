-- The canonical order of names.
use Rattle.dns_zone.proofs.Common.{◌≡◌, true, Equal, arith, tied_itself, DomainName, folded, same, name_order, name_order_total, names_equal-decides}

pub same-is : (n m : DomainName) → same n m ≡ true → folded n ≡ folded m
same-is n m h = (names_equal-decides (folded n) (folded m)).0 h

pub same-from : (n m : DomainName) → folded n ≡ folded m → same n m ≡ true
same-from n m e = (names_equal-decides (folded n) (folded m)).1 e

pub same-tied : (n m : DomainName) → same n m ≡ true → name_order n m ≡ Equal
same-tied n m h = grind (arith, same-is, tied_itself, name_order_total)
