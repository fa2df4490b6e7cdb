-- The entries of a text are taken one after another: the whole text means the records so far,
-- followed by what the remaining text means.
use Rattle.dns_master.proofs.Common.{◌≡◌, Bool, List, [], ◌++◌, length, take, nat_lt, append_assoc, arith, Octets, DomainName, ResourceRecord, Meaning, after, Means}
unfoldable use Rattle.dns_master.proofs.Common.{TextMeans}

pub after-append : (rs taken : List ResourceRecord) (m : Meaning)
    → after rs (after taken m) ≡ after (rs ++ taken) m
after-append rs taken m = grind (arith, append_assoc)

pub after-nil : (m : Meaning) → after [] m ≡ m
after-nil m = grind arith

-- the octets up to the limit, and whether the text goes on past it, decide the meaning of the text
pub looked-means : (o : DomainName) (text front : Octets) (goes_on : Bool) (m : Meaning)
    → front ≡ take 16777216 text
    → goes_on ≡ nat_lt 16777216 (length text) → TextMeans o [] goes_on front m → Means o text m
unfolding TextMeans
looked-means o text front goes_on m looked after h = grind arith
