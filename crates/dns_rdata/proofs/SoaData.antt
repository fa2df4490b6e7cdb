-- The data of an SOA is long enough for the five numbers at its end.
use Rattle.dns_rdata.proofs.Common.{◌≡◌, ℕ, zero, suc, ◌*◌, ◌≤◌, true, List, ◌∷◌, length, replicate, take, ap, arith, length-append, Some, Octets, Part, number, domain, type_soa, cut, valid, cut_into, cut_data, name_part, front_taken}

numbers_long : (m : ℕ) (d : Octets) (xs : List Part)
    → cut (replicate m (number 4)) d ≡ Some xs → m * 4 ≤ length d
numbers_long zero d xs e = omega arith
numbers_long (suc m) d xs e =
    let c = cut_into (number 4) (replicate m (number 4)) d xs e in
    let t = front_taken 4 d c.part c.rest c.front in
    let more = numbers_long m c.rest c.others c.more in
    omega (arith, more, t.1, ap length t.0, length-append (take 4 d) c.rest)

pub soa-long : (d : Octets) → valid type_soa d ≡ true → 20 ≤ length d
soa-long d h =
    let c = cut_data type_soa d h in
    let server = cut_into domain (domain ∷ replicate 5 (number 4)) d c.cut_parts c.is_cut in
    let mailbox =
    cut_into domain (replicate 5 (number 4)) server.rest server.others server.more in
    let m = name_part d server.rest server.part server.front in
    let n = name_part server.rest mailbox.rest mailbox.part mailbox.front in
    let long = numbers_long 5 mailbox.rest mailbox.others mailbox.more in
    grind (arith, length-append)
