-- The number that octets encode, as `byteorder` reads it.
use Rattle.std.proofs.Common.{length-take}
use Rattle.byteorder.specs.Endian.{big_from}
use Rattle.std.proofs.Math.Seq.{drop-cons}
use Rattle.dns_rdata.proofs.Common.{ap, ◌∙◌, zero, suc, ◌+◌, ◌∷◌, refl, get_or, ◌≡◌, ℕ, ◌-◌, ◌≤◌, length, take, drop, arith, length-drop, take_all, Octets, number_of, big_number}

big_from_is : (i n : ℕ) (xs : Octets)
    → i + n ≤ length xs → big_from i n xs ≡ number_of (take n (drop i xs))
big_from_is i zero xs h = refl
big_from_is i (suc n) xs h =
    let e : drop i xs ≡ get_or xs i 0 ∷ drop (suc i) xs = drop-cons xs i 0 (omega arith) in
    let size : length (take n (drop (suc i) xs)) ≡ n =
    omega (arith, length-take n (drop (suc i) xs), length-drop (suc i) xs) in
    rw (e, size, big_from_is (suc i) n xs (omega arith)) refl

-- the number of a list of k octets
pub big_number_is : (k : ℕ) (xs : Octets) → k ≤ length xs
    → big_number k (take k xs) ≡ number_of (take k xs)
big_number_is k xs h =
    let size : length (take k xs) ≡ k = omega (arith, length-take k xs) in
    big_from_is 0 k (take k xs) (omega (arith, size))
    ∙ ap number_of (take_all k (take k xs) (omega (arith, size)))

-- the last k octets are at least four, so a number may be read from them
pub four_long : (xs : Octets) (k : ℕ) → 4 ≤ k
    → k ≤ length xs → 4 ≤ length (take (length xs - (length xs - k)) (drop (length xs - k) xs))
four_long xs k some long = grind (arith, take_all, length-drop)

pub number_in_last : (xs : Octets) (k : ℕ) → 4 ≤ k → k ≤ length xs → big_number 4 (take (length
    xs - (length xs - k)) (drop (length xs - k) xs)) ≡ number_of (take 4 (drop (length xs - k) xs))
number_in_last xs k some long = grind (arith, take_all, length-drop)
