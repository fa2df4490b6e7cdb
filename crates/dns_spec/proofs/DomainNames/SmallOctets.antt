-- Octets below 256, and parts of lists of them.
use Rattle.dns_spec.proofs.Common.{◌≡◌, ℕ, suc, ◌<◌, nat_lt, All, true, [], ◌∷◌, ◌++◌, refl, arith, and_from, lt-ltb, list_all, Octets}

abbrev pub Small : Octets → Type 0
Small = All (λ o. o < 256)

pub small_head : (o : ℕ) (d : Octets) → Small (o ∷ d) → o < 256
small_head o d small = small 0 0 (omega arith)

pub small_tail : (o : ℕ) (d : Octets) → Small (o ∷ d) → Small d
small_tail o d small = λ k e inside. small (suc k) e (omega arith)

pub small_front : (x y : Octets) → Small (x ++ y) → Small x
small_front [] y small = λ k e inside. absurd (omega (arith, inside))
small_front (o ∷ x) y small =
    grind (arith, small_head, small_tail, (small_front x y (small_tail o (x ++ y) small)))

pub small_back : (x y : Octets) → Small (x ++ y) → Small y
small_back [] y small = small
small_back (o ∷ x) y small = small_back x y (small_tail o (x ++ y) small)

pub small_test : (d : Octets) → Small d → list_all (λ o. nat_lt o 256) d ≡ true
small_test [] small = refl
small_test (o ∷ d) small =
    and_from _ _ (lt-ltb o 256 (small_head o d small)) (small_test d (small_tail o d small))
