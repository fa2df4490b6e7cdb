-- Numbers that are written in decimal are read back as the same octets.
use Rattle.dns_spec.proofs.Common.{◌≡◌, ℕ, zero, suc, ◌+◌, ◌*◌, ◌^◌, ◌<◌, [], ◌∷◌, length, refl, sym, ◌∙◌, ap, subst, arith, pow-suc, mul_comm, mod-eq_of_lt, same_from_place, mul-add-lt, decimal, bytes_high_first, Octets, number_of, SaysNumber}
use Rattle.dns_spec.proofs.Messages.Places.{length-bytes_high_first, number_of-bytes}
use Rattle.dns_spec.proofs.DomainNames.SmallOctets.{Small, small_head, small_tail}

pub number_of-below : (x : Octets) → Small x → number_of x < 256 ^ length x
number_of-below [] small = omega arith
number_of-below (o ∷ x) small =
    let unit = 256 ^ length x in
    omega (
      arith,
      pow-suc 256 (length x),
      mul_comm unit 256,
      mul-add-lt o unit
          (number_of x) 256 (small_head o x small) (number_of-below x (small_tail o x small)),
    )

pub bytes_below : (k n : ℕ) → Small (bytes_high_first k n)
bytes_below zero n i d inside = absurd (omega (arith, inside))
bytes_below (suc k) n zero d inside = grind arith
bytes_below (suc k) n (suc i) d inside = bytes_below k n i d (omega (arith, inside))

-- the number of octets and their length determine them
one_spelling : (x y : Octets)
    → length x ≡ length y → Small x → Small y → number_of x ≡ number_of y → x ≡ y
one_spelling [] [] long small small' e = refl
one_spelling [] (p ∷ y) long small small' e = absurd (omega (arith, long))
one_spelling (o ∷ x) [] long small small' e = absurd (omega (arith, long))
one_spelling (o ∷ x) (p ∷ y) long small small' e =
    let same_long : length x ≡ length y = omega (arith, long) in
    let below : number_of y < 256 ^ length x =
    subst (λ k. number_of y < 256 ^ k) (sym same_long) (number_of-below y (small_tail p y small'))
    in
    let f : o * 256 ^ length x + number_of x ≡ p * 256 ^ length x + number_of y =
    e ∙ ap (λ k. p * 256 ^ k + number_of y) (sym same_long) in
    let parts = same_from_place o (number_of x) p
    (number_of y) (256 ^ length x) (number_of-below x (small_tail o x small)) below f in
    ap (λ q. q ∷ x) parts.0 ∙ ap (λ z. p ∷ z)
    (one_spelling x y same_long (small_tail o x small) (small_tail p y small') parts.1)

pub number_said : (k : ℕ) (x : Octets) → length x ≡ k → Small x
    → SaysNumber k (decimal (number_of x)) x
number_said k x long small =
    grind (
      arith,
      number_of-below,
      one_spelling,
      length-bytes_high_first,
      bytes_below,
      number_of-bytes,
      mod-eq_of_lt,
    )
