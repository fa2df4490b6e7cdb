-- If the octets of a wire form are small, so are the octets of the name's labels.
use Rattle.dns_zone.proofs.Common.{ℕ, ◌<◌, All, [], ◌∷◌, ◌++◌, length, get_or, get_or_default_zero, sym, subst, All-nil, All-cons, Octets, DomainName, wire, Small, small_tail, small_front, small_back}

pub small_labels : (n : DomainName) → Small (wire n) → All Small n
small_labels [] h = All-nil Small
small_labels (l ∷ n) h =
    let after = small_tail (length l) (l ++ wire n) h in
    All-cons Small l n (small_front l (wire n) after) (small_labels n (small_back l (wire n) after))

pub small_octets : (xs : Octets) → ((k : ℕ) → get_or xs k 0 < 256) → Small xs
small_octets xs f = λ k d h. subst (λ o. o < 256) (sym (get_or_default_zero xs k d h)) (f k)
