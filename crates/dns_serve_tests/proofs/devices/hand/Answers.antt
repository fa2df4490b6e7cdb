use Rattle.std.proofs.Common.{◌≡◌, ◌∙◌, ap, take, min, length, List, ℕ, ◌++◌}
use Rattle.std.proofs.lemmas.List.{take_at, take_min}
use Rattle.dns_serve_tests.proofs.devices.hand.Goals as goal

copied : (d p c r : List ℕ) (n : ℕ) → n ≡ min 512 (length d) → p ≡ take n d → c ≡ p
    → take (length p) (c ++ r) ≡ take 512 d
copied d p c r n n_is p_is c_is =
    take_at c r (length p) (ap length c_is) ∙ c_is ∙ p_is ∙ ap (λ k. take k d) n_is ∙ take_min 512 d

pub returns-clause-handed : goal.returns-clause-handed
returns-clause-handed c =
    copied c.args.datagram.now c.split_at.result.0.now c.copy_from_slice.new.self
    c.split_at_mut-front.result.1.now c.min.result c.min.ensures c.split_at.ensures.front
    c.copy_from_slice.ensures.after
