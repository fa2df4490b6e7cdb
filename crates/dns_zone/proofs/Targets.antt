-- The target of data in lower case is in lower case.
use Rattle.dns_zone.proofs.Common.{◌≡◌, ℕ, true, Option, Some, IfSome, List, [], ◌∷◌, map, arith, Octets, DomainName, folded, Part, octets, name, part_folded, first_name, valid, parts, lower_case, target, lowered_data}

first_lowered : (xs : List Part) (m : DomainName)
    → map part_folded xs ≡ xs → first_name xs ≡ Some m → folded m ≡ m
first_lowered [] m e h = cc
first_lowered (octets o ∷ xs) m e h =
    let rest : map part_folded xs ≡ xs = cc in first_lowered xs m rest h
first_lowered (name n ∷ xs) m e h = let low : folded n ≡ n = cc in let same : n ≡ m = cc in cc

pub target_lowered : (t : ℕ) (d : Octets) (m : DomainName)
    → valid t d ≡ true → lower_case t d ≡ d → target t d ≡ Some m → folded m ≡ m
target_lowered t d m ok low h = grind (arith, first_lowered, parts, lowered_data)

pub target_if : (t : ℕ) (d : Octets) (x : Option DomainName)
    → valid t d ≡ true → lower_case t d ≡ d → x ≡ target t d → IfSome x (λ m. folded m ≡ m)
target_if t d x h h1 h2 = grind (arith, target_lowered)
