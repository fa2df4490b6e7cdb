-- Membership in lists, and lists in strict order.
use Rattle.std.specs.Prelude.{◌≡◌, ◌⊎◌, List, [], ◌∷◌}
use Rattle.std.specs.List.{AllByRecursion}
use Rattle.std.specs.declared.cmp.Ordering.{Ordering}
use Rattle.std.specs.declared.cmp.Ordering.TheVariants.{Less}

-- x is one of the elements
abbrev pub Among : {X : Type 0} → X → List X → Type 0
Among x [] = ⊥
Among x (y ∷ ys) = (x ≡ y) ⊎ Among x ys

-- each element is before those after it
abbrev pub Rises : {X : Type 0} → (X → X → Ordering) → List X → Type 0
Rises cmp [] = Unit {0}
Rises cmp (x ∷ xs) = AllByRecursion (λ y. cmp x y ≡ Less) xs × Rises cmp xs
