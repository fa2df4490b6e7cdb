-- Facts about tests, and sums of two cases.
use Rattle.dns_spec.proofs.Common.{Bool, arith, false, inl, inr, not, true, ◌&&◌, ◌||◌, ◌≡◌, ◌⊎◌}

pub in_rest : {A B C : Type 0} → A ⊎ B → (B → C) → A ⊎ C
in_rest h h1 = grind arith

-- in a conjunction, a test replaced by another test that fails if it does
pub and_later : (x y z : Bool) → (y ≡ false → z ≡ false) → (x && y) ≡ false → (x && z) ≡ false
and_later x y z h h1 = grind arith

-- a test that follows from another
pub follows : (a b : Bool) → (not a || b) ≡ true → a ≡ true → b ≡ true
follows a b h h1 = grind arith

-- tests are equal if each implies the other
pub same_tests : (a b : Bool) → (a ≡ true → b ≡ true) → (b ≡ true → a ≡ true) → a ≡ b
same_tests a b h h1 = grind arith

-- A holds, but without a value of it (double negation)
abbrev pub Sure : Type 0 → Type 0
Sure A = (A → ⊥) → ⊥

pub sure : {A : Type 0} → A → Sure A
sure a none = none a

pub and_so : {A B : Type 0} → Sure A → (A → Sure B) → Sure B
and_so a f none = a (λ x. f x none)

pub either_way : (A : Type 0) → Sure (A ⊎ (A → ⊥))
either_way A none = none (inr (λ a. none (inl a)))
